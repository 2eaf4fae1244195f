-- What follows from the definitions alone: the lines that are written are read back.
use Rattle.std.specs.Prelude.{◌≡◌, ◌^◌, ◌<◌, ◌≤◌, ℤ, FitsSigned, List, length, All, Some, IfSome}
use Rattle.std.specs.Int.{w64}
use Rattle.schema.specs.declared.RowId.{RowId}
use Rattle.schema.specs.declared.Table.{Table}
use Rattle.script_text.specs.Lines.{table, base, table_of, base_of, line_of, IsLine}
use Rattle.script_text.specs.Heads.{table_words, table_text, base_words, base_text}

-- the numbers of a table are of their types
pub record HasRanges (t : Table) : Type 0 where
  pub id : t.id < 2 ^ 16
  pub columns : t.columns < 2 ^ 8
  pub unique : IfSome t.unique (λ column. column < 2 ^ 8)
  pub parent : IfSome t.parent (λ link. (link.0 < 2 ^ 8) × (link.1 < 2 ^ 16))

-- The text of a table is one line, is about a table, and its words are that table.
pub record TableReadsBack (t : Table) : Type 0 where
  pub one : IsLine (table_text t)
  pub about : line_of (table_text t) ≡ Some (table (table_words t))
  pub read : table_of (table_words t) ≡ Some t

-- The text of a row at the start is one line, is about such a row, and its words are that row.
pub record BaseReadsBack (row : RowId) (columns : List ℤ) : Type 0 where
  pub one : IsLine (base_text row columns)
  pub about : line_of (base_text row columns) ≡ Some (base (base_words row columns))
  pub read : base_of (base_words row columns) ≡ Some (row, columns)

abbrev pub TablesReadBack : Type 0
TablesReadBack = (t : Table) → HasRanges t → TableReadsBack t

abbrev pub BasesReadBack : Type 0
BasesReadBack = (row : RowId) (columns : List ℤ) → row.table < 2 ^ 16 → FitsSigned w64 row.key → All (λ z. FitsSigned w64 z) columns → 1 ≤ length columns → length columns ≤ 16
    → BaseReadsBack row columns
