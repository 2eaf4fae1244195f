-- What follows from the definitions alone: a head that is written is read back.
use Rattle.std.specs.Prelude.{◌≡◌, ◌^◌, ◌<◌, ◌≤◌, ℤ, FitsSigned, List, ◌++◌, length, map, Ok}
use Rattle.std.specs.Int.{w64}
use Rattle.std.specs.List.{All, AllByRecursion}
use Rattle.schema.specs.declared.RowId.{RowId}
use Rattle.schema.specs.declared.Table.{Table}
use Rattle.script_text.specs.Laws.{HasRanges}
use Rattle.log_tools.specs.Head.{tables_text, entries_text, present, head_lines}

-- the numbers of a row are of their types, and it has one to sixteen columns
pub record RowHasRanges (row : RowId × List ℤ) : Type 0 where
  pub table : row.0.table < 2 ^ 16
  pub key : FitsSigned w64 row.0.key
  pub columns : All (λ z. FitsSigned w64 z) row.1
  pub some : 1 ≤ length row.1
  pub few : length row.1 ≤ 16

-- What is written of tables and rows says these, whoever reads it.
abbrev pub HeadsReadBack : Type 0
HeadsReadBack = (tables : List Table) (rows : List (RowId × List ℤ)) → AllByRecursion HasRanges tables → AllByRecursion RowHasRanges rows →
    head_lines (tables_text tables ++ entries_text (map present rows)) ≡ Ok (record { tables = tables; rows = rows })
