-- What is written of tables and rows is read as these.
use Rattle.std.proofs.Common.{◌≡◌, ◌∙◌, ap, refl, ℕ, ◌+◌, ℤ, cond, eqb, List, [], ◌∷◌, ◌++◌, length, map, append-nil, append_assoc, Some, None, Ok, arith}
use Rattle.std.specs.List.{AllByRecursion}
use Rattle.std.proofs.lemmas.List.Splits.{slice_split_at}
use Rattle.std.proofs.lemmas.Str.{is_utf8-from_IsUtf8, IsUtf8-nil}
use Rattle.schema.specs.declared.RowId.{RowId}
use Rattle.schema.specs.declared.Table.{Table}
use Rattle.script_text.specs.Heads.{table_text, table_line, base_text}
use Rattle.script_text.specs.Laws.{HasRanges}
use Rattle.script_text.specs.Lines.{skipped, line_of, IsLine}
use Rattle.script_text.specs.Words.{◌>>=◌}
use Rattle.script_text.proofs.ReadBack.{tables_read_back, bases_read_back}
use Rattle.log_tools.specs.Head.{HeadLines, no_lines, added, said_with, said_by, lines_of, tables_text, entries_text, present}
use Rattle.log_tools.proofs.HeadTexts.{line_taken}
use Rattle.log_tools.specs.Laws.{RowHasRanges, HeadsReadBack}

-- a line is cut off the front of a text
line_cut : (line rest : List ℕ) → IsLine line → lines_of ((line ++ 10 ∷ []) ++ rest) ≡ line ∷ lines_of rest
line_cut line rest one = ap lines_of (append_assoc line (10 ∷ []) rest) ∙ slice_split_at (λ b. eqb b 10) line 10 rest one refl

-- the first line of a text, if it is taken
first_said : (h more : HeadLines) (n : ℕ) (line rest : List ℕ) → IsLine line → said_with h line ≡ Some more → said_by h n (lines_of ((line ++ 10 ∷ []) ++ rest)) ≡ said_by more (n + 1) (lines_of rest)
first_said h more n line rest one e = ap (said_by h n) (line_cut line rest one) ∙ line_taken h more n line (lines_of rest) e

-- ---- tables

with_tables : HeadLines → List Table → HeadLines
with_tables h ts = record h { tables = h.tables ++ ts }

table_said : (h : HeadLines) (t : Table) → HasRanges t → h.rows ≡ [] → said_with h (table_text t) ≡ Some (with_tables h (t ∷ []))
unfolding added with_tables
table_said h t ranges none =
    let back = tables_read_back t ranges in
    ap (λ o. o >>= added h) back.about ∙ rw (back.read, ap (λ l. length l) none) refl

tables_said : (ts : List Table) (h : HeadLines) (n : ℕ) (rest : List ℕ) → AllByRecursion HasRanges ts → h.rows ≡ [] →
    said_by h n (lines_of (tables_text ts ++ rest)) ≡ said_by (with_tables h ts) (n + length ts) (lines_of rest)
unfolding with_tables
tables_said [] h n rest ranges none =
    let same : n + 0 ≡ n = omega arith in
    rw (append-nil h.tables, same) refl
tables_said (t ∷ ts) h n rest ranges none =
    let later : n + 1 + length ts ≡ n + length (t ∷ ts) = omega arith in
    ap (λ l. said_by h n (lines_of l)) (append_assoc (table_line t) (tables_text ts) rest)
    ∙ first_said h (with_tables h (t ∷ [])) n (table_text t) (tables_text ts ++ rest) (tables_read_back t ranges.0).one (table_said h t ranges.0 none)
    ∙ tables_said ts (with_tables h (t ∷ [])) (n + 1) rest ranges.1 none
    ∙ rw (append_assoc h.tables (t ∷ []) ts, later) refl

-- ---- rows

with_rows : HeadLines → List (RowId × List ℤ) → HeadLines
with_rows h rows = record h { rows = h.rows ++ rows }

row_said : (h : HeadLines) (row : RowId × List ℤ) → RowHasRanges row → said_with h (base_text row.0 row.1) ≡ Some (with_rows h (row ∷ []))
unfolding added with_rows
row_said h row ranges =
    let back = bases_read_back row.0 row.1 ranges.table ranges.key ranges.columns ranges.some ranges.few in
    ap (λ o. o >>= added h) back.about ∙ rw back.read refl

-- what stands after the last LF says nothing
end_said : (h : HeadLines) → said_with h [] ≡ Some h
unfolding line_of added
end_said h = ap (λ b. cond b (Some skipped) None >>= added h) (is_utf8-from_IsUtf8 [] IsUtf8-nil)

rows_said : (rows : List (RowId × List ℤ)) (h : HeadLines) (n : ℕ) → AllByRecursion RowHasRanges rows → said_by h n (lines_of (entries_text (map present rows))) ≡ Ok (with_rows h rows)
unfolding said_by with_rows
rows_said [] h n ranges = line_taken h h n [] [] (end_said h) ∙ rw (append-nil h.rows) refl
rows_said (row ∷ rows) h n ranges =
    first_said h (with_rows h (row ∷ [])) n (base_text row.0 row.1) (entries_text (map present rows))
    (bases_read_back row.0 row.1 ranges.0.table ranges.0.key ranges.0.columns ranges.0.some ranges.0.few).one (row_said h row ranges.0)
    ∙ rows_said rows (with_rows h (row ∷ [])) (n + 1) ranges.1
    ∙ rw (append_assoc h.rows (row ∷ []) rows) refl

pub heads_read_back : HeadsReadBack
unfolding with_tables with_rows
heads_read_back tables rows of_tables of_rows =
    tables_said tables no_lines 1 (entries_text (map present rows)) of_tables refl ∙ rows_said rows (with_tables no_lines tables) (1 + length tables) of_rows
