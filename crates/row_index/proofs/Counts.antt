-- The counts follow the rows.
use Rattle.std.proofs.Common.{◌≡◌, ◌∙◌, sym, ap, refl, ℕ, ◌+◌, ◌≤◌, arith, Bool, false, cond, ℤ, List, [], ◌∷◌, ◌++◌, length, Option, Some, None}
use Rattle.std.specs.Prelude.{unwrap_or, option_and_then, option_to_list}
use Rattle.std.specs.List.{count_by}
use Rattle.std.specs.Map.{keys_of}
use Rattle.std.specs.Option.{option_map_or}
use Rattle.std.specs.FinMap.{get, empty, entries, get-empty, len-empty, len-entries}
use Rattle.std.proofs.lemmas.List.Concat.{flat_map-cons}
use Rattle.std.proofs.lemmas.List.Sums.{sum_by-cons, count_by-le-length}
use Rattle.schema.specs.declared.Table.{Table}
use Rattle.schema.specs.declared.RowId.{RowId}
use Rattle.schema.specs.RowId.{row_cmp, same_row}
use Rattle.rows.specs.Database.{Database, parent_of, parent_in}
use Rattle.store_trait.specs.Batch.{Entry, IsRising, put_batch}
use Rattle.rows.specs.Step.{parent_at}
use Rattle.overlay.specs.Children.{names_row, left_names, child_count}
use Rattle.overlay.proofs.ChildCounts.{count_moves, changed_are_counted}
use Rattle.row_index.specs.Counts.{Counts, CountsChildren, Recounts, count_at, times_in, parents_at, parents_left}
use Rattle.row_index.specs.Laws.{NoneCounted, CountsFollow, ChildrenMove, OldAreCounted, ChildrenAreRows}
use Rattle.row_index.proofs.Recounts.{times-cons}

-- ---- a row among the parents of others

abbrev one_if : Bool → ℕ
one_if b = cond b 1 0

one_more : (row : RowId) (o : Option RowId) (rest : List RowId) → times_in (option_to_list o ++ rest) row ≡ one_if (option_map_or (same_row row) o false) + times_in rest row
one_more row None rest = omega arith
one_more row (Some p) rest = times-cons p rest row

-- what is left of a row names its parent
names_parent : (ts : List Table) (row id : RowId) (left : Option (List ℤ)) → option_map_or (same_row row) (option_and_then (parent_of ts id.table) left) false ≡ left_names ts row (id, left)
names_parent ts row id None = refl
names_parent ts row id (Some columns) = refl

module _ (ts : List Table) (row : RowId) where
  abbrev names_at : Database → Entry → Bool
  names_at db e = left_names ts row (e.0, get db e.0)

  times_before : (db : Database) (batch : List Entry) → times_in (parents_at ts (keys_of batch) db) row ≡ count_by (names_at db) batch
  times_before db [] = refl
  times_before db (e ∷ es) =
      ap (λ l. times_in l row) (flat_map-cons (parent_in ts db) e.0 (keys_of es))
      ∙ one_more row (parent_at ts e.0.table (get db e.0)) (parents_at ts (keys_of es) db)
      ∙ (λ i. one_if (names_parent ts row e.0 (get db e.0) i) + times_before db es i)
      ∙ sym (sum_by-cons (λ d. one_if (names_at db d)) e es)

  times_behind : (batch : List Entry) → times_in (parents_left ts batch) row ≡ count_by (left_names ts row) batch
  times_behind [] = refl
  times_behind (e ∷ es) =
      ap (λ l. times_in l row) (flat_map-cons (λ (d : Entry). option_to_list (parent_at ts d.0.table d.1)) e es)
      ∙ one_more row (parent_at ts e.0.table e.1) (parents_left ts es)
      ∙ (λ i. one_if (names_parent ts row e.0 e.1 i) + times_behind es i)
      ∙ sym (sum_by-cons (λ d. one_if (left_names ts row d)) e es)

-- ---- laws

pub children_move : ChildrenMove
children_move ts db batch row rising =
    (λ i. child_count ts (put_batch batch db) row + times_before ts row db batch i) ∙ count_moves ts row db batch rising ∙ (λ i. child_count ts db row + sym (times_behind ts row batch) i)

pub old_are_counted : OldAreCounted
old_are_counted ts db batch row rising = omega (arith, times_before ts row db batch, changed_are_counted ts row db batch rising)

pub children_are_rows : ChildrenAreRows
children_are_rows ts db row = omega (arith, count_by-le-length (λ (e : RowId × List ℤ). names_row ts row e.0.table e.1) (entries db), len-entries db)

pub none_counted : NoneCounted
none_counted ts row =
    omega (arith, ap (λ o. unwrap_or o 0) (get-empty {X = ℕ} row_cmp row), children_are_rows ts empty row, len-empty row_cmp (List ℤ))

pub counts_follow : CountsFollow
counts_follow ts db batch before after rising counted moves row = omega (arith, counted row, moves row, children_move ts db batch row rising)

-- ---- what is loaded into no rows

no_parents : (ts : List Table) (rows : List RowId) → parents_at ts rows empty ≡ []
no_parents ts [] = refl
no_parents ts (row ∷ rows) =
    flat_map-cons (parent_in ts empty) row rows
    ∙ (λ i. option_to_list (option_and_then (parent_of ts row.table) (get-empty {X = List ℤ} row_cmp row i)) ++ no_parents ts rows i)

pub loaded_counts : (ts : List Table) (batch : List Entry) (before after : Counts) → IsRising batch → before ≡ empty → Recounts [] (parents_left ts batch) before after →
    CountsChildren ts (put_batch batch empty) after
loaded_counts ts batch before after rising none moves =
    counts_follow ts empty batch before after rising (λ row. ap (λ (c : Counts). count_at c row) none ∙ none_counted ts row)
    (λ row. ap (λ l. count_at after row + times_in l row) (no_parents ts (keys_of batch)) ∙ moves row)

-- none of these rows has more children than they are
pub few_come : (ts : List Table) (entries : List Entry) (before : Counts) (row : RowId) → before ≡ empty → count_at before row + times_in (parents_left ts entries) row ≤ length entries
few_come ts es before row none =
    omega (
      arith,
      ap (λ (c : Counts). count_at c row) none,
      ap (λ o. unwrap_or o 0) (get-empty {X = ℕ} row_cmp row),
      times_behind ts row es,
      count_by-le-length (left_names ts row) es,
    )
