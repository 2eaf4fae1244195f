-- The first row of a table that has a value, and rows of which no two have one value in a unique column.
use Rattle.std.proofs.Common.{◌≡◌, ◌∙◌, sym, ap, subst, refl, Bool, true, false, true≢false, cond, is_lt, ℕ, ℤ, ◌<ℤ◌, List, [], ◌∷◌, Option, Some, None}
use Rattle.std.specs.Prelude.{slice_get, find, option_and_then}
use Rattle.std.specs.Option.{option_map, option_map_or}
use Rattle.std.specs.FinMap.{find as find_row, entries, entries_sorted, is_sorted, get-entries}
use Rattle.std.specs.FinMap.Entries.{below_all}
use Rattle.std.specs.Ordering.{int_cmp, MatchOrdering}
use Rattle.std.specs.declared.cmp.Ordering.{Ordering}
use Rattle.std.specs.declared.cmp.Ordering.TheVariants.{Less, Equal, Greater}
use Rattle.std.proofs.lemmas.Cmp.{int_ranked}
use Rattle.std.specs.Cmp.{tied_itself}
use Rattle.std.proofs.lemmas.Bool.{and_parts, and_from}
use Rattle.std.proofs.lemmas.Option.{none-some, same_Some}
use Rattle.schema.specs.declared.Table.{Table}
use Rattle.schema.specs.declared.RowId.{RowId}
use Rattle.schema.specs.RowId.{row_cmp, row_total, same_row}
use Rattle.schema.specs.Rows.{Mark, has_row}
use Rattle.schema.specs.Schema.{unique_of}
use Rattle.schema.proofs.Lists.{made_of, option_map_or_true}
use Rattle.schema.proofs.RowMaps.{row_is, same_row_itself}
use Rattle.schema.proofs.Telling.{is_less}
use Rattle.rows.specs.Database.{Database, mark_of, mark_in}
use Rattle.rows.specs.Holders.{has_mark, holder_of}
use Rattle.rows.proofs.Holders.{holder_there, no_holder, holder_of_marked}
use Rattle.rows.proofs.Marks.{mark_table, mark_there, there_marked, table_of_marked}
use Rattle.store_trait.specs.Contents.{row_at, IsAbove, HasValue, IsLeastWithValue, IsHolder}
use Rattle.store_trait.specs.Fits.{Fits, AreOfTables}
use Rattle.store_trait.specs.Laws.{FitsApart, StandingFits, FitsStands, HolderIsFirst}
use Rattle.store_trait.proofs.Batches.{holds, find_below}
use Rattle.store_trait.proofs.Visits.{stand_of_tables}
use Rattle.store_trait.proofs.Walks.{lesser_key}

-- ---- a walk over the rows of a table, in the order of keys

-- the rows that have the value are above a bound
abbrev pub ValuesAreAhead : Database → ℕ → ℕ → ℤ → Option ℤ → Type 0
ValuesAreAhead db table column value bound = (key : ℤ) → HasValue db table column value key → IsAbove bound key

-- ---- the first entry that passes a test

below_less : {X : Type 0} (id other : RowId) (es : List (RowId × X)) → row_cmp id other ≡ Less → below_all row_cmp other es ≡ true → below_all row_cmp id es ≡ true
below_less id other [] less below = refl
below_less id other (e ∷ es) less below =
    let parts = and_parts (is_lt (row_cmp other e.0)) (below_all row_cmp other es) below in
    and_from _ _ (ap is_lt (row_total.trans id other e.0 less (is_less (row_cmp other e.0) parts.0))) (below_less id other es less parts.1)

first_passes : {X : Type 0} (test : X → Bool) (xs : List X) (first : X) → find test xs ≡ Some first → test first ≡ true
first_passes test [] first is = cc
first_passes {X} test (x ∷ xs) first is = by (first_passes test xs first) (test x) refl is
  where
    by : (find test xs ≡ Some first → test first ≡ true) → (b : Bool) → test x ≡ b → cond b (Some x) (find test xs) ≡ Some first → test first ≡ true
    by rest true passes here = ap test (sym (same_Some x first here)) ∙ passes
    by rest false fails later = rest later

-- no entry of a row before that of the first passes
none_before : {X : Type 0} (test : RowId × X → Bool) (es : List (RowId × X)) (first : RowId × X) (id : RowId) (x : X) → is_sorted row_cmp es ≡ true → find test es ≡ Some first →
    find_row row_cmp id es ≡ Some x → row_cmp id first.0 ≡ Less → test (id, x) ≡ true → ⊥
none_before test [] first id x sorted is there less passes = cc
none_before {X} test (e ∷ es) first id x sorted is there less passes =
    let parts = and_parts (below_all row_cmp e.0 es) (is_sorted row_cmp es) sorted in
    by (none_before test es first id x parts.1) parts.0 (test e) refl (same_row id e.0) refl is there
  where
    by : (find test es ≡ Some first → find_row row_cmp id es ≡ Some x → row_cmp id first.0 ≡ Less → test (id, x) ≡ true → ⊥) → below_all row_cmp e.0 es ≡ true → (b : Bool) → test e ≡ b →
        (same : Bool) → same_row id e.0 ≡ same → cond b (Some e) (find test es) ≡ Some first → cond same (Some e.1) (find_row row_cmp id es) ≡ Some x → ⊥
    by rest below true here true same one there =
        let itself : row_cmp id id ≡ Less = ap (λ q. row_cmp id q) (row_is id e.0 same ∙ ap (λ (d : RowId × X). d.0) (same_Some e first one)) ∙ less in
        true≢false (sym (ap is_lt itself) ∙ ap is_lt (tied_itself row_total id))
    by rest below true here false other one there =
        let before : row_cmp id e.0 ≡ Less = ap (λ (d : RowId × X). row_cmp id d.0) (same_Some e first one) ∙ less in
        none-some x (sym (find_below id es (below_less id e.0 es before below)) ∙ there)
    by rest below false fails true same later there =
        let its : test e ≡ test (id, x) = λ i. test (sym (row_is id e.0 same) i, same_Some e.1 x there i) in
        true≢false (sym passes ∙ sym its ∙ fails)
    by rest below false fails false other later there = rest later there less passes

-- ---- the holder of a mark

module _ (ts : List Table) (db : Database) (mark : Mark) where
  -- the columns of a row that has the mark have its value
  pub value_of_marked : (column : ℕ) (key : ℤ) → unique_of ts mark.table ≡ Some column → has_row (mark_in ts db (row_at mark.table key)) mark ≡ true → HasValue db mark.table column mark.key key
  value_of_marked column key unique has =
      let there = mark_there ts db (row_at mark.table key) mark has in
      let made = made_of (row_at mark.table) (slice_get there.0 column) mark (ap (λ o. option_map (row_at mark.table) (option_and_then (slice_get there.0) o)) (sym unique) ∙ there.2) in
      record { columns = there.0; there = there.1; value_there = made.1 ∙ ap (λ (m : Mark). Some m.key) made.2 }

  -- and columns that have its value have the mark
  pub marked_of_value : (column : ℕ) (key : ℤ) → unique_of ts mark.table ≡ Some column → (has : HasValue db mark.table column mark.key key) → mark_of ts mark.table has.columns ≡ Some mark
  marked_of_value column key unique has =
      ap (λ o. option_map (row_at mark.table) (option_and_then (slice_get has.columns) o)) unique ∙ ap (option_map (row_at mark.table)) has.value_there

  -- no row before the holder has the mark
  holder_first : (column : ℕ) (key other : ℤ) → unique_of ts mark.table ≡ Some column → holder_of ts db mark ≡ Some key → other <ℤ key → HasValue db mark.table column mark.key other → ⊥
  holder_first column key other unique is below has =
      let first = made_of (λ (e : RowId × List ℤ). e.0.key) (find (has_mark ts mark) (entries db)) key is in
      let own = option_map_or_true (same_row mark) (mark_of ts first.0.0.table first.0.1) (first_passes (has_mark ts mark) (entries db) first.0 first.1) in
      let table : mark.table ≡ first.0.0.table = ap (λ (m : Mark). m.table) (row_is mark own.0 own.2) ∙ mark_table ts first.0.0.table first.0.1 own.0 own.1 in
      let key_is : first.0.0.key ≡ key = first.2 in
      none_before (has_mark ts mark) (entries db) first.0 (row_at mark.table other) has.columns (holds _ (entries_sorted db)) first.1
      (sym (get-entries db (row_at mark.table other)) ∙ has.there) (lesser_key (row_at mark.table other) first.0.0 table (subst (λ k. other <ℤ k) (sym key_is) below))
      (ap (λ o. option_map_or (same_row mark) o false) (marked_of_value column other unique has) ∙ same_row_itself mark)

pub fits_apart : FitsApart
fits_apart ts db fits p q mark of_p of_q =
    let at_p = mark_there ts db p mark of_p in
    let at_q = mark_there ts db q mark of_q in
    let table : p.table ≡ q.table = table_of_marked ts db p mark of_p ∙ sym (table_of_marked ts db q mark of_q) in
    let key : p.key ≡ q.key = same_Some p.key q.key (sym ((fits p at_p.0 at_p.1).value_own mark at_p.2) ∙ (fits q at_q.0 at_q.1).value_own mark at_q.2) in
    λ i. record { table = table i; key = key i }

pub standing_fits : StandingFits
standing_fits ts db stand apart id columns there =
    let here = stand id columns there in
    record {
      table = here.table;
      in_schema = here.in_schema;
      all_columns = here.all_columns;
      parent_there = here.parent_there;
      value_own = λ mark has. holder_of_marked ts db mark id apart (there_marked ts db id columns mark there has);
    }

pub fits_stand : FitsStands
fits_stand ts db fits id columns there =
    let here = fits id columns there in
    record { table = here.table; in_schema = here.in_schema; all_columns = here.all_columns; parent_there = here.parent_there }

-- rows that fit are of tables of the list
pub fits_of_tables : (ts : List Table) (db : Database) → Fits ts db → AreOfTables ts db
fits_of_tables ts db fits = stand_of_tables ts db (fits_stand ts db fits)

pub holder_is_first : HolderIsFirst
holder_is_first ts db mark column found unique is = by found is (holder_of ts db mark) refl
  where
    which : (key other : ℤ) → IsLeastWithValue db mark.table column mark.key key → holder_of ts db mark ≡ Some other → (r : Ordering) → MatchOrdering r (key <ℤ other) (key ≡ other) (other <ℤ key) →
        key ≡ other
    which key other least held Less lt = absurd (holder_first ts db mark column other key unique held lt least.has)
    which key other least held Equal same = same
    which key other least held Greater gt = absurd (least.least other gt (value_of_marked ts db mark column other unique (holder_there ts db mark other held)))

    by : (found : Option ℤ) → IsHolder db mark.table column mark.key found → (o : Option ℤ) → holder_of ts db mark ≡ o → found ≡ holder_of ts db mark
    by None none None held = sym held
    by None none (Some key) held = absurd (none key (value_of_marked ts db mark column key unique (holder_there ts db mark key held)))
    by (Some key) least None held =
        let marked = there_marked ts db (row_at mark.table key) least.has.columns mark least.has.there (marked_of_value ts db mark column key unique least.has) in
        absurd (true≢false (sym marked ∙ no_holder ts db mark (row_at mark.table key) held))
    by (Some key) least (Some other) held = ap Some (which key other least held (int_cmp key other) (int_ranked key other _ refl)) ∙ sym held

-- in a table without a unique column no row has a mark
pub no_unique_no_mark : (ts : List Table) (db : Database) (mark : Mark) (key : ℤ) → unique_of ts mark.table ≡ None → has_row (mark_in ts db (row_at mark.table key)) mark ≡ true → ⊥
no_unique_no_mark ts db mark key none has =
    let there = mark_there ts db (row_at mark.table key) mark has in
    none-some mark (sym (ap (λ o. option_map (row_at mark.table) (option_and_then (slice_get there.0) o)) none) ∙ there.2)

-- and no mark has a holder
pub no_unique_no_holder : (ts : List Table) (db : Database) (mark : Mark) → unique_of ts mark.table ≡ None → holder_of ts db mark ≡ None
no_unique_no_holder ts db mark none = by (holder_of ts db mark) refl
  where
    by : (o : Option ℤ) → holder_of ts db mark ≡ o → o ≡ None
    by None held = refl
    by (Some key) held = absurd (no_unique_no_mark ts db mark key none (holder_there ts db mark key held))
