-- The holder of a mark.
use Rattle.std.proofs.Common.{◌≡◌, ◌∙◌, sym, ap, refl, inl, inr, true, false, true≢false, ℤ, List, Option, Some, None}
use Rattle.std.specs.Prelude.{find}
use Rattle.std.specs.Option.{option_map, option_map_or}
use Rattle.std.specs.FinMap.{entries}
use Rattle.std.proofs.lemmas.Bool.{cases_Bool}
use Rattle.schema.specs.declared.Table.{Table}
use Rattle.schema.specs.declared.RowId.{RowId}
use Rattle.schema.specs.RowId.{same_row}
use Rattle.schema.specs.Rows.{Mark, has_row}
use Rattle.schema.proofs.Lists.{made_of, option_map_or_true}
use Rattle.schema.proofs.RowMaps.{row_is, same_row_itself}
use Rattle.schema.proofs.Telling.{both_or_none}
use Rattle.rows.specs.Database.{Database, mark_of, mark_in, NoValueTwice}
use Rattle.rows.specs.Holders.{holder_of, has_mark, HolderHasIt, HoldersAreSame, FreeByHolder}
use Rattle.rows.proofs.Entries.{found_entry, none_entry}
use Rattle.rows.proofs.Marks.{mark_there, there_marked, mark_table, table_of_marked, free_by_rows}

-- the row of this key in the mark's table
abbrev pub row_with : Mark → ℤ → RowId
row_with mark key = record { table = mark.table; key = key }

-- ---- what the look-up finds

-- an entry has the mark that its columns have
marks_entry : (ts : List Table) (mark : Mark) (q : RowId) (columns : List ℤ) → mark_of ts q.table columns ≡ Some mark → has_mark ts mark (q, columns) ≡ true
marks_entry ts mark q columns is = ap (λ o. option_map_or (same_row mark) o false) is ∙ same_row_itself mark

entry_marks : (ts : List Table) (mark : Mark) (entry : RowId × List ℤ) → has_mark ts mark entry ≡ true → mark_of ts entry.0.table entry.1 ≡ Some mark
entry_marks ts mark entry has =
    let found = option_map_or_true (same_row mark) (mark_of ts entry.0.table entry.1) has in
    found.1 ∙ ap Some (sym (row_is mark found.0 found.2))

-- a mark that has a holder is had by it
pub holder_there : (ts : List Table) (db : Database) (mark : Mark) (key : ℤ) → holder_of ts db mark ≡ Some key → has_row (mark_in ts db (row_with mark key)) mark ≡ true
holder_there ts db mark key is =
    let made = made_of (λ (entry : RowId × List ℤ). entry.0.key) (find (has_mark ts mark) (entries db)) key is in
    let entry = made.0 in
    let found = found_entry (has_mark ts mark) db entry made.1 in
    let marked = entry_marks ts mark entry found.1 in
    let same : entry.0 ≡ row_with mark key = λ i. record { table = sym (mark_table ts entry.0.table entry.1 mark marked) i; key = made.2 i } in
    ap (λ (q : RowId). has_row (mark_in ts db q) mark) (sym same) ∙ there_marked ts db entry.0 entry.1 mark found.0 marked

-- and one that has none is had by no row
pub no_holder : (ts : List Table) (db : Database) (mark : Mark) (q : RowId) → holder_of ts db mark ≡ None → has_row (mark_in ts db q) mark ≡ false
no_holder ts db mark q none = elim (cases_Bool (has_row (mark_in ts db q) mark)) [
  | inl has ↦
      let there = mark_there ts db q mark has in
      absurd (true≢false (sym (marks_entry ts mark q there.0 there.2) ∙ none_entry (has_mark ts mark) db q there.0 (not_found (find (has_mark ts mark) (entries db)) none) there.1))
  | inr not_there ↦ not_there
]
  where
    not_found : (o : Option (RowId × List ℤ)) → option_map (λ (entry : RowId × List ℤ). entry.0.key) o ≡ None → o ≡ None
    not_found None h = refl
    not_found (Some entry) h = cc

-- ---- where no two rows have one value

holder_is : (ts : List Table) (db : Database) (mark : Mark) (q : RowId) → NoValueTwice ts db → has_row (mark_in ts db q) mark ≡ true → (o : Option ℤ) → holder_of ts db mark ≡ o →
    holder_of ts db mark ≡ Some q.key
holder_is ts db mark q apart has None none = absurd (true≢false (sym has ∙ no_holder ts db mark q none))
holder_is ts db mark q apart has (Some key) is = is ∙ ap (λ (r : RowId). Some r.key) (apart (row_with mark key) q mark (holder_there ts db mark key is) has)

-- the row that has a mark is its holder
pub holder_of_marked : (ts : List Table) (db : Database) (mark : Mark) (q : RowId) → NoValueTwice ts db → has_row (mark_in ts db q) mark ≡ true → holder_of ts db mark ≡ Some q.key
holder_of_marked ts db mark q apart has = holder_is ts db mark q apart has (holder_of ts db mark) refl

pub holder_has_it : HolderHasIt
holder_has_it ts db mark q apart = (
  λ has. (holder_of_marked ts db mark q apart has, table_of_marked ts db q mark has),
  λ holds.
      let same : row_with mark q.key ≡ q = λ i. record { table = sym holds.1 i; key = q.key } in
      ap (λ (r : RowId). has_row (mark_in ts db r) mark) (sym same) ∙ holder_there ts db mark q.key holds.0,
)

holder_alike : (ts : List Table) (a b : Database) (mark : Mark) → NoValueTwice ts b → ((q : RowId) → has_row (mark_in ts a q) mark ≡ has_row (mark_in ts b q) mark) → (o : Option ℤ) →
    holder_of ts a mark ≡ o → holder_of ts b mark ≡ o
holder_alike ts a b mark apart same (Some key) is = holder_of_marked ts b mark (row_with mark key) apart (sym (same (row_with mark key)) ∙ holder_there ts a mark key is)
holder_alike ts a b mark apart same None none = nobody (holder_of ts b mark) refl
  where
    nobody : (o : Option ℤ) → holder_of ts b mark ≡ o → holder_of ts b mark ≡ None
    nobody None is = is
    nobody (Some key) is = absurd (true≢false (sym (same (row_with mark key) ∙ holder_there ts b mark key is) ∙ no_holder ts a mark (row_with mark key) none))

pub holders_are_same : HoldersAreSame
holders_are_same ts held a b apart_a apart_b = (
  λ same mark is. sym (holder_alike ts a b mark apart_b (same mark is) (holder_of ts a mark) refl),
  λ same mark is q. both_or_none _ _ (λ has. along a b mark apart_a (same mark is) q has) (λ has. along b a mark apart_b (sym (same mark is)) q has),
)
  where
    along : (x y : Database) (mark : Mark) → NoValueTwice ts x → holder_of ts x mark ≡ holder_of ts y mark → (q : RowId) → has_row (mark_in ts x q) mark ≡ true → has_row (mark_in ts y q) mark ≡ true
    along x y mark apart same q has =
        let it : row_with mark q.key ≡ q = λ i. record { table = sym (table_of_marked ts x q mark has) i; key = q.key } in
        ap (λ (r : RowId). has_row (mark_in ts y r) mark) (sym it) ∙ holder_there ts y mark q.key (sym same ∙ holder_of_marked ts x mark q apart has)

pub free_by_holder : FreeByHolder
free_by_holder ts db id columns mark apart is = (
  λ free key holds. ap (λ (r : RowId). r.key) ((free_by_rows ts db id columns mark is).0 free (row_with mark key) (holder_there ts db mark key holds)),
  λ own. (free_by_rows ts db id columns mark is).1 (λ q has.
      let key : q.key ≡ id.key = own q.key (holder_of_marked ts db mark q apart has) in
      let table : q.table ≡ id.table = table_of_marked ts db q mark has ∙ mark_table ts id.table columns mark is in
      λ i. record { table = table i; key = key i }),
)
