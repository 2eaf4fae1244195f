-- Whether no other row that a transaction sees has a mark.
use Rattle.std.proofs.Common.{◌≡◌, ◌∙◌, sym, ap, refl, inl, inr, Bool, true, false, true≢false, not, ◌&&◌, ◌||◌, cond, ℤ, List, Option, Some, None, is_some}
use Rattle.std.specs.Prelude.{unwrap_or, option_and_then}
use Rattle.std.specs.List.{list_any}
use Rattle.std.specs.Option.{option_map_or}
use Rattle.std.specs.FinMap.{get, entries}
use Rattle.std.proofs.lemmas.Bool.{or_cases, or_left, or_right, and_parts, and_from}
use Rattle.schema.specs.declared.Table.{Table}
use Rattle.schema.specs.declared.RowId.{RowId}
use Rattle.schema.specs.RowId.{same_row}
use Rattle.schema.specs.Rows.{Mark, has_row}
use Rattle.schema.proofs.RowMaps.{row_is, same_row_itself}
use Rattle.schema.proofs.Telling.{both_or_none}
use Rattle.rows.specs.declared.Change.{Change}
use Rattle.rows.specs.declared.Change.TheVariants.{Insert, Update, Delete}
use Rattle.rows.specs.Database.{Database, target, mark_of, mark_in, is_taken_by, is_free, names_unique, NoValueTwice}
use Rattle.rows.specs.Effect.{row_is_free}
use Rattle.rows.specs.Holders.{holder_of}
use Rattle.rows.proofs.Apply.{delete_left}
use Rattle.rows.proofs.Holders.{holder_has_it}
use Rattle.rows.proofs.Marks.{mark_there, there_marked, free_by_rows}
use Rattle.store_trait.specs.Batch.{IsRising}
use Rattle.store_trait.specs.Contents.{row_at}
use Rattle.store_trait.proofs.Batches.{get-put_batch}
use Rattle.overlay.specs.Pending.{Pending, left_at, seen}
use Rattle.overlay.specs.Values.{left_has, other_has, gives_way, free_over, value_over, ValueOver}
use Rattle.overlay.proofs.ChildRows.{named, names}
use Rattle.overlay.proofs.Entries.{once_from_sorted, found_any, any_found}

fails : (b : Bool) → not b ≡ true → b ≡ true → ⊥
fails b against is = cc

module _ (ts : List Table) (db : Database) (pending : Pending) (rising : IsRising pending.left) (mark : Mark) where
  -- ---- which rows have the mark, as the transaction sees them

  -- one that it changed, and left with the mark
  left_seen : (q : RowId) (left : Option (List ℤ)) → left_at pending q ≡ Some left → left_has ts mark (q, left) ≡ true → has_row (mark_in ts (seen pending db) q) mark ≡ true
  left_seen q None at has = absurd (true≢false (sym has))
  left_seen q (Some columns) at has =
      there_marked ts (seen pending db) q columns mark (get-put_batch pending.left db q rising ∙ ap (λ o. unwrap_or o (get db q)) at) (named mark (mark_of ts q.table columns) has)

  -- and one that has it below, and that it did not change
  stays_seen : (q : RowId) → left_at pending q ≡ None → has_row (mark_in ts db q) mark ≡ true → has_row (mark_in ts (seen pending db) q) mark ≡ true
  stays_seen q free has =
      let there = mark_there ts db q mark has in
      there_marked ts (seen pending db) q there.0 mark (get-put_batch pending.left db q rising ∙ ap (λ o. unwrap_or o (get db q)) free ∙ there.1) there.2

  module _ (apart : NoValueTwice ts db) (id : RowId) (holder : Option ℤ) (held : holder ≡ holder_of ts db mark) where
    -- ---- where the value is free, no other row has it

    only_own : free_over ts pending id mark holder ≡ true → (q : RowId) → has_row (mark_in ts (seen pending db) q) mark ≡ true → q ≡ id
    only_own free q has =
        let parts = and_parts (not (list_any (other_has ts id mark) pending.left)) _ free in
        let there = mark_there ts (seen pending db) q mark has in
        by (left_at pending q) refl there.0 there.2 (sym (get-put_batch pending.left db q rising) ∙ there.1) parts.0 parts.1
      where
        own : (columns : List ℤ) → mark_of ts q.table columns ≡ Some mark → left_at pending q ≡ Some (Some columns) → not (list_any (other_has ts id mark) pending.left) ≡ true → (b : Bool) →
            same_row q id ≡ b → q ≡ id
        own columns is at none true same = row_is q id same
        own columns is at none false other =
            absurd (fails _ none (any_found (other_has ts id mark) pending.left q (Some columns) at (and_from _ _ (ap not other) (names mark (mark_of ts q.table columns) is))))

        below : left_at pending q ≡ None → q ≡ row_at mark.table q.key → gives_way pending id (row_at mark.table q.key) ≡ true → q ≡ id
        below free its way =
            elim (or_cases (same_row (row_at mark.table q.key) id) _ way) [
              | inl same ↦ its ∙ row_is (row_at mark.table q.key) id same
              | inr changed ↦ absurd (true≢false (sym changed ∙ ap (λ p. is_some (left_at pending p)) (sym its) ∙ ap is_some free))
            ]

        by : (o : Option (Option (List ℤ))) → left_at pending q ≡ o → (columns : List ℤ) → mark_of ts q.table columns ≡ Some mark → unwrap_or o (get db q) ≡ Some columns →
            not (list_any (other_has ts id mark) pending.left) ≡ true → option_map_or (λ key. gives_way pending id (row_at mark.table key)) holder true ≡ true → q ≡ id
        by (Some left) at columns is left_is none way = own columns is (at ∙ ap Some left_is) none (same_row q id) refl
        by None at columns is below_is none way =
            let own_key = (holder_has_it ts db mark q apart).0 (there_marked ts db q columns mark below_is is) in
            below at (λ i. record { table = own_key.1 i; key = q.key }) (ap (λ o. option_map_or (λ key. gives_way pending id (row_at mark.table key)) o true) (sym (held ∙ own_key.0)) ∙ way)

    -- ---- and where no other row has it, it is free

    over_own : ((q : RowId) → has_row (mark_in ts (seen pending db) q) mark ≡ true → q ≡ id) → free_over ts pending id mark holder ≡ true
    over_own only = and_from _ _ (none (list_any (other_has ts id mark) pending.left) refl) (way holder held)
      where
        none : (b : Bool) → list_any (other_has ts id mark) pending.left ≡ b → not b ≡ true
        none false is = refl
        none true is =
            let f = found_any (other_has ts id mark) pending.left (once_from_sorted pending.left rising) is in
            let parts = and_parts (not (same_row f.0 id)) (left_has ts mark (f.0, f.1)) f.3 in
            absurd (fails (same_row f.0 id) parts.0 (ap (same_row f.0) (sym (only f.0 (left_seen f.0 f.1 f.2 parts.1))) ∙ same_row_itself f.0))

        changed_or_own : (row : RowId) → has_row (mark_in ts db row) mark ≡ true → (o : Option (Option (List ℤ))) → left_at pending row ≡ o → (same_row row id || is_some o) ≡ true
        changed_or_own row has (Some left) at = or_right (same_row row id) true refl
        changed_or_own row has None at = or_left _ _ (ap (same_row row) (sym (only row (stays_seen row at has))) ∙ same_row_itself row)

        way : (o : Option ℤ) → o ≡ holder_of ts db mark → option_map_or (λ key. gives_way pending id (row_at mark.table key)) o true ≡ true
        way None is = refl
        way (Some key) is =
            changed_or_own (row_at mark.table key) ((holder_has_it ts db mark (row_at mark.table key) apart).1 (sym is, refl)) (left_at pending (row_at mark.table key)) refl

    free_alike : (columns : List ℤ) → mark_of ts id.table columns ≡ Some mark → free_over ts pending id mark holder ≡ is_free ts (seen pending db) id columns
    free_alike columns is =
        let rows = free_by_rows ts (seen pending db) id columns mark is in
        both_or_none _ _ (λ over. rows.1 (only_own over)) (λ free. over_own (rows.0 free))

-- ---- the value that a change gives its row

row_over : (ts : List Table) (db : Database) (pending : Pending) (id : RowId) (left : Option (List ℤ)) (holder : Option ℤ) → NoValueTwice ts db → IsRising pending.left →
    ((mark : Mark) → option_and_then (mark_of ts id.table) left ≡ Some mark → holder ≡ holder_of ts db mark) →
    option_map_or (λ mark. free_over ts pending id mark holder) (option_and_then (mark_of ts id.table) left) true ≡ row_is_free ts (seen pending db) id left
row_over ts db pending id None holder apart rising held = refl
row_over ts db pending id (Some columns) holder apart rising held = by (mark_of ts id.table columns) refl held
  where
    by : (o : Option Mark) → mark_of ts id.table columns ≡ o → ((mark : Mark) → o ≡ Some mark → holder ≡ holder_of ts db mark) →
        option_map_or (λ mark. free_over ts pending id mark holder) o true ≡ is_free ts (seen pending db) id columns
    by None is held = ap (λ o. option_map_or (λ mark. not (list_any (is_taken_by ts id mark) (entries (seen pending db)))) o true) (sym is)
    by (Some mark) is held = free_alike ts db pending rising mark apart id holder (held mark refl) columns is

module _ (ts : List Table) (db : Database) (pending : Pending) (left : Option (List ℤ)) (holder : Option ℤ) (apart : NoValueTwice ts db) (rising : IsRising pending.left) where
  where_moved : (id : RowId) (b : Bool) → ((mark : Mark) → cond b (option_and_then (mark_of ts id.table) left) None ≡ Some mark → holder ≡ holder_of ts db mark) →
      option_map_or (λ mark. free_over ts pending id mark holder) (cond b (option_and_then (mark_of ts id.table) left) None) true ≡ (not b || row_is_free ts (seen pending db) id left)
  where_moved id true held = row_over ts db pending id left holder apart rising held
  where_moved id false held = refl

pub value_is_over : ValueOver
value_is_over ts (Insert row columns) db pending left holder fits apart rising held = where_moved ts db pending left holder apart rising row true held
value_is_over ts (Update row named) db pending left holder fits apart rising held = where_moved ts db pending left holder apart rising row (names_unique ts row.table named.mask) held
value_is_over ts (Delete row) db pending left holder fits apart rising held =
    ap (λ l. option_map_or (λ mark. free_over ts pending row mark holder) (option_and_then (mark_of ts row.table) l) true) (delete_left row (get (seen pending db) row) left fits)

-- what tells it, where the change gives a value
pub value_told : (ts : List Table) (pending : Pending) (change : Change) (takes : Option Mark) (holder : Option ℤ) (mark : Mark) (other way : Bool) → takes ≡ Some mark →
    other ≡ list_any (other_has ts (target change) mark) pending.left →
    way ≡ option_map_or (λ key. gives_way pending (target change) (row_at mark.table key)) holder true → (not other && way) ≡ value_over ts pending change takes holder
value_told ts pending change takes holder mark other way taken any gives =
    (λ i. not (any i) && gives i) ∙ ap (λ t. value_over ts pending change t holder) (sym taken)
