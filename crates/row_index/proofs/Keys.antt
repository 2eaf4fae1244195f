-- The keys follow the rows.
use Rattle.std.proofs.Common.{◌≡◌, ◌∙◌, sym, ap, refl, Bool, true, false, true≢false, ◌||◌, cond, ℤ, List, [], ◌∷◌, ◌++◌, Option, Some, None}
use Rattle.std.specs.Prelude.{unwrap_or, option_and_then, option_to_list}
use Rattle.std.specs.List.{AllByRecursion, list_any, flat_map}
use Rattle.std.specs.Map.{keys_of}
use Rattle.std.specs.Option.{option_map_or}
use Rattle.std.specs.FinMap.{get, find, empty, insert, remove, get-empty, get-insert, get-remove, is_sorted}
use Rattle.std.specs.FinMap.Entries.{below_all}
use Rattle.std.proofs.Math.Bool.{or-false}
use Rattle.std.proofs.lemmas.Bool.{and_parts}
use Rattle.std.proofs.lemmas.List.Concat.{flat_map-cons}
use Rattle.std.proofs.lemmas.List.Folds.{list_any-append}
use Rattle.schema.specs.declared.Table.{Table}
use Rattle.schema.specs.declared.RowId.{RowId}
use Rattle.schema.specs.RowId.{row_cmp, same_row, row_total}
use Rattle.schema.specs.Rows.{Mark, has_row}
use Rattle.schema.proofs.RowMaps.{row_is, same_row_itself}
use Rattle.rows.specs.Database.{Database, mark_of, mark_in, NoValueTwice}
use Rattle.rows.specs.Holders.{holder_of}
use Rattle.rows.proofs.Holders.{row_with, holder_there, no_holder, holder_of_marked}
use Rattle.store_trait.specs.Batch.{Entry, IsRising, put_batch}
use Rattle.store_trait.proofs.Batches.{get-put_batch, find_below}
use Rattle.overlay.proofs.Entries.{once_from_sorted, found_any, any_found}
use Rattle.row_index.specs.Keys.{Keys, Indexes, marks_at, mark_left, given_up, with_entry, taken_up, moved}
use Rattle.row_index.specs.Laws.{NoneIndexed, KeysFollow}

-- ---- what the map has

-- the entry gives its row the mark
abbrev pub gives : List Table → Mark → Entry → Bool
gives ts mark entry = option_map_or (same_row mark) (mark_left ts entry) false

get-given_up : (marks : List Mark) (keys : Keys) (mark : Mark) → get (given_up marks keys) mark ≡ cond (has_row marks mark) None (get keys mark)
get-given_up [] keys mark = refl
get-given_up (m ∷ marks) keys mark =
    get-given_up marks (remove keys m) mark ∙ ap (cond (has_row marks mark) None) (get-remove row_total keys m mark)
    ∙ by (same_row mark m) (has_row marks mark) (get keys mark)
  where
    by : (a b : Bool) (o : Option ℤ) → cond b None (cond a None o) ≡ cond (a || b) None o
    by true true o = refl
    by true false o = refl
    by false b o = refl

get-with_entry : (ts : List Table) (entry : Entry) (keys : Keys) (mark : Mark) → get (with_entry ts entry keys) mark ≡ cond (gives ts mark entry) (Some entry.0.key) (get keys mark)
get-with_entry ts entry keys mark = by (mark_left ts entry)
  where
    by : (o : Option Mark) → get (option_map_or (λ (m : Mark). insert keys m entry.0.key) o keys) mark ≡ cond (option_map_or (same_row mark) o false) (Some entry.0.key) (get keys mark)
    by None = refl
    by (Some m) = get-insert row_total keys m entry.0.key mark

-- where each entry that gives the mark is of this key
get-taken_up : (ts : List Table) (entries : List Entry) (keys : Keys) (mark : Mark) (key : ℤ) → AllByRecursion (λ (e : Entry). gives ts mark e ≡ true → e.0.key ≡ key) entries →
    get (taken_up ts entries keys) mark ≡ cond (list_any (gives ts mark) entries) (Some key) (get keys mark)
get-taken_up ts [] keys mark key all = refl
get-taken_up ts (entry ∷ entries) keys mark key all =
    get-taken_up ts entries (with_entry ts entry keys) mark key all.1
    ∙ ap (cond (list_any (gives ts mark) entries) (Some key)) (get-with_entry ts entry keys mark)
    ∙ by (gives ts mark entry) (list_any (gives ts mark) entries) (get keys mark) all.0
  where
    by : (a b : Bool) (o : Option ℤ) → (a ≡ true → entry.0.key ≡ key) → cond b (Some key) (cond a (Some entry.0.key) o) ≡ cond (a || b) (Some key) o
    by true true o its = refl
    by true false o its = ap Some (its refl)
    by false b o its = refl

-- ---- what a batch has

all_found : (P : Entry → Type 0) (entries : List Entry) → IsRising entries → ((id : RowId) (left : Option (List ℤ)) → find row_cmp id entries ≡ Some left → P (id, left)) → AllByRecursion P entries
all_found P [] rising each = tt
all_found P (e ∷ es) rising each =
    let parts = and_parts (below_all row_cmp e.0 es) (is_sorted row_cmp es) rising in (
      each e.0 e.1 (ap (λ b. cond b (Some e.1) (find row_cmp e.0 es)) (same_row_itself e.0)),
      all_found P es parts.1 (λ id left is. each id left (behind id left is (same_row id e.0) refl (find_below e.0 es parts.0))),
    )
  where
    behind : (id : RowId) (left : Option (List ℤ)) → find row_cmp id es ≡ Some left → (b : Bool) → same_row id e.0 ≡ b → find row_cmp e.0 es ≡ None → cond b (Some e.1) (find row_cmp id es) ≡ Some left
    behind id left is true same none =
        let absent : find row_cmp id es ≡ None = ap (λ q. find row_cmp q es) (row_is id e.0 same) ∙ none in
        absurd cc
    behind id left is false same none = is

-- what a list of what rows have, has
any_of_keys : (f : RowId → List RowId) (entries : List Entry) (mark : Mark) → has_row (flat_map f (keys_of entries)) mark ≡ list_any (λ (e : Entry). has_row (f e.0) mark) entries
any_of_keys f [] mark = refl
any_of_keys f (e ∷ es) mark =
    ap (λ l. has_row l mark) (flat_map-cons f e.0 (keys_of es)) ∙ list_any-append (same_row mark) (f e.0) (flat_map f (keys_of es))
    ∙ ap (λ b. has_row (f e.0) mark || b) (any_of_keys f es mark)

pub its_mark : (mark : Mark) (o : Option Mark) → has_row (option_to_list o) mark ≡ option_map_or (same_row mark) o false
its_mark mark None = refl
its_mark mark (Some m) = or-false (same_row mark m)

not_true : (b : Bool) → (b ≡ true → ⊥) → b ≡ false
not_true true never = absurd (never refl)
not_true false never = refl

-- ---- behind a batch

module _ (ts : List Table) (db : Database) (batch : List Entry) (rising : IsRising batch) (mark : Mark) where
  -- a row of the batch has the mark then where its entry gives it
  pub has_then : (id : RowId) (left : Option (List ℤ)) → find row_cmp id batch ≡ Some left → has_row (mark_in ts (put_batch batch db) id) mark ≡ gives ts mark (id, left)
  has_then id left is =
      ap (λ (o : Option (List ℤ)). has_row (option_to_list (option_and_then (mark_of ts id.table) o)) mark) (get-put_batch batch db id rising ∙ ap (λ o. unwrap_or o (get db id)) is)
      ∙ its_mark mark (mark_left ts (id, left))

  -- and each other has it where it had it
  pub had : (id : RowId) → find row_cmp id batch ≡ None → has_row (mark_in ts (put_batch batch db) id) mark ≡ has_row (mark_in ts db id) mark
  had id none =
      ap (λ (o : Option (List ℤ)). has_row (option_to_list (option_and_then (mark_of ts id.table) o)) mark) (get-put_batch batch db id rising ∙ ap (λ o. unwrap_or o (get db id)) none)

  -- an entry that gives the mark
  given_by : list_any (gives ts mark) batch ≡ true → (id : RowId) × (left : Option (List ℤ)) × (find row_cmp id batch ≡ Some left) × (has_row (mark_in ts (put_batch batch db) id) mark ≡ true)
  given_by h =
      let f = found_any (gives ts mark) batch (once_from_sorted batch rising) h in
      (f.0, f.1, f.2, has_then f.0 f.1 f.2 ∙ f.3)

  -- a row of the batch that had the mark
  old_of : has_row (marks_at ts (keys_of batch) db) mark ≡ true → (id : RowId) × (left : Option (List ℤ)) × (find row_cmp id batch ≡ Some left) × (has_row (mark_in ts db id) mark ≡ true)
  old_of h = found_any (λ (e : Entry). has_row (mark_in ts db e.0) mark) batch (once_from_sorted batch rising) (sym (any_of_keys (mark_in ts db) batch mark) ∙ h)

  is_old : (id : RowId) (left : Option (List ℤ)) → find row_cmp id batch ≡ Some left → has_row (mark_in ts db id) mark ≡ true → has_row (marks_at ts (keys_of batch) db) mark ≡ true
  is_old id left is has = any_of_keys (mark_in ts db) batch mark ∙ any_found (λ (e : Entry). has_row (mark_in ts db e.0) mark) batch id left is has

  module _ (keys : Keys) (apart : NoValueTwice ts db) (apart_then : NoValueTwice ts (put_batch batch db)) (indexes : Indexes ts db keys) where
    abbrev old : List Mark
    old = marks_at ts (keys_of batch) db

    -- where the rows that then have the mark are of this key
    moved_to : (key : ℤ) → ((id : RowId) → has_row (mark_in ts (put_batch batch db) id) mark ≡ true → id.key ≡ key) →
        get (moved ts old batch keys) mark ≡ cond (list_any (gives ts mark) batch) (Some key) (cond (has_row old mark) None (holder_of ts db mark))
    moved_to key its =
        get-taken_up ts batch (given_up old keys) mark key (all_found (λ e. gives ts mark e ≡ true → e.0.key ≡ key) batch rising (λ id left is h. its id (has_then id left is ∙ h)))
        ∙ ap (cond (list_any (gives ts mark) batch) (Some key)) (get-given_up old keys mark ∙ ap (cond (has_row old mark) None) (indexes mark))

    -- nobody has it then
    nobody : holder_of ts (put_batch batch db) mark ≡ None → get (moved ts old batch keys) mark ≡ None
    nobody none =
        let never : (id : RowId) → has_row (mark_in ts (put_batch batch db) id) mark ≡ true → ⊥ = λ id has. true≢false (sym has ∙ no_holder ts (put_batch batch db) mark id none) in
        moved_to mark.key (λ id has. absurd (never id has))
        ∙ ap (λ b. cond b (Some mark.key) (cond (has_row old mark) None (holder_of ts db mark))) (not_true (list_any (gives ts mark) batch) (λ h. let f = given_by h in never f.0 f.3))
        ∙ before never (has_row old mark) (holder_of ts db mark) refl refl
      where
        before : ((id : RowId) → has_row (mark_in ts (put_batch batch db) id) mark ≡ true → ⊥) → (b : Bool) (o : Option ℤ) → has_row old mark ≡ b → holder_of ts db mark ≡ o → cond b None o ≡ None
        before never true o gone is = refl
        before never false None gone is = refl
        before never false (Some key) gone is = by (find row_cmp (row_with mark key) batch) refl
          where
            has : has_row (mark_in ts db (row_with mark key)) mark ≡ true
            has = holder_there ts db mark key is

            by : (found : Option (Option (List ℤ))) → find row_cmp (row_with mark key) batch ≡ found → ◌≡◌ {A = Option ℤ} (Some key) None
            by None out = absurd (never (row_with mark key) (had (row_with mark key) out ∙ has))
            by (Some left) there = absurd (true≢false (sym (is_old (row_with mark key) left there has) ∙ gone))

    -- this row has it then
    its_holder : (key : ℤ) → holder_of ts (put_batch batch db) mark ≡ Some key → get (moved ts old batch keys) mark ≡ Some key
    its_holder key is =
        moved_to key (λ id h. ap (λ (r : RowId). r.key) (same id h)) ∙ by (find row_cmp (row_with mark key) batch) refl
      where
        has : has_row (mark_in ts (put_batch batch db) (row_with mark key)) mark ≡ true
        has = holder_there ts (put_batch batch db) mark key is

        same : (id : RowId) → has_row (mark_in ts (put_batch batch db) id) mark ≡ true → id ≡ row_with mark key
        same id h = apart_then id (row_with mark key) mark h has

        apart_from : (id : RowId) (left : Option (List ℤ)) → find row_cmp id batch ≡ Some left → id ≡ row_with mark key → find row_cmp (row_with mark key) batch ≡ None → ⊥
        apart_from id left there it out =
            let none : find row_cmp id batch ≡ None = ap (λ q. find row_cmp q batch) it ∙ out in
            cc

        by : (found : Option (Option (List ℤ))) → find row_cmp (row_with mark key) batch ≡ found →
            cond (list_any (gives ts mark) batch) (Some key) (cond (has_row old mark) None (holder_of ts db mark)) ≡ Some key
        by (Some left) there =
            ap (λ b. cond b (Some key) (cond (has_row old mark) None (holder_of ts db mark)))
            (any_found (gives ts mark) batch (row_with mark key) left there (sym (has_then (row_with mark key) left there) ∙ has))
        by None out =
            let none_given : list_any (gives ts mark) batch ≡ false = not_true (list_any (gives ts mark) batch) (λ h. let f = given_by h in apart_from f.0 f.1 f.2 (same f.0 f.3) out) in
            let had_it : has_row (mark_in ts db (row_with mark key)) mark ≡ true = sym (had (row_with mark key) out) ∙ has in
            let none_old : has_row old mark ≡ false = not_true (has_row old mark) (λ h. let f = old_of h in apart_from f.0 f.1 f.2 (apart f.0 (row_with mark key) mark f.3 had_it) out) in
            (λ i. cond (none_given i) (Some key) (cond (none_old i) None (holder_of ts db mark)))
            ∙ holder_of_marked ts db mark (row_with mark key) apart had_it

    moved_alike : (o : Option ℤ) → holder_of ts (put_batch batch db) mark ≡ o → get (moved ts old batch keys) mark ≡ o
    moved_alike None none = nobody none
    moved_alike (Some key) is = its_holder key is

-- no row has a mark where there is none
pub absent : (ts : List Table) (id : RowId) → mark_in ts empty id ≡ []
absent ts id = ap (λ (o : Option (List ℤ)). option_to_list (option_and_then (mark_of ts id.table) o)) (get-empty row_cmp id)

pub none_indexed : NoneIndexed
none_indexed ts mark = get-empty row_cmp mark ∙ sym (nobody_there (holder_of ts empty mark) refl)
  where
    nobody_there : (o : Option ℤ) → holder_of ts empty mark ≡ o → o ≡ None
    nobody_there None is = refl
    nobody_there (Some key) is =
        absurd (true≢false (sym (holder_there ts empty mark key is) ∙ ap (λ l. has_row l mark) (absent ts (row_with mark key))))

pub keys_follow : KeysFollow
keys_follow ts db batch keys rising apart apart_then indexes mark =
    moved_alike ts db batch rising mark keys apart apart_then indexes (holder_of ts (put_batch batch db) mark) refl

-- ---- what is loaded into no rows

no_marks : (ts : List Table) (rows : List RowId) → marks_at ts rows empty ≡ []
no_marks ts [] = refl
no_marks ts (row ∷ rows) = flat_map-cons (mark_in ts empty) row rows ∙ (λ i. absent ts row i ++ no_marks ts rows i)

pub loaded_keys : (ts : List Table) (batch : List Entry) → IsRising batch → NoValueTwice ts (put_batch batch empty) → Indexes ts (put_batch batch empty) (taken_up ts batch empty)
loaded_keys ts batch rising apart mark =
    ap (λ l. get (moved ts l batch empty) mark) (sym (no_marks ts (keys_of batch)))
    ∙ keys_follow ts empty batch empty rising (λ p q m has _. absurd (true≢false (sym has ∙ ap (λ l. has_row l m) (absent ts p)))) apart (none_indexed ts) mark
