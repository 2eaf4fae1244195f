-- What batches leave of a database.
use Rattle.std.proofs.Common.{◌≡◌, ◌∙◌, sym, ap, refl, Bool, true, false, cond, ◌&&◌, ◌||◌, T, List, [], ◌∷◌, map, Option, Some, None, option_map, unwrap_or, ℤ, is_eq, is_lt, Ordering, Less, Equal}
use Rattle.std.proofs.Common.{Greater, true≢false}
use Rattle.std.specs.Bool.{passes}
use Rattle.std.specs.FinMap.{get, find, empty, entries, entries_sorted, is_sorted, put, get-entries, get-empty, same_map}
use Rattle.std.specs.FinMap.Entries.{below_all, same_entries, find-put, is_sorted-put}
use Rattle.std.proofs.lemmas.Bool.{and_parts, cond-false}
use Rattle.std.proofs.lemmas.List.{map-append}
use Rattle.schema.specs.declared.RowId.{RowId}
use Rattle.schema.specs.RowId.{row_cmp, row_total, exact_row, same_row}
use Rattle.schema.specs.Rows.{has_row}
use Rattle.rows.specs.Database.{Database, writes}
use Rattle.store_trait.specs.Batch.{Entry, IsRising, put_row, put_batch, put_batches, in_order, rows_in, all_rows}
use Rattle.store_trait.specs.Operation.{batch_of}
use Rattle.store_trait.specs.Laws.{SetsItsRows, IsItsRows, HasTheRows, CarriesChanges, GoesOn, GoesOnByOps, LoadsAll}
use Rattle.rows.proofs.Apply.{get-put_row, row_is}
use Rattle.rows.proofs.Effect.{changes_only_writes}

-- ---- row ids

pub less_apart : (r : Ordering) → is_lt r ≡ true → is_eq r ≡ false
less_apart Less h = refl
less_apart Equal h = absurd (true≢false (sym h))
less_apart Greater h = refl

pub holds : (b : Bool) → T b → b ≡ true
holds true h = refl
holds false h = absurd h

-- ---- lists of rows with something at each

-- a row below each row of a list is not in it
pub find_below : {X : Type 0} (x : RowId) (es : List (RowId × X)) → below_all row_cmp x es ≡ true → find row_cmp x es ≡ None
find_below x [] h = refl
find_below x (e ∷ es) h =
    let parts = and_parts (is_lt (row_cmp x e.0)) (below_all row_cmp x es) h in
    cond-false _ _ _ (less_apart (row_cmp x e.0) parts.0) ∙ find_below x es parts.1

-- another thing at each row
pub find-map : {X Y : Type 0} (f : X → Y) (q : RowId) (es : List (RowId × X)) → find row_cmp q (map (λ e. (e.0, f e.1)) es) ≡ option_map f (find row_cmp q es)
find-map f q [] = refl
find-map {X} {Y} f q (e ∷ es) =
    elim (same_row q e.0) as (λ b. cond b (Some (f e.1)) (find row_cmp q (map (λ (d : RowId × X). (d.0, f d.1)) es)) ≡ option_map f (cond b (Some e.1) (find row_cmp q es))) [
      | true ↦ refl
      | false ↦ find-map f q es
    ]

below_all-map : {X Y : Type 0} (f : X → Y) (x : RowId) (es : List (RowId × X)) → below_all row_cmp x (map (λ e. (e.0, f e.1)) es) ≡ below_all row_cmp x es
below_all-map f x [] = refl
below_all-map f x (e ∷ es) = ap (λ b. is_lt (row_cmp x e.0) && b) (below_all-map f x es)

pub is_sorted-map : {X Y : Type 0} (f : X → Y) (es : List (RowId × X)) → is_sorted row_cmp (map (λ e. (e.0, f e.1)) es) ≡ is_sorted row_cmp es
is_sorted-map f [] = refl
is_sorted-map f (e ∷ es) = λ i. below_all-map f e.0 es i && is_sorted-map f es i

-- what a function gives for each row of a list
pub find-of_each : {X : Type 0} (f : RowId → X) (q : RowId) (rows : List RowId) → find row_cmp q (map (λ id. (id, f id)) rows) ≡ cond (has_row rows q) (Some (f q)) None
find-of_each f q [] = refl
find-of_each {X} f q (row ∷ rows) =
    let rest = find row_cmp q (map (λ (id : RowId). (id, f id)) rows) in
    elim (same_row q row) as (λ b. same_row q row ≡ b → cond b (Some (f row)) rest ≡ cond (b || has_row rows q) (Some (f q)) None) [
      | true ↦ λ same. ap (λ id. Some (f id)) (sym (row_is q row same))
      | false ↦ λ _. find-of_each f q rows
    ] refl

-- ---- batches

-- what is found later stands, and what was put at first is not found later
chosen : {X : Type 0} (b : Bool) (found : Option X) (put old : X) → (b ≡ true → found ≡ None) → unwrap_or found (cond b put old) ≡ unwrap_or (cond b (Some put) found) old
chosen true found put old once = ap (λ o. unwrap_or o put) (once refl)
chosen false found put old once = refl

pub get-put_batch : SetsItsRows
get-put_batch [] db q rising = refl
get-put_batch (e ∷ es) db q rising =
    let parts = and_parts (below_all row_cmp e.0 es) (is_sorted row_cmp es) rising in
    get-put_batch es (put_row db e.0 e.1) q parts.1
    ∙ ap (unwrap_or (find row_cmp q es)) (get-put_row db e.0 q e.1)
    ∙ chosen (same_row q e.0) (find row_cmp q es) e.1 (get db q)
    (λ same. ap (λ id. find row_cmp id es) (row_is q e.0 same) ∙ find_below e.0 es parts.0)

pub same_batch : IsItsRows
same_batch xs ys rises rises_too same = same_entries row_cmp row_total exact_row xs ys (passes _ rises) (passes _ rises_too) same

pub find-in_order : (es : List Entry) (q : RowId) → find row_cmp q (in_order es) ≡ find row_cmp q es
find-in_order [] q = refl
find-in_order (e ∷ es) q = find-put row_cmp row_total q e.0 e.1 (in_order es) ∙ ap (cond (same_row q e.0) (Some e.1)) (find-in_order es q)

pub put_rises : (q : RowId) (left : Option (List ℤ)) (es : List Entry) → IsRising es → IsRising (put row_cmp q left es)
put_rises q left es rising = holds _ (is_sorted-put row_cmp row_total q left es (passes _ rising))

pub in_order_rises : (es : List Entry) → IsRising (in_order es)
in_order_rises [] = refl
in_order_rises (e ∷ es) = put_rises e.0 e.1 (in_order es) (in_order_rises es)

pub rows_in_rise : (rows : List RowId) (db : Database) → IsRising (rows_in rows db)
rows_in_rise rows db = in_order_rises (map (λ id. (id, get db id)) rows)

pub find-rows_in : (rows : List RowId) (db : Database) (q : RowId) → find row_cmp q (rows_in rows db) ≡ cond (has_row rows q) (Some (get db q)) None
find-rows_in rows db q =
    find-in_order (map (λ id. (id, get db id)) rows) q ∙ find-of_each (get db) q rows

pub has_the_rows : HasTheRows
has_the_rows rows db = (rows_in_rise rows db, find-rows_in rows db)

carried : {X : Type 0} (b : Bool) (after before : X) → (b ≡ false → after ≡ before) → unwrap_or (cond b (Some after) None) before ≡ after
carried true after before stays = refl
carried false after before stays = sym (stays refl)

pub put_batch-writes : CarriesChanges
put_batch-writes ts changes before after is =
    let batch = rows_in (writes changes) after in
    same_map row_total exact_row (put_batch batch before) after (λ q.
    get-put_batch batch before q (rows_in_rise (writes changes) after)
    ∙ ap (λ found. unwrap_or found (get before q)) (find-rows_in (writes changes) after q)
    ∙ carried (has_row (writes changes) q) (get after q) (get before q) (changes_only_writes ts changes before after q is))

pub put_batches-append : GoesOn
put_batches-append [] more db = refl
put_batches-append (batch ∷ batches) more db = put_batches-append batches more (put_batch batch db)

pub left_by-append : GoesOnByOps
left_by-append ops more = ap (λ batches. put_batches batches empty) (map-append batch_of ops more) ∙ put_batches-append (map batch_of ops) (map batch_of more) empty

plain : {X : Type 0} (o : Option X) → unwrap_or (option_map Some o) None ≡ o
plain None = refl
plain (Some x) = refl

pub all_rows_rise : (db : Database) → IsRising (all_rows db)
all_rows_rise db = is_sorted-map Some (entries db) ∙ holds _ (entries_sorted db)

pub find-all_rows : (db : Database) (q : RowId) → find row_cmp q (all_rows db) ≡ option_map Some (get db q)
find-all_rows db q = find-map Some q (entries db) ∙ ap (option_map Some) (sym (get-entries db q))

pub put_batch-all_rows : (db : Database) → put_batch (all_rows db) empty ≡ db
put_batch-all_rows db = same_map row_total exact_row (put_batch (all_rows db) empty) db (λ q.
    get-put_batch (all_rows db) empty q (all_rows_rise db)
    ∙ (λ i. unwrap_or (find-all_rows db q i) (get-empty {X = List ℤ} row_cmp q i))
    ∙ plain (get db q))

pub loads_all : LoadsAll
loads_all db = (all_rows_rise db, put_batch-all_rows db)
