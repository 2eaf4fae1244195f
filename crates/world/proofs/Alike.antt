-- Batches that load the same rows, and beginnings of logs.
use mathlib.Core.List.{IsPrefix}
use Rattle.std.proofs.Common.{◌≡◌, ◌∙◌, sym, ap, subst, refl, ℕ, ℤ, zero, suc, ◌<◌, ◌≤◌, Bool, true, false, cond, ◌↔◌, IsTrue, get_or, unwrap_or, List, [], ◌∷◌, ◌++◌, length, take, drop, Option, Some}
use Rattle.std.proofs.Common.{None, Ordering, Less, Equal, Greater, is_lt, is_eq, arith, inl, inr, eq-or-lt_of_le}
use Rattle.std.specs.Ordering.{ordering_index, ordering_reverse}
use Rattle.std.specs.List.{AllByRecursion}
use Rattle.std.specs.List.Sorted.{IsNonDecreasingBy, IsPartitionPoint}
use Rattle.std.specs.FinMap.{get, find, is_sorted, get-empty, same_map}
use Rattle.std.specs.FinMap.Entries.{below_all}
use Rattle.std.specs.Cmp.{tied_itself}
use Rattle.std.proofs.lemmas.Bool.{and_parts, false≢true, cases_lt}
use Rattle.std.proofs.lemmas.List.{take-append-drop, take_all}
use Rattle.std.proofs.lemmas.Option.{same_Some}
use Rattle.schema.specs.declared.RowId.{RowId}
use Rattle.schema.specs.RowId.{row_cmp, row_total, exact_row}
use Rattle.schema.proofs.Telling.{is_less}
use Rattle.rows.specs.Database.{Database}
use Rattle.store_trait.specs.Batch.{Entry, IsRising}
use Rattle.store_trait.specs.Operation.{loaded}
use Rattle.store_trait.proofs.Batches.{get-put_batch}
use Rattle.record_codec.specs.declared.records.Record.{Record}

-- ---- a row among those of a batch

-- a row before all of some is before each
below_at : (x : RowId) (es : List Entry) (i : ℕ) (d : Entry) → below_all row_cmp x es ≡ true → i < length es → row_cmp x (get_or es i d).0 ≡ Less
below_at x [] i d h lt = absurd (omega (arith, lt))
below_at x (e ∷ es) zero d h lt = is_less _ (and_parts (is_lt (row_cmp x e.0)) (below_all row_cmp x es) h).0
below_at x (e ∷ es) (suc i) d h lt = below_at x es i d (and_parts (is_lt (row_cmp x e.0)) (below_all row_cmp x es) h).1 (omega (arith, lt))

rises_at : (es : List Entry) (i j : ℕ) (d : Entry) → IsRising es → i < j → j < length es → row_cmp (get_or es i d).0 (get_or es j d).0 ≡ Less
rises_at [] i j d h lt within = absurd (omega (arith, within))
rises_at (e ∷ es) zero zero d h lt within = absurd (omega (arith, lt))
rises_at (e ∷ es) (suc i) zero d h lt within = absurd (omega (arith, lt))
rises_at (e ∷ es) zero (suc j) d h lt within = below_at e.0 es j d (and_parts (below_all row_cmp e.0 es) (is_sorted row_cmp es) h).0 (omega (arith, within))
rises_at (e ∷ es) (suc i) (suc j) d h lt within = rises_at es i j d (and_parts (below_all row_cmp e.0 es) (is_sorted row_cmp es) h).1 (omega (arith, lt)) (omega (arith, within))

at_most : (r : Ordering) → ordering_index r ≤ 2
at_most Less = omega arith
at_most Equal = omega arith
at_most Greater = omega arith

-- of two rows the lesser is no further behind a third
rank_rises : (a b id : RowId) → row_cmp a b ≡ Less → ordering_index (row_cmp a id) ≤ ordering_index (row_cmp b id)
rank_rises a b id less = by (row_cmp b id) refl where
  by : (r : Ordering) → row_cmp b id ≡ r → ordering_index (row_cmp a id) ≤ ordering_index (row_cmp b id)
  by Less e = omega (arith, ap ordering_index (row_total.trans a b id less e))
  by Equal e = omega (arith, ap ordering_index (ap (row_cmp a) (sym (exact_row b id e)) ∙ less))
  by Greater e = omega (arith, at_most (row_cmp a id), ap ordering_index e)

pub ranks_rise : (es : List Entry) (id : RowId) → IsRising es → IsNonDecreasingBy (λ (y : Entry). ordering_index (row_cmp y.0 id)) es
ranks_rise es id h i j d le within = elim (eq-or-lt_of_le le) [
  | inl same ↦ omega (arith, ap (λ (n : ℕ). ordering_index (row_cmp (get_or es n d).0 id)) same)
  | inr less ↦ rank_rises (get_or es i d).0 (get_or es j d).0 id (rises_at es i j d h less within)
]

-- the other way round
before_not_eq : (a b : RowId) → row_cmp a b ≡ Less → is_eq (row_cmp b a) ≡ false
before_not_eq a b less = ap is_eq (row_total.antisymm b a ∙ ap ordering_reverse less)

behind_not_eq : (a b : RowId) → row_cmp a b ≡ Greater → is_eq (row_cmp b a) ≡ false
behind_not_eq a b more = ap is_eq (row_total.antisymm b a ∙ ap ordering_reverse more)

itself : (a : RowId) → is_eq (row_cmp a a) ≡ true
itself a = ap is_eq (tied_itself row_total a)

-- the row at a place is found
pub found_at : (es : List Entry) (i : ℕ) (d : Entry) → IsRising es → i < length es → find row_cmp (get_or es i d).0 es ≡ Some (get_or es i d).1
found_at [] i d h lt = absurd (omega (arith, lt))
found_at (e ∷ es) zero d h lt = ap (λ (b : Bool). cond b (Some e.1) (find row_cmp e.0 es)) (itself e.0)
found_at (e ∷ es) (suc i) d h lt =
    let parts = and_parts (below_all row_cmp e.0 es) (is_sorted row_cmp es) h in
    ap (λ (b : Bool). cond b (Some e.1) (find row_cmp (get_or es i d).0 es)) (before_not_eq e.0 (get_or es i d).0 (below_at e.0 es i d parts.0 (omega (arith, lt))))
    ∙ found_at es i d parts.1 (omega (arith, lt))

-- a row that is at no place is not found
absent : (es : List Entry) (id : RowId) → ((i : ℕ) (d : Entry) → i < length es → is_eq (row_cmp id (get_or es i d).0) ≡ false) → find row_cmp id es ≡ None
absent [] id none = refl
absent (e ∷ es) id none =
    ap (λ (b : Bool). cond b (Some e.1) (find row_cmp id es)) (none 0 e (omega arith)) ∙ absent es id (λ i d lt. none (suc i) d (omega (arith, lt)))

-- nor one that would stand between two
pub none_between : (es : List Entry) (id : RowId) (at : ℕ) → IsPartitionPoint (λ (y : Entry). row_cmp y.0 id ≡ Less) (λ (y : Entry). row_cmp y.0 id ≡ Greater) es at → find row_cmp id es ≡ None
none_between es id at parted = absent es id (λ i d within. elim (cases_lt i at) [
  | inl before ↦ before_not_eq (get_or es i d).0 id (parted.0 i d (omega arith) before)
  | inr behind ↦ behind_not_eq (get_or es i d).0 id (parted.1 i d behind within)
])

-- ---- what a batch loads

loads : (es : List Entry) (q : RowId) → IsRising es → get (loaded es) q ≡ unwrap_or (find row_cmp q es) None
loads es q rising = get-put_batch es _ q rising ∙ ap (unwrap_or (find row_cmp q es)) (get-empty {X = List ℤ} row_cmp q)

-- the row at the place that was found
pub loads_found : (es : List Entry) (id : RowId) (i : ℕ) (d : Entry) → IsRising es → i < length es → row_cmp (get_or es i d).0 id ≡ Equal → (get_or es i d).1 ≡ get (loaded es) id
loads_found es id i d rising within is =
    sym (loads es id rising ∙ ap (λ (found : Option (Option (List ℤ))). unwrap_or found None)
    (ap (λ (q : RowId). find row_cmp q es) (sym (exact_row (get_or es i d).0 id is)) ∙ found_at es i d rising within))

pub loads_none : (es : List Entry) (id : RowId) (at : ℕ) → IsRising es → IsPartitionPoint (λ (y : Entry). row_cmp y.0 id ≡ Less) (λ (y : Entry). row_cmp y.0 id ≡ Greater) es at →
    None ≡ get (loaded es) id
loads_none es id at rising parted = sym (loads es id rising ∙ ap (λ (found : Option (Option (List ℤ))). unwrap_or found None) (none_between es id at parted))

-- ---- two batches

-- the batch has each of these rows so
abbrev pub AreLoaded : List Entry → List Entry → Type 0
AreLoaded es batch = AllByRecursion (λ (e : Entry). get (loaded batch) e.0 ≡ e.1) es

loaded_so : (es batch : List Entry) (q : RowId) (row : Option (List ℤ)) → AreLoaded es batch → find row_cmp q es ≡ Some row → get (loaded batch) q ≡ row
loaded_so [] batch q row all is = absurd (cc is)
loaded_so (e ∷ es) batch q row all is = by (row_cmp q e.0) refl (loaded_so es batch q row all.1) where
  by : (r : Ordering) → row_cmp q e.0 ≡ r → (find row_cmp q es ≡ Some row → get (loaded batch) q ≡ row) → get (loaded batch) q ≡ row
  by Equal k rest = ap (get (loaded batch)) (exact_row q e.0 k) ∙ all.0 ∙ same_Some e.1 row (sym (ap (λ (o : Ordering). cond (is_eq o) (Some e.1) (find row_cmp q es)) k) ∙ is)
  by Less k rest = rest (sym (ap (λ (o : Ordering). cond (is_eq o) (Some e.1) (find row_cmp q es)) k) ∙ is)
  by Greater k rest = rest (sym (ap (λ (o : Ordering). cond (is_eq o) (Some e.1) (find row_cmp q es)) k) ∙ is)

each_loaded : (es : List Entry) (P : Entry → Type 0) → ((i : ℕ) (d : Entry) → i < length es → P (get_or es i d)) → AllByRecursion P es
each_loaded [] P h = tt
each_loaded (e ∷ es) P h = (h 0 e (omega arith), each_loaded es P (λ i d lt. h (suc i) d (omega (arith, lt))))

-- a batch has its own rows
own_loaded : (es : List Entry) → IsRising es → AreLoaded es es
own_loaded es rising = each_loaded es (λ (e : Entry). get (loaded es) e.0 ≡ e.1) (λ i d lt.
    loads es (get_or es i d).0 rising ∙ ap (λ (found : Option (Option (List ℤ))). unwrap_or found None) (found_at es i d rising lt))

-- two batches that have each other's rows load the same
pub load_the_same : (one other : List Entry) → IsRising one → IsRising other → AreLoaded one other → AreLoaded other one → loaded one ≡ loaded other
load_the_same one other rises rises_too here there = same_map row_total exact_row (loaded one) (loaded other) (λ q. by q (find row_cmp q one) refl (find row_cmp q other) refl) where
  by : (q : RowId) (a : Option (Option (List ℤ))) → find row_cmp q one ≡ a → (b : Option (Option (List ℤ))) → find row_cmp q other ≡ b → get (loaded one) q ≡ get (loaded other) q
  by q (Some row) e b k = loaded_so one one q row (own_loaded one rises) e ∙ sym (loaded_so one other q row here e)
  by q None e (Some row) k = loaded_so other one q row there k ∙ sym (loaded_so other other q row (own_loaded other rises_too) k)
  by q None e None k =
      loads one q rises ∙ ap (λ (found : Option (Option (List ℤ))). unwrap_or found None) (e ∙ sym k) ∙ sym (loads other q rises_too)

-- and those that load the same have each other's rows
pub the_same_loads : (one other : List Entry) → IsRising one → loaded one ≡ loaded other → AreLoaded one other
the_same_loads one other rises same = by one (own_loaded one rises) where
  by : (es : List Entry) → AreLoaded es one → AreLoaded es other
  by [] all = tt
  by (e ∷ es) all = (ap (λ (db : Database). get db e.0) (sym same) ∙ all.0, by es all.1)

-- as two walks find them, where the first finds all
pub alike_then : (one other : List Entry) (a b : Bool) → IsRising one → IsRising other → IsTrue a ↔ AreLoaded one other → IsTrue b ↔ AreLoaded other one → a ≡ true →
    IsTrue b ↔ (loaded one ≡ loaded other)
alike_then one other a b rises rises_too here there found =
    (λ t. load_the_same one other rises rises_too (here.0 found) (there.0 t), λ same. there.1 (the_same_loads other one rises_too (sym same)))

-- and where it does not
pub alike_else : (one other : List Entry) (a : Bool) → IsRising one → IsTrue a ↔ AreLoaded one other → a ≡ false → IsTrue a ↔ (loaded one ≡ loaded other)
alike_else one other a rises here missed = (λ t. absurd (false≢true (sym missed ∙ t)), λ same. here.1 (the_same_loads one other rises same))

-- ---- beginnings of logs

pub prefix_of : (xs ys : List Record) → length xs ≤ length ys → take (length xs) xs ≡ take (length xs) ys → IsPrefix xs ys
prefix_of xs ys le same =
    let whole : take (length xs) xs ≡ xs = take_all (length xs) xs (omega arith) in
    (drop (length xs) ys, ap (λ (l : List Record). l ++ drop (length xs) ys) (sym whole ∙ same) ∙ take-append-drop (length xs) ys)

-- as a walk over all of them finds it
pub prefix_walked : (xs ys : List Record) (i : ℕ) → i ≤ length xs → length xs ≤ i → length xs ≤ length ys → take i xs ≡ take i ys → IsPrefix xs ys
prefix_walked xs ys i within all le same =
    let whole : i ≡ length xs = omega (arith, within, all) in
    prefix_of xs ys le (subst (λ (n : ℕ). take n xs ≡ take n ys) whole same)
