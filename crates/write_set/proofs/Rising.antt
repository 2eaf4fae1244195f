-- Rising lists of numbers, and the one that has the numbers of a list.
use Rattle.std.proofs.Common.{◌≡◌, ◌∙◌, sym, ap, refl, ℕ, Bool, true, false, ◌&&◌, ◌||◌, cond, eqb, List, [], ◌∷◌, ◌++◌, map, is_some, nat_cmp, IsPermutation}
use Rattle.std.specs.List.{list_any, filter, dedup}
use Rattle.std.specs.List.Sorted.{IsSorted, IsStrictlyIncreasing}
use Rattle.std.specs.Ordering.{eq_by_cmp}
use Rattle.std.specs.Cmp.{unsigned_tied, nat_cmp_total}
use Rattle.std.specs.FinMap.{FinMap, get, keys, contains_key-keys, nat_cmp-IsAntisymmetric}
use Rattle.std.proofs.lemmas.Map.Keys.{IsStrictlyIncreasing-from_sorted}
use Rattle.std.proofs.lemmas.List.Folds.{list_any-append}
use Rattle.schema.specs.declared.Table.{Table}
use Rattle.schema.specs.declared.RowId.{RowId}
use Rattle.schema.specs.Rows.{Mark}
use Rattle.schema.proofs.Rising.{set_of, keys_rise, rising_same, rising_is, sorted_once as keys_once}
use Rattle.write_set.specs.Digest.{digest_of, mark_digest, is_keyed, rising}
use Rattle.write_set.specs.Laws.{HasJustTheDigests, DigestsRise}

-- ---- numbers, by `==`

any_alike : {X : Type 0} (p q : X → Bool) → ((x : X) → p x ≡ q x) → (xs : List X) → list_any p xs ≡ list_any q xs
any_alike p q alike [] = refl
any_alike p q alike (x ∷ xs) = λ i. alike x i || any_alike p q alike xs i

by_eqb : (q : ℕ) (ns : List ℕ) → list_any (eq_by_cmp nat_cmp q) ns ≡ list_any (eqb q) ns
by_eqb q ns = any_alike (eq_by_cmp nat_cmp q) (eqb q) (unsigned_tied q) ns

pub member-rising : (ns : List ℕ) (q : ℕ) → list_any (eqb q) (rising ns) ≡ list_any (eqb q) ns
member-rising ns q = sym (by_eqb q (rising ns)) ∙ rising_same nat_cmp_total ns q ∙ by_eqb q ns

-- the keys of a map that has just these numbers
pub keys-rising : {X : Type 0} (m : FinMap nat_cmp X) (ns : List ℕ) → ((q : ℕ) → is_some (get m q) ≡ list_any (eqb q) ns) → keys m ≡ rising ns
keys-rising m ns same = rising_is nat_cmp_total nat_cmp-IsAntisymmetric ns (keys m) (keys_rise nat_cmp m) (λ q. sym (contains_key-keys m q) ∙ same q ∙ sym (by_eqb q ns))

pub rising-rises : (ns : List ℕ) → IsStrictlyIncreasing (rising ns)
rising-rises ns = IsStrictlyIncreasing-from_sorted (rising ns) (keys_rise nat_cmp (set_of nat_cmp ns))

-- what a sort and a `dedup` leave
pub sorted_once : (ns sorted : List ℕ) → IsPermutation ns sorted → IsSorted nat_cmp sorted → dedup eqb sorted ≡ rising ns
sorted_once ns sorted moves order = keys_once nat_cmp_total nat_cmp-IsAntisymmetric (λ x y. sym (unsigned_tied x y)) ns sorted moves order

-- ---- the digests of a footprint

digests_of_keyed : (tables : List Table) (rows : List RowId) (d : ℕ) → list_any (eqb d) (map digest_of (filter (is_keyed tables) rows))
    ≡ list_any (λ row. is_keyed tables row && eqb d (digest_of row)) rows
digests_of_keyed tables [] d = refl
digests_of_keyed tables (row ∷ rows) d =
    with_row (is_keyed tables row) (digests_of_keyed tables rows d)
  where
    with_row : (keyed : Bool) → list_any (eqb d) (map digest_of (filter (is_keyed tables) rows)) ≡ list_any (λ r. is_keyed tables r && eqb d (digest_of r)) rows →
        list_any (eqb d) (map digest_of (cond keyed (row ∷ filter (is_keyed tables) rows) (filter (is_keyed tables) rows)))
        ≡ ((keyed && eqb d (digest_of row)) || list_any (λ r. is_keyed tables r && eqb d (digest_of r)) rows)
    with_row true h = ap (λ b. eqb d (digest_of row) || b) h
    with_row false h = h

digests_of_marks : (marks : List Mark) (d : ℕ) → list_any (eqb d) (map mark_digest marks) ≡ list_any (λ mark. eqb d (mark_digest mark)) marks
digests_of_marks [] d = refl
digests_of_marks (mark ∷ marks) d = ap (λ b. eqb d (mark_digest mark) || b) (digests_of_marks marks d)

pub just_the_digests : HasJustTheDigests
just_the_digests tables t d =
    let rows = map digest_of (filter (is_keyed tables) t.writes) in
    let marks = map mark_digest t.marks in
    member-rising (rows ++ marks) d ∙ list_any-append (eqb d) rows marks ∙ (λ i. digests_of_keyed tables t.writes d i || digests_of_marks t.marks d i)

pub digests_rise : DigestsRise
digests_rise tables t = rising-rises (map digest_of (filter (is_keyed tables) t.writes) ++ map mark_digest t.marks)
