-- The keys of a list in rising order, each once, where keys have an order.
use Rattle.std.proofs.Common.{◌≡◌, ◌∙◌, sym, ap, subst, Bool, true, T, is_lt, Ordering, Less, List, [], ◌∷◌, map, Option, Some, None, is_some, refl, true≢false, IsPermutation}
use Rattle.std.specs.List.{list_any, dedup, AllByRecursion}
use Rattle.std.specs.List.Sorted.{IsSorted, IsStrictlySortedBy}
use Rattle.std.specs.Ordering.{eq_by_cmp}
use Rattle.std.specs.Cmp.{IsTotalOrder, eq_by_cmp_equiv}
use Rattle.std.specs.FinMap.{FinMap, IsAntisymmetric, get, find, keys, entries, entries_sorted, from_entries, from_sorted, entries-from_sorted, get-from_entries, get-from_sorted, contains_key-keys}
use Rattle.std.specs.FinMap.{same_map, is_sorted}
use Rattle.std.specs.FinMap.Entries.{below_all, is_some-find}
use Rattle.std.proofs.lemmas.Bool.{and_from, and_parts}
use Rattle.std.proofs.lemmas.List.Kept.{IsStrictlySortedBy-dedup, Contains-dedup, Contains-from_dedup}
use Rattle.std.proofs.lemmas.List.Sorted.{list_any-IsPermutation}
use Rattle.std.proofs.lemmas.Map.Keys.{sorted_head, sorted_tail}
use Rattle.std.proofs.lemmas.Map.Views.{Contains-from_any, list_any-from_Contains}
use Rattle.schema.proofs.Telling.{both_or_none, true_from_T, is_equal, is_less}

T_from_true : (b : Bool) → b ≡ true → T b
T_from_true b e = subst T (sym e) tt

found : (o p : Option (Unit {0})) → is_some o ≡ is_some p → o ≡ p
found None None h = refl
found None (Some u) h = absurd (true≢false (sym h))
found (Some u) None h = absurd (true≢false h)
found (Some u) (Some v) h = refl

-- ---- keys as those of a map

module _ {K : Type 0} (R : K → K → Ordering) where
  abbrev pub entries_of : List K → List (K × Unit {0})
  entries_of ks = map (λ k. (k, tt {0})) ks

  keys_of : (ks : List K) → map (λ (e : K × Unit {0}). e.0) (entries_of ks) ≡ ks
  keys_of [] = refl
  keys_of (k ∷ ks) = ap (λ rest. k ∷ rest) (keys_of ks)

  abbrev pub set_of : List K → FinMap R (Unit {0})
  set_of ks = from_entries {R = R} (entries_of ks)

  -- these keys in rising order, each once
  abbrev pub rising_keys : List K → List K
  rising_keys ks = keys (set_of ks)

  below : (k : K) (ks : List K) → AllByRecursion (λ other. R k other ≡ Less) ks → below_all R k (entries_of ks) ≡ true
  below k [] h = refl
  below k (other ∷ ks) h = and_from _ _ (ap is_lt h.0) (below k ks h.1)

  sorted_entries : (ks : List K) → IsStrictlySortedBy R ks → is_sorted R (entries_of ks) ≡ true
  sorted_entries [] h = refl
  sorted_entries (k ∷ ks) h = and_from _ _ (below k ks (sorted_head R k ks h)) (sorted_entries ks (sorted_tail R k ks h))

  -- what the map of a list's keys has
  member : (ks : List K) (q : K) → is_some (find R q (entries_of ks)) ≡ list_any (eq_by_cmp R q) ks
  member ks q = is_some-find R q (entries_of ks) ∙ ap (list_any (eq_by_cmp R q)) (keys_of ks)

  module _ {X : Type 0} where
    above : (k : K) (es : List (K × X)) → below_all R k es ≡ true → AllByRecursion (λ other. R k other ≡ Less) (map (λ (e : K × X). e.0) es)
    above k [] h = tt
    above k (e ∷ es) h = let parts = and_parts (is_lt (R k e.0)) (below_all R k es) h in (is_less (R k e.0) parts.0, above k es parts.1)

    sorted_keys : (es : List (K × X)) → is_sorted R es ≡ true → IsStrictlySortedBy R (map (λ (e : K × X). e.0) es)
    unfolding IsStrictlySortedBy
    sorted_keys [] h = tt
    sorted_keys (e ∷ es) h = let parts = and_parts (below_all R e.0 es) (is_sorted R es) h in (above e.0 es parts.0, sorted_keys es parts.1)

    -- the keys of a map rise
    pub keys_rise : (m : FinMap R X) → IsStrictlySortedBy R (keys m)
    keys_rise m = sorted_keys (entries m) (true_from_T _ (entries_sorted m))

-- ---- the rising list of a list's keys

module _ {K : Type 0} {R : K → K → Ordering} (o : IsTotalOrder R) where
  has : (ks : List K) (q : K) → is_some (get (set_of R ks) q) ≡ list_any (eq_by_cmp R q) ks
  has ks q = ap is_some (get-from_entries o (entries_of R ks) q) ∙ member R ks q

  -- it has the same keys
  pub rising_same : (ks : List K) (q : K) → list_any (eq_by_cmp R q) (rising_keys R ks) ≡ list_any (eq_by_cmp R q) ks
  rising_same ks q = sym (contains_key-keys (set_of R ks) q) ∙ has ks q

  -- and is the one that has them and rises
  pub rising_is : IsAntisymmetric R → (ks other : List K) → IsStrictlySortedBy R other → ((q : K) → list_any (eq_by_cmp R q) other ≡ list_any (eq_by_cmp R q) ks) → other ≡ rising_keys R ks
  rising_is exact ks other sorted same =
      let up = T_from_true _ (sorted_entries R other sorted) in
      let maps : from_sorted (entries_of R other) ≡ set_of R ks = same_map o exact (from_sorted (entries_of R other)) (set_of R ks) (λ q.
      found (get (from_sorted (entries_of R other)) q) (get (set_of R ks) q)
      (ap is_some (get-from_sorted R (entries_of R other) q up) ∙ member R other q ∙ same q ∙ sym (has ks q))) in
      sym (ap (map (λ (e : K × Unit {0}). e.0)) (entries-from_sorted R (entries_of R other) up) ∙ keys_of R other) ∙ ap keys maps

-- ---- what a sort and a `dedup` leave

module _ {K : Type 0} {R : K → K → Ordering} (o : IsTotalOrder R) (exact : IsAntisymmetric R) {E : K → K → Bool} (ties : (x y : K) → E x y ≡ eq_by_cmp R x y) where
  is_key : (x y : K) → eq_by_cmp R x y ≡ true → x ≡ y
  is_key x y h = exact x y (is_equal (R x y) h)

  -- a `dedup` leaves the same keys
  pub dedup_same : (ks : List K) (q : K) → list_any (eq_by_cmp R q) (dedup E ks) ≡ list_any (eq_by_cmp R q) ks
  dedup_same ks q =
      let laws = eq_by_cmp_equiv o in
      (λ i. list_any (eq_by_cmp R q) (dedup (λ x y. ties x y i) ks))
      ∙ both_or_none _ _
      (λ h. list_any-from_Contains laws q ks (Contains-from_dedup (eq_by_cmp R) ks q (Contains-from_any is_key q (dedup (eq_by_cmp R) ks) h)))
      (λ h. list_any-from_Contains laws q (dedup (eq_by_cmp R) ks) (Contains-dedup laws is_key ks q (Contains-from_any is_key q ks h)))

  pub sorted_once : (ks sorted : List K) → IsPermutation ks sorted → IsSorted R sorted → dedup E sorted ≡ rising_keys R ks
  sorted_once ks sorted moves order =
      rising_is o exact ks (dedup E sorted) (IsStrictlySortedBy-dedup o ties sorted order)
      (λ q. dedup_same sorted q ∙ sym (list_any-IsPermutation (eq_by_cmp R q) ks sorted moves))
