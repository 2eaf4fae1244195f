-- The columns of a row with the named ones replaced.
use Rattle.std.proofs.Common.{◌≡◌, ◌≢◌, sym, ap, ◌∙◌, refl, arith, ℕ, zero, suc, ◌+◌, ◌<◌, ◌≤◌, Bool, true, false, cond, ◌/◌, ◌%◌, ◌==◌, count_ones, List, [], ◌∷◌, ◌++◌, append_assoc, length, is_some}
use Rattle.std.proofs.Common.{nat_lt, ◌*◌, ◌^◌, inl, inr, take, drop, set, get_or, ℤ, pos, Option, Some, None, add-zero, add-one}
use lib.Count.{ones_step, ones-ones}
use Rattle.std.proofs.lemmas.List.{drop-drop, drop-set-lt, drop_more, get_or-drop, take_more, take_more_set}
use Rattle.std.specs.Prelude.{slice_get, slice_index_or}
use Rattle.std.specs.Option.{option_map}
use Rattle.std.proofs.lemmas.Option.{cond_some, slice_get-get_or}
use Rattle.std.proofs.lemmas.Nat.Bits.{bit_at_lowest, bit_at-suc, bit_at-zero}
use Rattle.std.proofs.lemmas.Nat.{mod-pow-add}
use Rattle.std.proofs.Math.Nat.{mod-one, pow-suc}
use Rattle.std.proofs.lemmas.Bool.{cases_Bool}
use Rattle.std.proofs.lemmas.Bool.Decides.{nat_tests}
use Rattle.std.specs.Int.{bit_at}
use Rattle.schema.proofs.Telling.{both_or_none}
use Rattle.rows.specs.Naming.{names_column, assigned_from}

-- a column that is named has a value left
pub room_ahead : (rest used : ℕ) (values : List ℤ) → count_ones rest + used ≤ length values → rest % 2 ≡ 1 → used < length values
room_ahead rest used values room odd = let step = ones_step rest in omega arith

pub room_named : (rest used room : ℕ) → count_ones rest + used ≤ room → rest % 2 ≡ 1 → count_ones (rest / 2) + (used + 1) ≤ room
room_named rest used room h odd = let step = ones_step rest in omega arith

pub room_other : (rest used room : ℕ) → count_ones rest + used ≤ room → rest % 2 ≢ 1 → count_ones (rest / 2) + used ≤ room
room_other rest used room h even = let step = ones_step rest in omega arith

-- one column further, whose value is v from then on
assign_step : (rest i : ℕ) (left behind columns after : List ℤ) (v : ℤ) → i < length columns →
    assigned_from rest left (get_or columns i (pos 0) ∷ drop (i + 1) columns) ≡ option_map (λ more. v ∷ more) (assigned_from (rest / 2) behind (drop (i + 1) columns)) →
    take (i + 1) after ≡ take i columns ++ v ∷ [] → drop (i + 1) after ≡ drop (i + 1) columns →
    option_map (λ more. take i columns ++ more) (assigned_from rest left (drop i columns)) ≡ option_map (λ more. take (i + 1) after ++ more) (assigned_from (rest / 2) behind (drop (i + 1) after))
assign_step rest i left behind columns after v lt one front back =
    ap (λ (l : List ℤ). option_map (λ more. take i columns ++ more) (assigned_from rest left l)) (drop_more columns i (pos 0) lt)
    ∙ ap (option_map (λ more. take i columns ++ more)) one
    ∙ by (assigned_from (rest / 2) behind (drop (i + 1) columns))
    ∙ (λ j. option_map (λ more. sym front j ++ more) (assigned_from (rest / 2) behind (sym back j)))
  where
    by : (o : Option (List ℤ)) → option_map (λ more. take i columns ++ more) (option_map (λ more. v ∷ more) o) ≡ option_map (λ more. (take i columns ++ v ∷ []) ++ more) o
    by None = refl
    by (Some more) = ap Some (sym (append_assoc (take i columns) (v ∷ []) more))

-- a named column takes the next value
pub assign_named : (rest used i : ℕ) (values columns : List ℤ) → i < length columns → rest % 2 ≡ 1 → used < length values →
    option_map (λ more. take i columns ++ more) (assigned_from rest (drop used values) (drop i columns))
    ≡ option_map (λ more. take (i + 1) (set columns i (get_or values used (pos 0))) ++ more)
    (assigned_from (rest / 2) (drop (used + 1) values) (drop (i + 1) (set columns i (get_or values used (pos 0)))))
assign_named rest used i values columns lt odd room =
    assign_step rest i (drop used values) (drop (used + 1) values) columns (set columns i v) v lt
    (ap (λ n. cond (n == 1) (option_map (λ more. slice_index_or (drop used values) 0 (pos 0) ∷ more) (assigned_from (rest / 2) (drop 1 (drop used values)) (drop (i + 1) columns)))
    (option_map (λ more. get_or columns i (pos 0) ∷ more) (assigned_from (rest / 2) (drop used values) (drop (i + 1) columns)))) odd
    ∙ (λ j. option_map (λ more. first j ∷ more) (assigned_from (rest / 2) (drop-drop 1 used values j) (drop (i + 1) columns))))
    (take_more_set columns i v lt) (drop-set-lt (i + 1) columns i v (omega arith))
  where
    v : ℤ
    v = get_or values used (pos 0)

    first : slice_index_or (drop used values) 0 (pos 0) ≡ v
    first = get_or-drop used values 0 (pos 0) ∙ ap (λ n. get_or values n (pos 0)) (add-zero used)

-- a column that is not named stays
pub assign_other : (rest used i : ℕ) (values columns : List ℤ) → i < length columns → rest % 2 ≢ 1 →
    option_map (λ more. take i columns ++ more) (assigned_from rest (drop used values) (drop i columns))
    ≡ option_map (λ more. take (i + 1) columns ++ more) (assigned_from (rest / 2) (drop used values) (drop (i + 1) columns))
assign_other rest used i values columns lt even =
    assign_step rest i (drop used values) (drop used values) columns columns (get_or columns i (pos 0)) lt
    (ap (λ n. cond (n == 1) (option_map (λ more. slice_index_or (drop used values) 0 (pos 0) ∷ more) (assigned_from (rest / 2) (drop 1 (drop used values)) (drop (i + 1) columns)))
    (option_map (λ more. get_or columns i (pos 0) ∷ more) (assigned_from (rest / 2) (drop used values) (drop (i + 1) columns)))) zero_left)
    (take_more columns i (pos 0) lt) refl
  where
    zero_left : rest % 2 ≡ 0
    zero_left = omega arith

-- one more column
record Assigned (mask : ℕ) (values : List ℤ) (column : ℤ) (columns new : List ℤ) : Type 0 where
  first : ℤ
  rest : List ℤ
  left : List ℤ
  behind : assigned_from (mask / 2) left columns ≡ Some rest
  is : first ∷ rest ≡ new
  takes : (mask % 2 == 1) ≡ true → (first ≡ slice_index_or values 0 (pos 0)) × (left ≡ drop 1 values)
  stays : (mask % 2 == 1) ≡ false → (first ≡ column) × (left ≡ values)

assigned_cons : (mask : ℕ) (values : List ℤ) (column : ℤ) (columns new : List ℤ) → assigned_from mask values (column ∷ columns) ≡ Some new → Assigned mask values column columns new
assigned_cons mask values column columns new h = by (mask % 2 == 1) refl h
  where
    true_is_false : {A : Type 0} → true ≡ false → A
    true_is_false e = absurd (let f : ⊥ = cc in f)

    same_some : {A : Type 0} {x y : A} → ◌≡◌ {A = Option A} (Some x) (Some y) → x ≡ y
    same_some e = cc

    put : (first : ℤ) (left : List ℤ) (o : Option (List ℤ)) → assigned_from (mask / 2) left columns ≡ o → option_map (λ rest. first ∷ rest) o ≡ Some new →
        ((mask % 2 == 1) ≡ true → (first ≡ slice_index_or values 0 (pos 0)) × (left ≡ drop 1 values)) → ((mask % 2 == 1) ≡ false → (first ≡ column) × (left ≡ values)) →
        Assigned mask values column columns new
    put first left None e h takes stays = cc
    put first left (Some rest) e h takes stays = record { first = first; rest = rest; left = left; behind = e; is = same_some h; takes = takes; stays = stays }

    by : (b : Bool) → (mask % 2 == 1) ≡ b → cond b (option_map (λ rest. slice_index_or values 0 (pos 0) ∷ rest) (assigned_from (mask / 2) (drop 1 values) columns))
        (option_map (λ rest. column ∷ rest) (assigned_from (mask / 2) values columns)) ≡ Some new → Assigned mask values column columns new
    by true e h = put (slice_index_or values 0 (pos 0)) (drop 1 values) (assigned_from (mask / 2) (drop 1 values) columns) refl h (λ _. (refl, refl)) (λ other. true_is_false (sym e ∙ other))
    by false e h = put column values (assigned_from (mask / 2) values columns) refl h (λ other. true_is_false (sym other ∙ e)) (λ _. (refl, refl))

-- there are as many columns as before
pub assigned_length : (mask : ℕ) (values columns new : List ℤ) → assigned_from mask values columns ≡ Some new → length new ≡ length columns
assigned_length mask values [] new h = ap length (sym (cond_some (mask == 0) [] new h).1)
assigned_length mask values (column ∷ columns) new h =
    let a = assigned_cons mask values column columns new h in
    ap length (sym a.is) ∙ ap suc (assigned_length (mask / 2) a.left columns a.rest a.behind)

-- the columns that are not named stay
pub assigned_keeps : (c mask : ℕ) (values columns new : List ℤ) → assigned_from mask values columns ≡ Some new → names_column mask c ≡ false → slice_get new c ≡ slice_get columns c
assigned_keeps c mask values [] new h other = ap (λ (l : List ℤ). slice_get l c) (sym (cond_some (mask == 0) [] new h).1)
assigned_keeps zero mask values (column ∷ columns) new h other =
    let a = assigned_cons mask values column columns new h in
    ap (λ (l : List ℤ). slice_get l 0) (sym a.is) ∙ ap Some (a.stays (ap (λ n. n == 1) (sym (bit_at_lowest mask)) ∙ other)).0
assigned_keeps (suc c) mask values (column ∷ columns) new h other =
    let a = assigned_cons mask values column columns new h in
    ap (λ (l : List ℤ). slice_get l (suc c)) (sym a.is)
    ∙ assigned_keeps c (mask / 2) a.left columns a.rest a.behind (ap (λ n. n == 1) (sym (bit_at-suc mask c)) ∙ other)

-- the named columns below the next are one more, or as many
ones_below : (mask c : ℕ) → count_ones (mask % 2 ^ suc c) ≡ mask % 2 + count_ones (mask / 2 % 2 ^ c)
ones_below mask c =
    let low = mask % 2 ^ suc c in
    let split : mask % 2 ^ suc c ≡ (mask / 2 % 2 ^ c) * 2 + mask % 2 = ap (λ n. mask % 2 ^ n) (sym (add-one c)) ∙ mod-pow-add mask c 1 in
    let odd : (mask % 2 ^ suc c) % 2 ≡ mask % 2 = omega arith in
    let half : (mask % 2 ^ suc c) / 2 ≡ mask / 2 % 2 ^ c = omega arith in
    ones_step (mask % 2 ^ suc c) ∙ (λ i. odd i + count_ones (half i))

odd_from : (n : ℕ) → (n == 1) ≡ true → n ≡ 1
odd_from n is = grind (arith, nat_tests)

even_from : (n : ℕ) → (n % 2 == 1) ≡ false → n % 2 ≡ 0
even_from n other = let apart : n % 2 ≢ 1 = λ e. cc in omega arith

-- a named column takes its value, or 0 where there are not so many
pub assigned_gives : (c mask : ℕ) (values columns new : List ℤ) → assigned_from mask values columns ≡ Some new → names_column mask c ≡ true →
    slice_get new c ≡ Some (slice_index_or values (count_ones (mask % 2 ^ c)) (pos 0))
assigned_gives c mask values [] new h names =
    let none : mask ≡ 0 = grind (arith, nat_tests, (cond_some (mask == 0) [] new h).0) in
    let bit : (bit_at mask c == 1) ≡ false = ap (λ n. bit_at n c == 1) none ∙ ap (λ n. n == 1) (bit_at-zero c) in
    cc
assigned_gives zero mask values (column ∷ columns) new h names =
    let a = assigned_cons mask values column columns new h in
    let odd : (mask % 2 == 1) ≡ true = ap (λ n. n == 1) (sym (bit_at_lowest mask)) ∙ names in
    let none : count_ones (mask % 1) ≡ 0 = ap count_ones (mod-one mask) ∙ ones-ones 0 in
    ap (λ (l : List ℤ). slice_get l 0) (sym a.is) ∙ ap Some (a.takes odd).0 ∙ ap (λ n. Some (slice_index_or values n (pos 0))) (sym none)
assigned_gives (suc c) mask values (column ∷ columns) new h names =
    let a = assigned_cons mask values column columns new h in
    let k = count_ones (mask / 2 % 2 ^ c) in
    let below = ones_below mask c in
    let behind : names_column (mask / 2) c ≡ true = ap (λ n. n == 1) (sym (bit_at-suc mask c)) ∙ names in
    ap (λ (l : List ℤ). slice_get l (suc c)) (sym a.is) ∙ assigned_gives c (mask / 2) a.left columns a.rest a.behind behind ∙ ap Some (elim (cases_Bool (mask % 2 == 1)) [
      | inl odd ↦
          let is_odd = odd_from (mask % 2) odd in
          let more : 1 + count_ones (mask / 2 % 2 ^ c) ≡ count_ones (mask % 2 ^ suc c) = omega arith in
          ap (λ (l : List ℤ). get_or l k (pos 0)) (a.takes odd).1 ∙ get_or-drop 1 values k (pos 0) ∙ ap (λ n. get_or values n (pos 0)) more
      | inr even ↦
          let is_even = even_from mask even in
          let same : count_ones (mask / 2 % 2 ^ c) ≡ count_ones (mask % 2 ^ suc c) = omega arith in
          ap (λ (l : List ℤ). get_or l k (pos 0)) (a.stays even).1 ∙ ap (λ n. get_or values n (pos 0)) same
    ])

-- the named columns below one that is named are not all
ones_named : (c mask : ℕ) → names_column mask c ≡ true → count_ones (mask % 2 ^ c) < count_ones mask
ones_named zero mask names =
    let is_odd = odd_from (mask % 2) (ap (λ n. n == 1) (sym (bit_at_lowest mask)) ∙ names) in
    omega (arith, ones_step mask, ap count_ones (mod-one mask) ∙ ones-ones 0)
ones_named (suc c) mask names =
    omega (arith, ones_step mask, ones_below mask c, ones_named c (mask / 2) (ap (λ n. n == 1) (sym (bit_at-suc mask c)) ∙ names))

-- so it takes its value, where there are as many as named columns
pub assigned_takes : (c mask : ℕ) (values columns new : List ℤ) → count_ones mask ≤ length values → assigned_from mask values columns ≡ Some new → names_column mask c ≡ true →
    slice_get new c ≡ slice_get values (count_ones (mask % 2 ^ c))
assigned_takes c mask values columns new room h names =
    assigned_gives c mask values columns new h names ∙ sym (slice_get-get_or values (count_ones (mask % 2 ^ c)) (pos 0) (omega (arith, ones_named c mask names)))

half_below : (mask n : ℕ) → nat_lt (mask / 2) (2 ^ n) ≡ nat_lt mask (2 ^ suc n)
half_below mask n =
    let double : 2 ^ suc n ≡ 2 ^ n * 2 = pow-suc 2 n in
    both_or_none _ _ (λ h. let low : mask / 2 < 2 ^ n = grind (arith, nat_tests) in let all : mask < 2 ^ suc n = omega arith in grind (arith, nat_tests))
    (λ h. let low : mask < 2 ^ suc n = grind (arith, nat_tests) in let all : mask / 2 < 2 ^ n = omega arith in grind (arith, nat_tests))

-- each column named is there
pub assigned_is_there : (mask : ℕ) (values columns : List ℤ) → is_some (assigned_from mask values columns) ≡ nat_lt mask (2 ^ length columns)
assigned_is_there mask values [] = some_if [] (mask == 0) ∙ zero_below
  where
    some_if : (none : List ℤ) (b : Bool) → is_some (cond b (Some none) None) ≡ b
    some_if none true = refl
    some_if none false = refl

    zero_below : (mask == 0) ≡ nat_lt mask 1
    zero_below = grind (arith, nat_tests)
assigned_is_there mask values (column ∷ columns) =
    by (λ left. assigned_is_there (mask / 2) left columns) (mask % 2 == 1) ∙ half_below mask (length columns)
  where
    mapped : (first : ℤ) (o : Option (List ℤ)) → is_some (option_map (λ rest. first ∷ rest) o) ≡ is_some o
    mapped first None = refl
    mapped first (Some rest) = refl

    by : ((left : List ℤ) → is_some (assigned_from (mask / 2) left columns) ≡ nat_lt (mask / 2) (2 ^ length columns)) → (b : Bool) →
        is_some (cond b (option_map (λ rest. slice_index_or values 0 (pos 0) ∷ rest) (assigned_from (mask / 2) (drop 1 values) columns))
        (option_map (λ rest. column ∷ rest) (assigned_from (mask / 2) values columns))) ≡ nat_lt (mask / 2) (2 ^ length columns)
    by behind true = mapped (slice_index_or values 0 (pos 0)) (assigned_from (mask / 2) (drop 1 values) columns) ∙ behind (drop 1 values)
    by behind false = mapped column (assigned_from (mask / 2) values columns) ∙ behind values
