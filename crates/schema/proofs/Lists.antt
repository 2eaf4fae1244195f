-- What proofs need of lists and options, whatever these are of.
use Rattle.std.proofs.Common.{◌≡◌, ◌∙◌, ap, refl, ℕ, zero, suc, ◌+◌, ◌<◌, Bool, true, false, List, [], ◌∷◌, ◌++◌, length, map, take, drop, get_or, Option, Some, None, arith}
use Rattle.std.specs.Prelude.{slice_get}
use Rattle.std.specs.List.{AllByRecursion}
use Rattle.std.specs.Option.{option_map, option_map_or}
use Rattle.std.proofs.lemmas.Option.{same_Some}

-- ---- what is true of each element

pub AllByRecursion-append : {X : Type 0} (P : X → Type 0) (xs ys : List X) → AllByRecursion P xs → AllByRecursion P ys → AllByRecursion P (xs ++ ys)
AllByRecursion-append P [] ys front behind = behind
AllByRecursion-append P (x ∷ xs) ys front behind = (front.0, AllByRecursion-append P xs ys front.1 behind)

pub AllByRecursion-front : {X : Type 0} (P : X → Type 0) (xs ys : List X) → AllByRecursion P (xs ++ ys) → AllByRecursion P xs
AllByRecursion-front P [] ys all = tt
AllByRecursion-front P (x ∷ xs) ys all = (all.0, AllByRecursion-front P xs ys all.1)

pub AllByRecursion-behind : {X : Type 0} (P : X → Type 0) (xs ys : List X) → AllByRecursion P (xs ++ ys) → AllByRecursion P ys
AllByRecursion-behind P [] ys all = all
AllByRecursion-behind P (x ∷ xs) ys all = AllByRecursion-behind P xs ys all.1

pub AllByRecursion-push : {X : Type 0} (P : X → Type 0) (xs : List X) (y : X) → AllByRecursion P xs → P y → AllByRecursion P (xs ++ y ∷ [])
AllByRecursion-push P xs y all one = AllByRecursion-append P xs (y ∷ []) all (one, tt)

pub AllByRecursion-weaker : {X : Type 0} (P Q : X → Type 0) → ((x : X) → P x → Q x) → (xs : List X) → AllByRecursion P xs → AllByRecursion Q xs
AllByRecursion-weaker P Q f [] all = tt
AllByRecursion-weaker P Q f (x ∷ xs) all = (f x all.0, AllByRecursion-weaker P Q f xs all.1)

pub AllByRecursion-map : {X Y : Type 0} (f : X → Y) (P : Y → Type 0) (xs : List X) → AllByRecursion (λ x. P (f x)) xs → AllByRecursion P (map f xs)
AllByRecursion-map f P [] all = tt
AllByRecursion-map f P (x ∷ xs) all = (all.0, AllByRecursion-map f P xs all.1)

-- what is true of each is so at each place
pub AllByRecursion-at : {X : Type 0} (P : X → Type 0) (xs : List X) (i : ℕ) (d : X) → AllByRecursion P xs → i < length xs → P (get_or xs i d)
AllByRecursion-at P [] i d all within = absurd (omega (arith, within))
AllByRecursion-at P (x ∷ xs) zero d all within = all.0
AllByRecursion-at P (x ∷ xs) (suc i) d all within = AllByRecursion-at P xs i d all.1 (omega (arith, within))

-- ---- an element by its place

pub get_within : {X : Type 0} (xs : List X) (i : ℕ) → i < length xs → (x : X) × (slice_get xs i ≡ Some x)
get_within [] i within = absurd (omega (arith, within))
get_within (x ∷ xs) zero within = (x, refl)
get_within (x ∷ xs) (suc i) within = get_within xs i (omega (arith, within))

pub get_front : {X : Type 0} (xs ys : List X) (i : ℕ) → i < length xs → slice_get (xs ++ ys) i ≡ slice_get xs i
get_front [] ys i within = absurd (omega (arith, within))
get_front (x ∷ xs) ys zero within = refl
get_front (x ∷ xs) ys (suc i) within = get_front xs ys i (omega (arith, within))

pub get_back : {X : Type 0} (xs ys : List X) (i : ℕ) → slice_get (xs ++ ys) (length xs + i) ≡ slice_get ys i
get_back [] ys i = ap (slice_get ys) (omega arith)
get_back (x ∷ xs) ys i =
    let e : length (x ∷ xs) + i ≡ suc (length xs + i) = omega arith in
    ap (slice_get (x ∷ (xs ++ ys))) e ∙ get_back xs ys i

pub get_behind : {X : Type 0} (k : ℕ) (l : List X) (i : ℕ) → slice_get (drop k l) i ≡ slice_get l (k + i)
get_behind zero l i = let none : i ≡ 0 + i = omega arith in ap (slice_get l) none
get_behind (suc k) [] i = refl
get_behind (suc k) (x ∷ l) i = let next : suc (k + i) ≡ suc k + i = omega arith in get_behind k l i ∙ ap (slice_get (x ∷ l)) next

pub get_before : {X : Type 0} (i k : ℕ) (l : List X) → i < k → slice_get (take k l) i ≡ slice_get l i
get_before i zero l h = absurd (omega (arith, h))
get_before zero (suc k) [] h = refl
get_before zero (suc k) (x ∷ l) h = refl
get_before (suc i) (suc k) [] h = refl
get_before (suc i) (suc k) (x ∷ l) h = get_before i k l (omega (arith, h))

-- an element within a list is the same whatever is read past its end
pub read_at : {X : Type 0} (xs : List X) (i : ℕ) (d e : X) → i < length xs → get_or xs i d ≡ get_or xs i e
read_at [] i d e within = absurd (omega (arith, within))
read_at (x ∷ xs) zero d e within = refl
read_at (x ∷ xs) (suc i) d e within = read_at xs i d e (omega (arith, within))

-- ---- options

-- what an answer was made of
pub made_of : {A B : Type 0} (f : A → B) (o : Option A) (y : B) → option_map f o ≡ Some y → (x : A) × (o ≡ Some x) × (f x ≡ y)
made_of f None y h = cc
made_of f (Some x) y h = (x, refl, same_Some (f x) y h)

-- what passed a test that nothing passes
pub option_map_or_true : {A : Type 0} (test : A → Bool) (o : Option A) → option_map_or test o false ≡ true → (x : A) × (o ≡ Some x) × (test x ≡ true)
option_map_or_true test None h = cc
option_map_or_true test (Some x) h = (x, refl, h)
