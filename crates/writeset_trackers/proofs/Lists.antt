-- Choices between two numbers, and what is true of each element of a list.
use Rattle.std.proofs.Common.{◌≡◌, subst, ℕ, ◌≤◌, Bool, true, false, cond, List, [], ◌∷◌, ◌++◌, reverse}
use Rattle.std.specs.List.{AllByRecursion}
use Rattle.std.proofs.lemmas.List.{reverse-append}
use Rattle.schema.proofs.Lists.{AllByRecursion-front, AllByRecursion-behind}

pub either_within : (b : Bool) (x y n : ℕ) → x ≤ n → y ≤ n → cond b x y ≤ n
either_within true x y n h g = h
either_within false x y n h g = g

pub within_either : (b : Bool) (x y n : ℕ) → n ≤ x → n ≤ y → n ≤ cond b x y
within_either true x y n h g = h
within_either false x y n h g = g

-- two facts of each element
pub joined : {X : Type 0} (P Q R : X → Type 0) → ((x : X) → P x → Q x → R x) → (xs : List X) → AllByRecursion P xs → AllByRecursion Q xs → AllByRecursion R xs
joined P Q R f [] ps qs = tt
joined P Q R f (x ∷ xs) ps qs = (f x ps.0 qs.0, joined P Q R f xs ps.1 qs.1)

-- one more at the end is the first of the reverse
pub reversed : {X : Type 0} (xs : List X) (x : X) → reverse (xs ++ x ∷ []) ≡ x ∷ reverse xs
reversed xs x = reverse-append xs (x ∷ [])

-- what is true of the reverse is true of the list
pub of_reverse : {X : Type 0} (P : X → Type 0) (xs : List X) → AllByRecursion P (reverse xs) → AllByRecursion P xs
of_reverse P [] all = tt
of_reverse P (x ∷ xs) all =
    let parts = subst (AllByRecursion P) (reverse-append (x ∷ []) xs) all in
    ((AllByRecursion-behind P (reverse xs) (x ∷ []) parts).0, of_reverse P xs (AllByRecursion-front P (reverse xs) (x ∷ []) parts))
