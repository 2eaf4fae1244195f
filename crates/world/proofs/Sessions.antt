-- The transactions of all sessions.
use Rattle.std.proofs.Common.{◌≡◌, ◌∙◌, sym, ap, refl, ℕ, zero, suc, ◌+◌, ◌-◌, ◌≤◌, ◌<◌, ◌==◌, if◌then◌else◌, List, ◌∷◌, length, map, get_or, set, replicate, Option, None, arith}
use Rattle.std.specs.List.{range_with_len}
use Rattle.std.proofs.lemmas.Bool.{eq-eqb, ne_eqb}
use Rattle.std.proofs.lemmas.Simd.{map-map, splat_is_map}
use Rattle.std.proofs.lemmas.List.FromFn.{length-range_with_len, length-map-range_with_len}
use Rattle.source_core.specs.Source.{Open}
use Rattle.source_core.specs.Calls.{each_session}
use Rattle.world.specs.Pair.{transactions}

-- ---- lists that a function makes of numbers in turn

same_each : {X : Type 0} (f g : ℕ → X) (a n : ℕ) → ((k : ℕ) → a ≤ k → f k ≡ g k) → map f (range_with_len a n) ≡ map g (range_with_len a n)
same_each f g a zero same = refl
same_each f g a (suc n) same = λ i. same a (omega arith) i ∷ same_each f g (a + 1) n (λ k le. same k (omega (arith, le))) i

-- each changed by its number
each_of : (f : ℕ → Option Open) (h : ℕ → Option Open → Option Open) (a n : ℕ) → each_session h a (map f (range_with_len a n)) ≡ map (λ k. h k (f k)) (range_with_len a n)
each_of f h a zero = refl
each_of f h a (suc n) = ap (λ xs. h a (f a) ∷ xs) (each_of f h (a + 1) n)

-- one of them changed, at its place
set_each : {X : Type 0} (f : ℕ → X) (h : X → X) (d : X) (one a n place : ℕ) → one ≡ a + place → place < n →
    set (map f (range_with_len a n)) place (h (get_or (map f (range_with_len a n)) place d)) ≡ map (λ k. if one == k then h (f k) else f k) (range_with_len a n)
set_each f h d one a zero place is within = absurd (omega (arith, within))
set_each f h d one a (suc n) zero is within =
    λ i. (if sym (eq-eqb one a (omega (arith, is))) i then h (f a) else f a) ∷ same_each f (λ k. if one == k then h (f k) else f k) (a + 1) n later i where
      later : (k : ℕ) → a + 1 ≤ k → f k ≡ (if one == k then h (f k) else f k)
      later k le = ap (λ b. if b then h (f k) else f k) (sym (ne_eqb one k (λ e. omega (arith, is, le, e))))
set_each f h d one a (suc n) (suc place) is within =
    λ i. (if sym (ne_eqb one a (λ e. omega (arith, is, e))) i then h (f a) else f a) ∷ set_each f h d one (a + 1) n place (omega (arith, is)) (omega (arith, within)) i

-- ---- the sessions

-- they are made of as many numbers as there are sessions
counted : (count : ℕ) × (count ≡ 256) × ((f : ℕ → Option Open) → transactions f ≡ map f (range_with_len 1 count))
unfolding transactions
counted = (256, refl, λ f. refl)

pub length_transactions : (f : ℕ → Option Open) → length (transactions f) ≡ 256
length_transactions f = ap (λ (ts : List (Option Open)). length ts) (counted.2 f) ∙ length-map-range_with_len f 1 counted.0 ∙ counted.1

-- none has a transaction
pub none_open : replicate 256 None ≡ transactions (λ k. None)
none_open =
    ap (λ (n : ℕ). replicate {A = Option Open} n None) (sym counted.1)
    ∙ splat_is_map {V = ℕ} {Y = Option Open} (range_with_len 1 counted.0) counted.0 None (length-range_with_len 1 counted.0) ∙ sym (counted.2 (λ k. None))

-- one of them changed
pub one_changed : (f : ℕ → Option Open) (h : Option Open → Option Open) (session : ℕ) → 1 ≤ session → session ≤ 256 →
    transactions (λ k. if session == k then h (f k) else f k) ≡ set (transactions f) (session - 1) (h (get_or (transactions f) (session - 1) None))
one_changed f h session least greatest =
    counted.2 (λ k. if session == k then h (f k) else f k)
    ∙ sym (set_each f h None session 1 counted.0 (session - 1) (omega (arith, least)) (omega (arith, least, greatest, counted.1)))
    ∙ ap (λ (ts : List (Option Open)). set ts (session - 1) (h (get_or ts (session - 1) None))) (sym (counted.2 f))

-- all of them
pub all_changed : (f : ℕ → Option Open) (h : Option Open → Option Open) → transactions (λ k. h (f k)) ≡ map h (transactions f)
all_changed f h = counted.2 (λ k. h (f k)) ∙ sym (map-map h f (range_with_len 1 counted.0)) ∙ ap (map h) (sym (counted.2 f))

-- each by its number
pub each_changed : (f : ℕ → Option Open) (h : ℕ → Option Open → Option Open) → transactions (λ k. h k (f k)) ≡ each_session h 1 (transactions f)
each_changed f h = counted.2 (λ k. h k (f k)) ∙ sym (each_of f h 1 counted.0) ∙ ap (λ (ts : List (Option Open)). each_session h 1 ts) (sym (counted.2 f))
