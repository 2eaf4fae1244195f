-- What the numbers in some slots are.
use Rattle.std.proofs.Common.{◌≡◌, ◌≢◌, ◌∙◌, sym, ap, subst, refl, ℕ, zero, suc, ◌+◌, ◌<◌, Bool, true, false, cond, eqb, ltb, List, [], ◌∷◌, length, set, Option, Some, None, is_some, ◌⊎◌, inl, inr}
use Rattle.std.proofs.Common.{nat_cmp, arith}
use Rattle.std.specs.Cmp.{unsigned_tied, nat_cmp_total}
use Rattle.std.specs.FinMap.{empty, get, insert, len, get-empty, len-empty, get-insert, len-insert, same_map, nat_cmp-IsAntisymmetric}
use Rattle.std.proofs.lemmas.Bool.{both_ways, cases_Bool, cases_eq, le-ltb, ltb-true, eq-eqb, ne_eqb, cond-true, cond-false}
use Rattle.std.proofs.lemmas.Option.{none-some, same_Some}
use Rattle.writeset_history.specs.declared.slots.Slot.{Slot}
use Rattle.writeset_history.specs.History.{Numbers}
use Rattle.writeset_history.specs.Slots.{is_live, slot_at, numbers_in}

-- what an insert leaves
pub get_entered : (m : Numbers) (k v q : ℕ) → get (insert m k v) q ≡ cond (eqb q k) (Some v) (get m q)
get_entered m k v q = get-insert nat_cmp_total m k v q ∙ ap (λ b. cond b (Some v) (get m q)) (unsigned_tied q k)

entered_same : (m : Numbers) (k v : ℕ) → get (insert m k v) k ≡ Some v
entered_same m k v = get_entered m k v k ∙ cond-true (eqb k k) _ _ (eq-eqb k k refl)

entered_other : (m : Numbers) (k v q : ℕ) → q ≢ k → get (insert m k v) q ≡ get m q
entered_other m k v q apart = get_entered m k v q ∙ cond-false (eqb q k) _ _ (ne_eqb q k apart)

-- no slot that is not free has the digest
abbrev pub HasNone : List Slot → ℕ → ℕ → Type 0
HasNone slots start digest = (k : ℕ) → is_live start (slot_at slots k) ≡ true → (slot_at slots k).digest ≢ digest

-- of the slots that are not free at most this one has the digest
abbrev pub HasAtMost : List Slot → ℕ → ℕ → ℕ → Type 0
HasAtMost slots start digest place = (k : ℕ) → is_live start (slot_at slots k) ≡ true → (slot_at slots k).digest ≡ digest → k ≡ place

-- the numbers of the rest, where the first slot is free, and where it is not
abbrev after : ℕ → Slot → Numbers → Bool → Numbers
after start slot rest live = cond live (insert rest slot.digest slot.sequence) rest

-- a digest that no slot has has no number
pub get-none : (slots : List Slot) (start digest : ℕ) → HasNone slots start digest → get (numbers_in start slots) digest ≡ None
get-none [] start digest none = get-empty nat_cmp digest
get-none (slot ∷ rest) start digest none =
    elim (cases_Bool (is_live start slot)) [
      | inl live ↦ ap (λ b. get (after start slot (numbers_in start rest) b) digest) live
          ∙ entered_other (numbers_in start rest) slot.digest slot.sequence digest (λ e. none 0 live (sym e))
          ∙ get-none rest start digest (λ k. none (suc k))
      | inr free ↦ ap (λ b. get (after start slot (numbers_in start rest) b) digest) free
          ∙ get-none rest start digest (λ k. none (suc k))
    ]

-- a digest that one slot has has its number
pub get-held : (slots : List Slot) (start place : ℕ) → is_live start (slot_at slots place) ≡ true → HasAtMost slots start (slot_at slots place).digest place →
    get (numbers_in start slots) (slot_at slots place).digest ≡ Some (slot_at slots place).sequence
get-held [] start place live once = absurd (both_ways (ltb start 0) (le-ltb start 0 (omega arith)) live)
get-held (slot ∷ rest) start zero live once =
    ap (λ b. get (after start slot (numbers_in start rest) b) slot.digest) live ∙ entered_same (numbers_in start rest) slot.digest slot.sequence
get-held (slot ∷ rest) start (suc place) live once =
    let here = slot_at rest place in
    elim (cases_Bool (is_live start slot)) [
      | inl first ↦ ap (λ b. get (after start slot (numbers_in start rest) b) here.digest) first
          ∙ entered_other (numbers_in start rest) slot.digest slot.sequence here.digest (λ e. absurd (omega (arith, once 0 first (sym e))))
          ∙ get-held rest start place live (λ k h e. omega (arith, once (suc k) h e))
      | inr free ↦ ap (λ b. get (after start slot (numbers_in start rest) b) here.digest) free
          ∙ get-held rest start place live (λ k h e. omega (arith, once (suc k) h e))
    ]

-- free slots have no numbers
pub numbers_in-free : (slots : List Slot) (start : ℕ) → ((k : ℕ) → is_live start (slot_at slots k) ≡ false) → numbers_in start slots ≡ empty
numbers_in-free [] start free = refl
numbers_in-free (slot ∷ rest) start free =
    ap (after start slot (numbers_in start rest)) (free 0) ∙ numbers_in-free rest start (λ k. free (suc k))

-- no two slots that are not free have one digest
abbrev pub AreApart : List Slot → ℕ → Type 0
AreApart slots start =
    (i k : ℕ) → is_live start (slot_at slots i) ≡ true → is_live start (slot_at slots k) ≡ true → (slot_at slots i).digest ≡ (slot_at slots k).digest → i ≡ k

-- where no slot is free, there is a number for each
pub len-full : (slots : List Slot) (start : ℕ) → ((k : ℕ) → k < length slots → is_live start (slot_at slots k) ≡ true) → AreApart slots start →
    len (numbers_in start slots) ≡ length slots
len-full [] start full apart = len-empty nat_cmp ℕ
len-full (slot ∷ rest) start full apart =
    ap (λ b. len (after start slot (numbers_in start rest) b)) (full 0 (omega arith))
    ∙ len-insert nat_cmp_total (numbers_in start rest) slot.digest slot.sequence
    ∙ ap (λ o. cond (is_some o) (len (numbers_in start rest)) (len (numbers_in start rest) + 1)) fresh
    ∙ omega (arith, len-full rest start (λ k h. full (suc k) (omega (arith, h))) (λ i k a b e. omega (arith, apart (suc i) (suc k) a b e)))
  where
    fresh : get (numbers_in start rest) slot.digest ≡ None
    fresh = get-none rest start slot.digest (λ k h e. absurd (omega (arith, apart 0 (suc k) (full 0 (omega arith)) h (sym e))))

-- ---- one slot is written

-- a number that is entered last stays, and two digests may be entered in either order
twice : (m : Numbers) (k v w : ℕ) → insert (insert m k v) k w ≡ insert m k w
twice m k v w = same_map nat_cmp_total nat_cmp-IsAntisymmetric _ _ (λ q.
    get_entered (insert m k v) k w q ∙ ap (cond (eqb q k) (Some w)) (get_entered m k v q) ∙ once (eqb q k) (Some w) (Some v) (get m q) ∙ sym (get_entered m k w q))
  where
    once : (b : Bool) (x y z : Option ℕ) → cond b x (cond b y z) ≡ cond b x z
    once true x y z = refl
    once false x y z = refl

turned : (m : Numbers) (j k v w : ℕ) → j ≢ k → insert (insert m j v) k w ≡ insert (insert m k w) j v
turned m j k v w apart = same_map nat_cmp_total nat_cmp-IsAntisymmetric _ _ (λ q.
    get_entered (insert m j v) k w q ∙ ap (cond (eqb q k) (Some w)) (get_entered m j v q)
    ∙ swapped q
    ∙ sym (get_entered (insert m k w) j v q ∙ ap (cond (eqb q j) (Some v)) (get_entered m k w q)))
  where
    swapped : (q : ℕ) → cond (eqb q k) (Some w) (cond (eqb q j) (Some v) (get m q)) ≡ cond (eqb q j) (Some v) (cond (eqb q k) (Some w) (get m q))
    swapped q = elim (cases_eq q k) [
      | inl e ↦ grind (arith)
      | inr e ↦ grind (arith)
    ]

-- the written slot is not free, was free or had the digest, and no other slot has the digest
pub numbers_in-set : (slots : List Slot) (start place : ℕ) (new : Slot) → place < length slots → is_live start new ≡ true →
    (is_live start (slot_at slots place) ≡ false) ⊎ ((slot_at slots place).digest ≡ new.digest) →
    ((k : ℕ) → k ≢ place → is_live start (slot_at slots k) ≡ true → (slot_at slots k).digest ≢ new.digest) →
    numbers_in start (set slots place new) ≡ insert (numbers_in start slots) new.digest new.sequence
numbers_in-set [] start place new within live was others = absurd (omega (arith, within))
numbers_in-set (slot ∷ rest) start zero new within live was others =
    ap (after start new (numbers_in start rest)) live ∙ elim was [
      | inl free ↦ ap (λ b. insert (after start slot (numbers_in start rest) b) new.digest new.sequence) (sym free)
      | inr own ↦ elim (cases_Bool (is_live start slot)) [
        | inl held ↦ sym (twice (numbers_in start rest) new.digest slot.sequence new.sequence)
            ∙ ap (λ d. insert (insert (numbers_in start rest) d slot.sequence) new.digest new.sequence) (sym own)
            ∙ ap (λ b. insert (after start slot (numbers_in start rest) b) new.digest new.sequence) (sym held)
        | inr free ↦ ap (λ b. insert (after start slot (numbers_in start rest) b) new.digest new.sequence) (sym free)
      ]
    ]
numbers_in-set (slot ∷ rest) start (suc place) new within live was others =
    ap (λ (m : Numbers). after start slot m (is_live start slot)) (numbers_in-set rest start place new (omega (arith, within)) live was (λ k apart h. others (suc k) (λ e. apart (omega (arith, e))) h))
    ∙ elim (cases_Bool (is_live start slot)) [
      | inl held ↦ ap (after start slot (insert (numbers_in start rest) new.digest new.sequence)) held
          ∙ turned (numbers_in start rest) new.digest slot.digest new.sequence slot.sequence (λ e. others 0 (λ z. absurd (omega (arith, z))) held (sym e))
          ∙ ap (λ b. insert (after start slot (numbers_in start rest) b) new.digest new.sequence) (sym held)
      | inr free ↦ ap (after start slot (insert (numbers_in start rest) new.digest new.sequence)) free
          ∙ ap (λ b. insert (after start slot (numbers_in start rest) b) new.digest new.sequence) (sym free)
    ]

-- each number is above the start
pub numbers_in-above : (slots : List Slot) (start digest number : ℕ) → get (numbers_in start slots) digest ≡ Some number → start < number
numbers_in-above [] start digest number e = absurd (none-some number (sym (get-empty nat_cmp digest) ∙ e))
numbers_in-above (slot ∷ rest) start digest number e = elim (cases_Bool (is_live start slot)) [
  | inl live ↦ of_first (numbers_in-above rest start digest number) (eqb digest slot.digest) live
      (sym (get_entered (numbers_in start rest) slot.digest slot.sequence digest) ∙ ap (λ b. get (after start slot (numbers_in start rest) b) digest) (sym live) ∙ e)
  | inr free ↦ numbers_in-above rest start digest number (ap (λ b. get (after start slot (numbers_in start rest) b) digest) (sym free) ∙ e)
]
  where
    of_first : (get (numbers_in start rest) digest ≡ Some number → start < number) → (own : Bool) → is_live start slot ≡ true →
        cond own (Some slot.sequence) (get (numbers_in start rest) digest) ≡ Some number → start < number
    of_first above true live h = subst (λ n. start < n) (same_Some slot.sequence number h) (ltb-true start slot.sequence live)
    of_first above false live h = above h
