-- Counts of failures, of several devices.
use Rattle.std.proofs.Common.{◌≡◌, ◌∙◌, sym, ap, subst, refl, ℕ, ◌≤◌, Bool, true, false, List, [], ◌∷◌, ◌++◌, inl, inr, arith, eq-or-lt_of_le}
use Rattle.std.proofs.lemmas.Bool.{false≢true}
use Rattle.world.specs.declared.events.Reply.{Reply}
use Rattle.world.specs.Put.{FailedBy, OneFailed, SomeFailed}
use Rattle.world.specs.Pair.{is_failure}
use Rattle.world.specs.State.{World, Link, Rests, counts_of, IsCounted, TellsFailure}
use Rattle.world.specs.Run.{AreCounted, TellFailures}

-- ---- one of them failed

-- the one at this place
pub one_failed : (front : List ℕ) (before now : ℕ) (behind : List ℕ) → before ≤ now → FailedBy before now → OneFailed (front ++ before ∷ behind) (front ++ now ∷ behind)
one_failed [] before now behind up failed = inl (up, failed, refl)
one_failed (x ∷ front) before now behind up failed = inr (refl, one_failed front before now behind up failed)

same_head : (d b : ℕ) → d ∷ [] ≡ b ∷ [] → d ≡ b
same_head d b e = cc

-- one of the two at this place
pub one_of_two : (front : List ℕ) (a b c d : ℕ) (behind : List ℕ) → OneFailed (a ∷ b ∷ []) (c ∷ d ∷ []) → OneFailed (front ++ a ∷ b ∷ behind) (front ++ c ∷ d ∷ behind)
one_of_two [] a b c d behind (inl one) = inl (one.0, one.1, ap (λ n. n ∷ behind) (same_head d b one.2))
one_of_two [] a b c d behind (inr other) = inr (other.0, elim other.1 [ inl one ↦ inl (one.0, one.1, refl) | inr none ↦ absurd none.1 ])
one_of_two (x ∷ front) a b c d behind one = inr (refl, one_of_two front a b c d behind one)

-- ---- none fell

abbrev pub NoneFell : List ℕ → List ℕ → Type 0
NoneFell [] [] = Unit {0}
NoneFell [] (now ∷ news) = ⊥
NoneFell (before ∷ olds) [] = ⊥
NoneFell (before ∷ olds) (now ∷ news) = (before ≤ now) × NoneFell olds news

none_fell : (counts : List ℕ) → NoneFell counts counts
none_fell [] = tt
none_fell (count ∷ counts) = (omega arith, none_fell counts)

fell_on : (a b c : List ℕ) → NoneFell a b → NoneFell b c → NoneFell a c
fell_on [] [] c h k = k
fell_on [] (y ∷ b) c h k = absurd h
fell_on (x ∷ a) [] c h k = absurd h
fell_on (x ∷ a) (y ∷ b) [] h k = absurd k
fell_on (x ∷ a) (y ∷ b) (z ∷ c) h k = (omega (arith, h.0, k.0), fell_on a b c h.1 k.1)

one_grows : (olds news : List ℕ) → OneFailed olds news → NoneFell olds news
one_grows [] news one = absurd one
one_grows (x ∷ olds) [] one = absurd one
one_grows (x ∷ olds) (y ∷ news) (inl one) = (one.0, subst (NoneFell olds) (sym one.2) (none_fell olds))
one_grows (x ∷ olds) (y ∷ news) (inr other) = (omega (arith, other.0), one_grows olds news other.1)

pub some_failed : (olds news : List ℕ) → OneFailed olds news → SomeFailed olds news
some_failed [] news one = absurd one
some_failed (x ∷ olds) [] one = absurd one
some_failed (x ∷ olds) (y ∷ news) (inl one) = inl one.1
some_failed (x ∷ olds) (y ∷ news) (inr other) = inr (some_failed olds news other.1)

-- a device failed before, or later
by_before : (old mid new : ℕ) → old ≤ mid → mid ≤ new → FailedBy old mid → FailedBy old new
by_before old mid new up on (inl more) = inl (omega (arith, more, on))
by_before old mid new up on (inr last) = elim (eq-or-lt_of_le on) [ inl same ↦ inr (sym same ∙ last) | inr more ↦ inl (omega (arith, up, more)) ]

by_later : (old mid new : ℕ) → old ≤ mid → FailedBy mid new → FailedBy old new
by_later old mid new up (inl more) = inl (omega (arith, more, up))
by_later old mid new up (inr last) = inr last

failed_before : (a b c : List ℕ) → NoneFell a b → NoneFell b c → SomeFailed a b → SomeFailed a c
failed_before [] b c up on some = absurd some
failed_before (x ∷ a) [] c up on some = absurd some
failed_before (x ∷ a) (y ∷ b) [] up on some = absurd on
failed_before (x ∷ a) (y ∷ b) (z ∷ c) up on (inl one) = inl (by_before x y z up.0 on.0 one)
failed_before (x ∷ a) (y ∷ b) (z ∷ c) up on (inr more) = inr (failed_before a b c up.1 on.1 more)

failed_later : (a b c : List ℕ) → NoneFell a b → SomeFailed b c → SomeFailed a c
failed_later [] [] c up some = absurd some
failed_later [] (y ∷ b) c up some = absurd up
failed_later (x ∷ a) [] c up some = absurd up
failed_later (x ∷ a) (y ∷ b) [] up some = absurd some
failed_later (x ∷ a) (y ∷ b) (z ∷ c) up (inl one) = inl (by_later x y z up.0 one)
failed_later (x ∷ a) (y ∷ b) (z ∷ c) up (inr more) = inr (failed_later a b c up.1 more)

-- ---- replies

reply_grows : (reply : Reply) (before now : List ℕ) → IsCounted before reply now → NoneFell before now
reply_grows reply before now counted = by (is_failure reply) refl where
  by : (b : Bool) → is_failure reply ≡ b → NoneFell before now
  by true e = one_grows before now (counted.told e)
  by false e = subst (NoneFell before) (sym (counted.quiet e)) (none_fell before)

counted_grows : (rs : List Reply) (before now : List ℕ) → AreCounted before rs now → NoneFell before now
counted_grows [] before now h = subst (NoneFell before) (sym h) (none_fell before)
counted_grows (r ∷ rs) before now h = fell_on before h.0 now (reply_grows r before h.0 h.1) (counted_grows rs h.0 now h.2)

counted_more : (rs : List Reply) (r : Reply) (before mid now : List ℕ) → AreCounted before rs mid → IsCounted mid r now → AreCounted before (rs ++ r ∷ []) now
counted_more [] r before mid now h one = (now, subst (λ (n : List ℕ). IsCounted n r now) h one, refl)
counted_more (x ∷ rs) r before mid now h one = (h.0, h.1, counted_more rs r h.0 mid now h.2 one)

-- a reply that tells that a device failed
pub tells_one : {D R : Type 0} (faults : D → ℕ) (reply : Reply) (old new : World D R) → is_failure reply ≡ true → OneFailed (counts_of faults old.wire) (counts_of faults new.wire) →
    TellsFailure faults reply old new
tells_one faults reply old new failure one = record {
  counted = record { quiet = λ none. absurd (false≢true (sym none ∙ failure)); told = λ _. one };
  seen = λ running failed. some_failed (counts_of faults old.wire) (counts_of faults new.wire) one;
}

-- a reply that tells of no failure, where the counts stay and the log does not fail
pub tells_none : {D R : Type 0} (faults : D → ℕ) (reply : Reply) (old new : World D R) → is_failure reply ≡ false → counts_of faults new.wire ≡ counts_of faults old.wire →
    new.wire.log.failed ≡ old.wire.log.failed → TellsFailure faults reply old new
tells_none faults reply old new quiet same runs = record {
  counted = record { quiet = λ _. same; told = λ failed. absurd (false≢true (sym quiet ∙ failed)) };
  seen = λ running failed. absurd (false≢true (sym running ∙ sym runs ∙ failed));
}

-- where the log and its devices rest
pub tells_rest : {D R : Type 0} (faults : D → ℕ) (reply : Reply) (old new : World D R) → Rests reply old.wire new.wire → TellsFailure faults reply old new
tells_rest faults reply old new rests =
    tells_none faults reply old new rests.quiet (ap (λ (x : Link _). counts_of faults x) rests.same) (ap (λ (x : Link _). x.log.failed) rests.same)

pub tell_nothing : {D R : Type 0} (faults : D → ℕ) (w : World D R) → TellFailures faults [] w w
tell_nothing faults w = record { counted = refl; seen = λ running failed. absurd (false≢true (sym running ∙ failed)) }

-- one reply more
pub tell_more : {D R : Type 0} (faults : D → ℕ) (rs : List Reply) (r : Reply) (old mid new : World D R) → TellFailures faults rs old mid → TellsFailure faults r mid new →
    TellFailures faults (rs ++ r ∷ []) old new
tell_more faults rs r old mid new before now = record {
  counted = counted_more rs r first between last before.counted now.counted;
  seen = λ running failed. either mid.wire.log.failed refl running failed;
} where
  first : List ℕ
  first = counts_of faults old.wire

  between : List ℕ
  between = counts_of faults mid.wire

  last : List ℕ
  last = counts_of faults new.wire

  up : NoneFell first between
  up = counted_grows rs first between before.counted

  either : (b : Bool) → mid.wire.log.failed ≡ b → old.wire.log.failed ≡ false → new.wire.log.failed ≡ true → SomeFailed first last
  either true e running failed = failed_before first between last up (reply_grows r between last now.counted) (before.seen running e)
  either false e running failed = failed_later first between last up (now.seen e failed)
