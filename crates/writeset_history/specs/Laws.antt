-- What follows from the definitions.
use Rattle.std.specs.Prelude.{◌≡◌, ℕ, ◌≤◌, ◌==◌, if◌then◌else◌, List, Some}
use Rattle.std.specs.List.{list_any}
use Rattle.std.specs.FinMap.{get}
use Rattle.writeset_history.specs.History.{History, new_history, entered, emptied, IsUpTo}

-- a digest that was entered has the number, and each other one what it had
abbrev pub EntersEach : Type 0
EntersEach =
    (h : History) (digests : List ℕ) (sequence digest : ℕ) →
    get (entered h digests sequence).numbers digest ≡ (if list_any (λ d. d == digest) digests then Some sequence else get h.numbers digest)

-- The number up to which a history is. A new one is up to 0; where numbers rise, it is up to that at which digests are entered; and
-- it is up to that at which it is emptied.
pub record IsKeptUpTo : Type 0 where
  pub new : (limit : ℕ) → IsUpTo (new_history limit) 0
  pub entered : (h : History) (digests : List ℕ) (before sequence : ℕ) → IsUpTo h before → before ≤ sequence → IsUpTo (entered h digests sequence) sequence
  pub emptied : (h : History) (sequence : ℕ) → IsUpTo (emptied h sequence) sequence
