-- The commits that are waited for, as intervals of their numbers, and sets of ids.
use Rattle.std.specs.Prelude.{◌≡◌, ℕ, zero, suc, ◌+◌, ◌-◌, ◌≤◌, Bool, true, false, ◌&&◌, List, [], ◌∷◌}
use Rattle.std.specs.List.{list_all}
use Rattle.store_trait.specs.declared.Op.{Op}
use Rattle.store_trait.specs.declared.Op.TheVariants.{Load, Commit}
use Rattle.gtid_set.specs.Ids.{Ids}
use Rattle.gtid_set.specs.Numbers.{has_number, is_within}
use Rattle.gtid_set.specs.declared.intervals.Interval.{Interval}
use Rattle.scheduler.specs.Gnos.{has_gno}

-- whether so many numbers, from this one on, are all among these
abbrev pub has_run : List ℕ → ℕ → ℕ → Bool
has_run gnos from zero = true
has_run gnos from (suc n) = has_gno gnos from && has_run gnos (from + 1) n

-- whether each number of the interval is
abbrev pub has_each : List ℕ → Interval → Bool
has_each gnos i = has_run gnos i.first (i.last + 1 - i.first)

-- whether each number of the intervals is
abbrev pub has_all : List ℕ → List Interval → Bool
has_all gnos is = list_all (λ i. has_each gnos i) is

-- the numbers from 1 to this one
abbrev pub up_to : ℕ → List Interval
up_to gno = record { first = 1; last = gno } ∷ []

-- whether the operation is a commit of the interval
abbrev pub is_commit_in : Interval → Op → Bool
is_commit_in i (Load base) = false
is_commit_in i (Commit gno batch) = is_within i gno

-- each number of the set is among these
abbrev pub AreAmong : List ℕ → Ids → Type 0
AreAmong gnos ids = (gno : ℕ) → has_number ids.numbers gno ≡ true → has_gno gnos gno ≡ true

-- all numbers of the set are at most this one
abbrev pub AreUpTo : ℕ → Ids → Type 0
AreUpTo n ids = (gno : ℕ) → has_number ids.numbers gno ≡ true → gno ≤ n
