-- Sets of numbers, as intervals.
use Rattle.std.specs.Prelude.{◌≡◌, ℕ, ◌+◌, ◌^◌, ◌<◌, ◌≤◌, Bool, true, ◌&&◌, ◌||◌, ◌==◌, nat_le, nat_lt, List, [], ◌∷◌, length, take, drop}
use Rattle.std.specs.List.{list_any, AllByRecursion}
use Rattle.gtid_set.specs.declared.intervals.Interval.{Interval}

-- what a transaction may have as its number: 1 to 2 ^ 63 - 1
abbrev pub is_gno : ℕ → Bool
is_gno n = nat_le 1 n && nat_lt n (2 ^ 63)

-- whether the number is one from the interval's first to its last
abbrev pub is_within : Interval → ℕ → Bool
is_within i n = nat_le i.first n && nat_le n i.last

-- whether the number is in one of the intervals
abbrev pub has_number : List Interval → ℕ → Bool
has_number is n = list_any (λ i. is_within i n) is

-- an interval of numbers that transactions may have
pub record IsInterval (i : Interval) : Type 0 where
  pub from_one : 1 ≤ i.first
  pub rising : i.first ≤ i.last
  pub last : i.last < 2 ^ 63

-- Intervals that rise from this number on and never touch: between two of them at least one number is missing.
abbrev pub RiseFrom : ℕ → List Interval → Type 0
RiseFrom low [] = Unit {0}
RiseFrom low (i ∷ is) = (low ≤ i.first) × (i.first ≤ i.last) × (i.last < 2 ^ 63) × RiseFrom (i.last + 2) is

-- the one list of intervals of a set of numbers
abbrev pub AreNumbers : List Interval → Type 0
AreNumbers is = RiseFrom 1 is

-- the set with this number too
pub record Puts (old new : List Interval) (n : ℕ) : Type 0 where
  pub are : AreNumbers new
  pub have : (m : ℕ) → has_number new m ≡ (has_number old m || (m == n))

-- the set of the numbers that are in some of these intervals, which may lie in any way
pub record AreThoseOf (listed new : List Interval) : Type 0 where
  pub are : AreNumbers new
  pub have : (m : ℕ) → has_number new m ≡ has_number listed m

-- the greatest number of the set
pub record IsGreatest (is : List Interval) (n : ℕ) : Type 0 where
  pub have : has_number is n ≡ true
  pub most : (m : ℕ) → has_number is m ≡ true → m ≤ n

-- ---- what private functions of the crate say

-- so many intervals end below this number, and the others do not
pub record IsPlace (is : List Interval) (low at : ℕ) : Type 0 where
  pub within : at ≤ length is
  pub front : AllByRecursion (λ i. i.last < low) (take at is)
  pub back : AllByRecursion (λ i. low ≤ i.last) (drop at is)

-- the set with the numbers of the next interval, which begins no earlier than all that are there
pub record Joins (old new : List Interval) (next : Interval) : Type 0 where
  pub are : AreNumbers new
  pub sorted : AllByRecursion (λ i. i.first ≤ next.first) new
  pub have : (m : ℕ) → has_number new m ≡ (has_number old m || is_within next m)
