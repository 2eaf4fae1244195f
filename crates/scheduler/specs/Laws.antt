-- The laws of the low-water mark.
use Rattle.std.specs.Prelude.{◌≡◌, ℕ, ◌+◌, ◌≤◌, true, false}
use Rattle.scheduler.specs.Marks.{Marks, is_committed}

-- the greatest number such that every transaction up to it is committed
pub record IsGreatest (marks : Marks) (low : ℕ) : Type 0 where
  pub all : (gno : ℕ) → gno ≤ low → is_committed marks gno ≡ true
  pub greatest : (other : ℕ) → ((gno : ℕ) → gno ≤ other → is_committed marks gno ≡ true) → other ≤ low

abbrev pub LowIsGreatest : Type 0
LowIsGreatest = (marks : Marks) → is_committed marks (marks.low + 1) ≡ false → IsGreatest marks marks.low
