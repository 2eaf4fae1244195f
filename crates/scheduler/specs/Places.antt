-- What a scheduler keeps true of its places, and what it does as the mark goes up.
use Rattle.std.specs.Prelude.{◌≡◌, ℕ, ◌+◌, ◌<◌, ◌≤◌, Bool, true, false, List, length}
use Rattle.scheduler.specs.Marks.{is_marked, is_committed}

-- There are 4096 places, and none of the numbers behind the mark that are marked is above this one.
pub record AreWithin (low most : ℕ) (ring : List Bool) : Type 0 where
  pub places : length ring ≡ 4096
  pub reached : low ≤ most
  pub above : (gno : ℕ) → low < gno → gno ≤ low + 4096 → is_marked ring gno ≡ true → gno ≤ most

-- and the next is not marked
pub record IsRing (low most : ℕ) (ring : List Bool) : Type 0 where
  pub within : AreWithin low most ring
  pub next : is_marked ring (low + 1) ≡ false

-- the mark goes up as far as it can, and the same transactions are committed
pub record Passes (low most : ℕ) (ring : List Bool) (then : ℕ) (left : List Bool) : Type 0 where
  pub is_ring : IsRing then most left
  pub same : (gno : ℕ) → is_committed (record { low = then; ring = left }) gno ≡ is_committed (record { low = low; ring = ring }) gno
  pub gap : is_marked ring (low + 1) ≡ false → then ≡ low
