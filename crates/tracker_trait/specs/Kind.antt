-- What a tracker is made for.
use Rattle.std.specs.Prelude.{ℕ}
use Rattle.tracker_trait.specs.declared.Tracking.{Tracking}

pub record Kind : Type 0 where
  pub mode : Tracking
  -- the greatest number of digests that its history keeps
  pub limit : ℕ
