-- What turns keep true of their places.
use Rattle.std.specs.Prelude.{◌≡◌, ◌+◌, ◌≤◌, ℕ, List, length}
use Rattle.executor.specs.Job.{Finished}

-- there is a place for 64 records, with results or without
pub record HavePlaces (count : ℕ) (out : List ℕ) (done : List Finished) (room : ℕ) : Type 0 where
  pub counted : length out ≡ count
  pub few : length out + length done ≤ 64
  pub room_ : 64 ≤ room
