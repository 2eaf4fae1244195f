-- Three queues as the parts of one list.
use Rattle.std.specs.Prelude.{ℕ, ◌-◌, ◌≤◌, List, take, drop, length}
use Rattle.std.specs.List.{slice_range, IsDistinct, AllByRecursion}
use Rattle.std.proofs.Common.{eqb}
use Rattle.commit_stages.specs.Queues.{Queues, IsSession, AreSizes}

-- the queues, where the line of all that wait has the commit queue before the sync queue before the flush queue
abbrev pub queues_in : List ℕ → ℕ → ℕ → List ℕ → Queues
queues_in line sync_from flush_from sizes = record {
  flush = drop flush_from line;
  sync = slice_range line sync_from flush_from;
  commit = take sync_from line;
  sizes = sizes;
}

-- The parts lie one behind the other, only sessions wait, and none of them twice. There is room for all sessions.
pub record IsLine (line : List ℕ) (sync_from flush_from capacity : ℕ) : Type 0 where
  pub in_order : sync_from ≤ flush_from
  pub within : flush_from ≤ length line
  pub sessions : AllByRecursion IsSession line
  pub distinct : IsDistinct eqb line
  pub room : 256 ≤ capacity

-- The groups of these sizes are the sync queue, and there is room for as many as there are sessions.
pub record AreGroups (sizes : List ℕ) (sync_from flush_from capacity : ℕ) : Type 0 where
  pub are : AreSizes sizes (flush_from - sync_from)
  pub room : 256 ≤ capacity
