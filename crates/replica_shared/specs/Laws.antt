-- What follows from the definitions of the publication and of the replica.
use Rattle.std.specs.Prelude.{◌≡◌, ◌≤◌, List, length, take, Some}
use mathlib.Core.List.{IsPrefix}
use Rattle.store_trait.specs.declared.Op.{Op}
use Rattle.store_trait.specs.Operation.{loaded, left_by}
use Rattle.gapped.specs.Gapped.{gapped, IsClosed}
use Rattle.published.specs.History.{IsHistory, commits_in}
use Rattle.replica_core.specs.Replica.{Replica, ran, operations}
use Rattle.replica_core.specs.Sound.{IsSound}

-- What was published at an end, and what a seat saw, are beginnings of what became known. Where the seat saw no more commits than were
-- published, the rows that it read are those of a gapped state of the accepted list: that of its first so many commits.
abbrev pub SeatsSeeGapped : Type 0
SeatsSeeGapped = (r : Replica) (published seen known : List Op) → IsSound r → published ≡ operations r.tables r.base (ran r) (commits_in published) → commits_in published ≤ length r.commits →
    IsPrefix published known → IsPrefix seen known → IsHistory r.preserve seen → commits_in seen ≤ commits_in published →
    IsClosed (take (commits_in seen) r.commits) r.accepted × (gapped r.tables (loaded r.base) r.accepted (take (commits_in seen) r.commits) ≡ Some (left_by seen))
