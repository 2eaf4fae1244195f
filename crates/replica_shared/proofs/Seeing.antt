-- What a seat saw, beside the commits of a replica.
use Rattle.std.proofs.Common.{◌≡◌, ◌∙◌, sym, ap, ◌+◌, ◌≤◌, List, length, take, Some, arith}
use mathlib.Core.List.{IsPrefix}
use Rattle.store_trait.specs.declared.Op.{Op}
use Rattle.store_trait.specs.Operation.{left_by}
use Rattle.published.specs.History.{IsHistory, commits_in}
use Rattle.published.proofs.Histories.{history_length}
use Rattle.replica_core.specs.Replica.{Replica, ran, operations}
use Rattle.replica_core.specs.Laws.{PublishedIsGapped}
use Rattle.replica_shared.specs.Laws.{SeatsSeeGapped}
use Rattle.replica_shared.proofs.Commits.{prefix_of_longer, first_operations}

-- a beginning of what became known that is no longer than what was published: the operations of the first so many commits
pub seen_is : (r : Replica) (published seen known : List Op) → published ≡ operations r.tables r.base (ran r) (commits_in published) → IsPrefix published known
    → IsPrefix seen known → IsHistory r.preserve seen → commits_in seen ≤ commits_in published → seen ≡ operations r.tables r.base (ran r) (commits_in seen)
seen_is r published seen known are shown saw history le =
    let size = history_length r.preserve seen history in
    let some : 1 ≤ length published = omega (arith, ap (λ (l : List Op). length l) are) in
    prefix_of_longer seen published known saw shown (omega (arith, size))
    ∙ ap (λ n. take n published) size
    ∙ ap (take (commits_in seen + 1)) are
    ∙ sym (first_operations r.tables r.base (ran r) (commits_in seen) (commits_in published) le)

-- so the rows that a seat saw are those of a gapped state, by the law of the replica's publications
pub seats_see_gapped : PublishedIsGapped → SeatsSeeGapped
seats_see_gapped law r published seen known sound are within shown saw history le =
    let shows = law r (commits_in seen) sound (omega (arith, le, within)) in
    let is = seen_is r published seen known are shown saw history le in
    (shows.closed, shows.rows ∙ ap (λ l. Some (left_by l)) (sym is))
