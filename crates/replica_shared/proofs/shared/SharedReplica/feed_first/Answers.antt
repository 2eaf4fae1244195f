use Rattle.replica_shared.proofs.Known.{gathered_in_log}
use Rattle.replica_shared.proofs.Feeding.{feeds_without, is_none, none_taken, none_whole}
use Rattle.replica_shared.proofs.shared.SharedReplica.feed_first.Goals as goal

pub returns-in-Err : goal.returns-in-Err
returns-in-Err g c =
    feeds_without (λ r. none_taken _ _ r _ _ c.requires.empty c.in-Err.ensures.err c.in-Err.ensures.unchanged)

pub returns-then-is_empty : goal.returns-then-is_empty
returns-then-is_empty g c =
    feeds_without (λ r. none_whole _ _ r _ c.requires.empty c.in_default.ensures.ok (is_none _ _ _ c.waiting.ensures c.is_empty.ensures c.if-is_empty.true))

pub hand-answer-requires : goal.hand-answer-requires
hand-answer-requires g c = record { known = gathered_in_log _ _ _ _ c.requires.known c.in_default.ensures.ok }
