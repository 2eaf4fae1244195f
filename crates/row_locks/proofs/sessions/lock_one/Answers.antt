use Rattle.row_locks.proofs.Moves.{moves-set}
use Rattle.row_locks.proofs.sessions.lock_one.Goals as goal

pub returns-clause-counts : goal.returns-clause-counts
returns-clause-counts c =
    rw c.set.ensures.map (moves-set c.args.held.now.map c.args.tally.now.map c.recount.new.self.map c.args.row c.get-was.result c.stronger-now.result c.get-was.ensures c.recount.ensures.counts)
