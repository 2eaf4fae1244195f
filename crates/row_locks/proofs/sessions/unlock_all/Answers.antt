use Rattle.std.proofs.Common.{◌≤◌, ◌+◌, arith}
use Rattle.std.specs.FinMap.{len}
use Rattle.row_locks.proofs.Moves.{fewer, moves-removed, moves_on}
use Rattle.row_locks.proofs.sessions.unlock_all.Goals as goal

pub loop-row-smaller : goal.loop-row-smaller
loop-row-smaller c =
    let less : len c.pop.new.self.map + 1 ≤ len c.loop-row.held.map = rw c.in-Some.ensures.left (fewer c.loop-row.held.map c.in-Some.row c.in-Some.mode c.in-Some.ensures.stood) in
    omega (arith, less)

pub loop-row-preserved : goal.loop-row-preserved
loop-row-preserved c =
    let step = moves-removed c.loop-row.held.map c.loop-row.tally.map c.recount.new.self.map c.in-Some.row c.in-Some.mode c.in-Some.ensures.stood c.recount.ensures.counts in
    rw c.in-Some.ensures.left (moves_on c.args.held.now.map c.loop-row.held.map _ c.args.tally.now.map c.loop-row.tally.map c.recount.new.self.map c.loop-row.invariant step)
