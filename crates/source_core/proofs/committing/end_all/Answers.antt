use Rattle.std.proofs.Common.{◌∙◌, arith}
use Rattle.schema.proofs.Lists.{AllByRecursion-at}
use Rattle.commit_stages.specs.Queues.{IsSession}
use Rattle.source_core.proofs.Commit.Loops.{one_released, one_left}
use Rattle.source_core.proofs.committing.end_all.Goals as goal

pub overflow_sub-session : goal.overflow_sub-session
overflow_sub-session c = (AllByRecursion-at IsSession c.args.sessions.now c.loop-session.session-index 0 c.requires.each c.loop-session-test.true).0

pub bounds-places-session : goal.bounds-places-session
bounds-places-session c =
    let is = AllByRecursion-at IsSession c.args.sessions.now c.loop-session.session-index 0 c.requires.each c.loop-session-test.true in
    omega (arith, is.0, is.1, c.requires.places, c.loop-session.auto.places)

pub release_all-requires-clause-least : goal.release_all-requires-clause-least
release_all-requires-clause-least c = (AllByRecursion-at IsSession c.args.sessions.now c.loop-session.session-index 0 c.requires.each c.loop-session-test.true).0

pub release_all-requires-clause-greatest : goal.release_all-requires-clause-greatest
release_all-requires-clause-greatest c = (AllByRecursion-at IsSession c.args.sessions.now c.loop-session.session-index 0 c.requires.each c.loop-session-test.true).1

pub loop-session-preserved : goal.loop-session-preserved
loop-session-preserved c = (
  one_left c.args.places.now c.loop-session.places c.args.sessions.now c.loop-session.session-index c.loop-session-test.true c.loop-session.invariant.0
      c.take-ended.new.self c.take-ended.ensures.after,
  c.release_all.ensures.released ∙ one_released c.args.locks.now c.loop-session.locks c.args.sessions.now c.loop-session.session-index c.loop-session-test.true c.loop-session.invariant.1,
  c.release_all.ensures.clear.rows,
  c.release_all.ensures.clear.marks,
)
