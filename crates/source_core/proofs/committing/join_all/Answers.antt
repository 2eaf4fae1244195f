use Rattle.std.proofs.Common.{◌∙◌, ◌-◌, arith, IsSome}
use Rattle.schema.proofs.Lists.{AllByRecursion-at}
use Rattle.overlay.specs.Joining.{joined}
use Rattle.source_core.specs.Core.{placed, pending_in}
use Rattle.commit_stages.specs.Queues.{IsSession}
use Rattle.source_core.proofs.Commit.Loops.{place_at, not_yet, one_joined}
use Rattle.source_core.proofs.committing.join_all.Goals as goal

pub overflow_sub-session : goal.overflow_sub-session
overflow_sub-session c = (AllByRecursion-at IsSession c.args.sessions.now c.loop-session.session-index 0 c.requires.each c.loop-session-test.true).0

pub bounds-places-session : goal.bounds-places-session
bounds-places-session c =
    let is = AllByRecursion-at IsSession c.args.sessions.now c.loop-session.session-index 0 c.requires.each c.loop-session-test.true in
    omega (arith, is.0, is.1, c.requires.places)

pub join_one-requires-clause-there : goal.join_one-requires-clause-there
join_one-requires-clause-there c =
    let here = place_at c.args.places.now c.args.sessions.now c.loop-session.session-index c.index-places-session.result c.requires.each c.requires.places c.loop-session-test.true
    c.index-places-session.is in
    rw here (AllByRecursion-at (λ session. IsSome (placed c.args.places.now (session - 1))) c.args.sessions.now c.loop-session.session-index 0 c.requires.there c.loop-session-test.true)

pub join_one-requires-clause-apart : goal.join_one-requires-clause-apart
join_one-requires-clause-apart c =
    let here = place_at c.args.places.now c.args.sessions.now c.loop-session.session-index c.index-places-session.result c.requires.each c.requires.places c.loop-session-test.true
    c.index-places-session.is in
    rw (here, c.loop-session.invariant) (not_yet c.args.places.now c.args.sessions.now c.loop-session.session-index c.requires.apart c.loop-session-test.true)

pub loop-session-preserved : goal.loop-session-preserved
loop-session-preserved c =
    let here = place_at c.args.places.now c.args.sessions.now c.loop-session.session-index c.index-places-session.result c.requires.each c.requires.places c.loop-session-test.true
    c.index-places-session.is in
    c.in_ok-join_one.ensures
    ∙ (λ k. joined (c.loop-session.invariant k) (pending_in (here k)))
    ∙ one_joined c.args.places.now c.args.sessions.now c.loop-session.session-index c.loop-session-test.true
