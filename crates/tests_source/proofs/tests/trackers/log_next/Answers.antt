use Rattle.tests_source.proofs.Serial.{serial, logged}
use Rattle.tests_source.proofs.tests.trackers.log_next.Goals as goal

pub stamp-parent-requires-clause-seen : goal.stamp-parent-requires-clause-seen
stamp-parent-requires-clause-seen g c = (c.args._schema.now, c.requires.seen)

pub stamp-parent-requires-clause-order : goal.stamp-parent-requires-clause-order
stamp-parent-requires-clause-order g c = serial c.args.log.now.entries c.args.t c.args.session c.len-committed.result c.len-committed.ensures.numbered c.len-committed.ensures.value

pub returns : goal.returns
returns g c =
    logged (g.T.Tracker.agrees c.stamp-parent.new.self c.args._schema.now) c.args.log.now.entries _ c.args.t c.args.session c.stamp-parent.result c.len-committed.result c.len-committed.ensures.value
    (rw c.unwrap.ensures at c.push.ensures.ok) (c.stamp-parent.ensures.goes_on c.args._schema.now c.requires.seen c.requires.tables)
