use Rattle.durable_source.proofs.Lives.{open_after_now, open_after_sync, open_after_rotate, open_after_open}
use Rattle.durable_source.proofs.laws.open_is_next_life.Goals as goal

pub returns-clause-now : goal.returns-clause-now
returns-clause-now g c = open_after_now g.D.Device.seen g.D.Device.may_leave

pub returns-clause-in_sync : goal.returns-clause-in_sync
returns-clause-in_sync g c = open_after_sync g.D.Device.seen g.D.Device.may_leave g.D.Device.moment g.D.Device.left_since

pub returns-clause-in_rotate : goal.returns-clause-in_rotate
returns-clause-in_rotate g c = open_after_rotate g.D.Device.seen g.D.Device.may_leave g.D.Device.moment g.D.Device.left_since

pub returns-clause-in_open : goal.returns-clause-in_open
returns-clause-in_open g c = open_after_open g.D.Device.seen g.D.Device.may_leave g.D.Device.moment g.D.Device.left_since
