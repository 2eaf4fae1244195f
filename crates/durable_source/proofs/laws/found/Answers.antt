use Rattle.durable_source.proofs.Lives.{found_now, found_in_sync, found_in_rotate}
use Rattle.durable_source.proofs.laws.found.Goals as goal

pub returns-clause-now : goal.returns-clause-now
returns-clause-now g c = found_now g.D.Device.seen g.D.Device.may_leave

pub returns-clause-in_sync : goal.returns-clause-in_sync
returns-clause-in_sync g c = found_in_sync g.D.Device.seen g.D.Device.may_leave g.D.Device.moment g.D.Device.left_since

pub returns-clause-in_rotate : goal.returns-clause-in_rotate
returns-clause-in_rotate g c = found_in_rotate g.D.Device.seen g.D.Device.may_leave g.D.Device.moment g.D.Device.left_since
