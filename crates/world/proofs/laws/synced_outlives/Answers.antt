use Rattle.world.proofs.Crash.{outlives}
use Rattle.world.proofs.laws.synced_outlives.Goals as goal

pub returns : goal.returns
returns g c = outlives g.R.RowStore.contents g.D.Device.seen g.D.Device.may_leave g.D.Device.moment g.D.Device.left_since
