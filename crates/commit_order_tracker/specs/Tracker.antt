-- What a tracker of the commit order is made for.
use Rattle.tracker_trait.specs.Kind.{Kind}
use Rattle.tracker_trait.specs.declared.Tracking.TheVariants as modes

-- it keeps no history
abbrev pub by_order : Kind
by_order = record { mode = modes.CommitOrder; limit = 0 }
