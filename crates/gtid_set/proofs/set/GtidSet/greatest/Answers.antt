use Rattle.std.proofs.Common.{◌∙◌, ap, subst, ◌-◌, List, length, slice_get}
use Rattle.gtid_set.specs.declared.intervals.Interval.{Interval}
use Rattle.gtid_set.specs.Ids.{Ids}
use Rattle.gtid_set.specs.Numbers.{IsGreatest}
use Rattle.gtid_set.proofs.Firsts.{greatest_of}
use Rattle.gtid_set.proofs.set.GtidSet.greatest.Goals as goal

pub returns : goal.returns
returns c =
    subst (λ (ids : Ids). IsGreatest ids.numbers c.in_ok-interval.interval.now.last) c.self.view_is
    (greatest_of c.self.inside.intervals.items c.in_ok-interval.interval.now c.self.invariant.numbers
    (c.in_ok-interval.ensures.value ∙ ap (λ (l : List Interval). slice_get l (length l - 1)) c.deref.ensures.value))
