use Rattle.std.proofs.Common.{◌≡◌, ◌+◌, ◌++◌, drop}
use Rattle.core.specs.declared.int.u64.TheConstants.{MAX}
use Rattle.scheduler.specs.Gnos.{first_gnos}
use Rattle.published.specs.Gaps.{RiseBetween}
use Rattle.published.proofs.gaps.last_without_gap.Given as goal

abbrev pub invariant-loop-next : goal.invariant-loop-next
invariant-loop-next l =
    (l.upto ≡ l.gno + l.next-index) × RiseBetween l.upto MAX (drop l.next-index l.ahead)
    × (first_gnos l.upto ++ drop l.next-index l.ahead ≡ first_gnos l.gno ++ l.ahead)
