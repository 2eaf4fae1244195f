use Rattle.std.proofs.Common.{◌≡◌, ◌+◌, arith, get_or}
use Rattle.published.proofs.Numbers.{rise_passed, same_passed, next_is_above}
use Rattle.published.proofs.gaps.last_without_gap.Goals as goal

pub loop-next-preserved : goal.loop-next-preserved
loop-next-preserved c =
    let i = c.loop-next.next-index in
    let xs = c.args.ahead.now in
    let so_far = c.loop-next.invariant in
    let above = next_is_above c.loop-next.upto _ i xs c.loop-next-test.true so_far.1 in
    let is : get_or xs i 0 ≡ c.loop-next.upto + 1 = omega (arith, above, c.if-next-upto.false) in
    (omega (arith, is, so_far.0), rise_passed c.loop-next.upto _ i xs c.loop-next-test.true so_far.1, same_passed c.loop-next.upto i xs _ c.loop-next-test.true is so_far.2)
