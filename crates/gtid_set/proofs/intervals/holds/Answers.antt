use Rattle.std.proofs.Common.{◌≡◌, ◌∙◌, sym, ltb, false, length, arith}
use Rattle.std.proofs.lemmas.Bool.Decides.{nat_tests}
use Rattle.std.proofs.lemmas.List.{get_or_default}
use Rattle.gtid_set.proofs.Places.{holds_at, holds_none}
use Rattle.gtid_set.proofs.intervals.holds.Goals as goal

pub returns-then-at-intervals : goal.returns-then-at-intervals
returns-then-at-intervals c =
    let is = c.args.intervals.now in
    let at = c.place_of-at.result in
    holds_at is at c.args.number _ c.requires c.place_of-at.ensures c.if-at-intervals.true (get_or_default is at _ _ c.if-at-intervals.true)

pub returns-else-at-intervals : goal.returns-else-at-intervals
returns-else-at-intervals c =
    let past : ltb c.place_of-at.result (length c.args.intervals.now) ≡ false = grind (arith, nat_tests) in
    past ∙ sym (holds_none c.args.intervals.now c.place_of-at.result c.args.number c.place_of-at.ensures c.if-at-intervals.false)
