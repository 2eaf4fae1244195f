use Rattle.std.proofs.Common.{w64, FitsSigned, refl, arith, rules}
use Rattle.std.proofs.lemmas.Int.{to_z-of_z}
use Rattle.rows.proofs.Collected.{pair_at, one_bit, collected_none, collected_more}
use Rattle.rows.proofs.naming.Named.of.Goals as goal

pub loop-i-init : goal.loop-i-init
loop-i-init c = collected_none c.args.pairs.now _ refl

pub loop-i-preserved : goal.loop-i-preserved
loop-i-preserved c =
    let v = (pair_at c.args.pairs.now c.loop-i.i).1 in
    let fits : FitsSigned w64 (pair_at c.args.pairs.now c.loop-i.i).1 = search rules in
    rw (to_z-of_z w64 (pair_at c.args.pairs.now c.loop-i.i).1 fits) (collected_more c.args.pairs.now c.loop-i.i c.loop-i.least c.loop-i.mask _ c.loop-i.values c.loop-i.invariant (omega arith)
    (omega arith) (omega arith) (one_bit _ (omega arith)))
