use Rattle.std.proofs.Common.{◌<◌, ℤ, rules, sym, subst, w64, FitsSigned, to_z-of_z, Some}
use Rattle.store_trait.proofs.Ahead.{rows_ahead, ahead_falls}
use Rattle.store_trait.proofs.holder.Goals as goal

pub loop-next-smaller : goal.loop-next-smaller
loop-next-smaller g c =
    let db = g.S.RowStore.contents c.args.store.now in
    let fits : FitsSigned w64 c.in-Some.next.0 = search rules in
    subst (λ (k : ℤ). rows_ahead db c.args.table (Some k) < rows_ahead db c.args.table c.loop-next.last) (sym (to_z-of_z fits))
    (ahead_falls db c.args.table c.loop-next.last c.in-Some.next.0 c.in-Some.next.1 c.in-Some.ensures)
