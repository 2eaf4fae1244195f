use Rattle.std.proofs.Common.{◌∙◌, ◌<◌, ℤ, rules, sym, subst, w64, FitsSigned, to_z-of_z, true≢false, Some, refl}
use Rattle.store_trait.proofs.Ahead.{rows_ahead, ahead_falls}
use Rattle.store_trait.proofs.Own.{OwnBehind, own_passed, all_own, own_here}
use Rattle.store_trait.proofs.are_own_in_column.Goals as goal

pub loop-next-smaller : goal.loop-next-smaller
loop-next-smaller g c =
    let db = g.S.RowStore.contents c.args.store.now in
    let fits : FitsSigned w64 c.in-Some.next.0 = search rules in
    subst (λ (k : ℤ). rows_ahead db c.args.table (Some k) < rows_ahead db c.args.table c.loop-next.last) (sym (to_z-of_z fits))
    (ahead_falls db c.args.table c.loop-next.last c.in-Some.next.0 c.in-Some.next.1 c.in-Some.ensures)

pub loop-next-preserved : goal.loop-next-preserved
loop-next-preserved g c =
    let db = g.S.RowStore.contents c.args.store.now in
    let fits : FitsSigned w64 c.in-Some.next.0 = search rules in
    subst (λ (k : ℤ). OwnBehind db c.args.table c.args.column (Some k)) (sym (to_z-of_z fits))
    (own_passed db c.args.table c.args.column c.loop-next.last c.in-Some.next.0 c.in-Some.next.1 c.loop-next.invariant c.in-Some.ensures (c.is_own.ensures.0 c.if-not-is_own.false))

pub returns : goal.returns
returns g c =
    (λ _. all_own (g.S.RowStore.contents c.args.store.now) c.args.table c.args.column c.loop-next.last c.loop-next.invariant c.in_default.ensures, λ _. refl)

pub returns-then-not-is_own : goal.returns-then-not-is_own
returns-then-not-is_own g c = (
  λ no. absurd (true≢false (sym no)),
  λ own. sym c.if-not-is_own.true ∙ c.is_own.ensures.1 (own_here (g.S.RowStore.contents c.args.store.now) c.args.table c.args.column c.loop-next.last c.in-Some.next.0 c.in-Some.next.1
      c.in-Some.ensures own),
)
