use Rattle.std.proofs.Common.{sym, subst, ◌∙◌, drop, take, arith, ◌+◌, ◌-◌}
use Rattle.vector_store.specs.Contents.{AreBefore, AreBehind}
use Rattle.vector_store.proofs.Finding.{behind_from, before_up_to}
use Rattle.vector_store.proofs.search.window_near_end.Goals as goal

pub loop-low-preserved : goal.loop-low-preserved
loop-low-preserved c =
    let rows = c.args.rows.now in
    record {
      rises = omega arith;
      within = omega arith;
      behind = subst (λ n. AreBehind c.args.id (drop n rows)) {x = c.loop-low.low - 1 + 1} (omega arith)
          (behind_from rows c.requires c.args.id (c.loop-low.low - 1) c.index-rows-low.result (omega arith) (sym c.ge.ensures ∙ c.if-ge.true));
    }

pub returns-else-ge : goal.returns-else-ge
returns-else-ge c =
    let rows = c.args.rows.now in
    record {
      rises = omega arith;
      within = omega arith;
      before = subst (λ n. AreBefore (take n rows) c.args.id) {x = c.loop-low.low - 1 + 1} (omega arith)
          (before_up_to rows c.requires c.args.id (c.loop-low.low - 1) c.index-rows-low.result (omega arith) (sym c.ge.ensures ∙ c.if-ge.false));
      behind = c.loop-low.invariant.behind;
    }
