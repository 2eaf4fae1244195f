use Rattle.std.proofs.Common.{◌∙◌, sym, subst, ◌+◌, ◌-◌, ◌≤◌, arith}
use Rattle.gtid_set.specs.Ids.{Ids}
use Rattle.replica_core.specs.Core.{AreMarked}
use Rattle.replica_core.proofs.Marked.{next_marked, next_unmarked}
use Rattle.replica_core.proofs.ids.committed_ids.Goals.{then-is_committed+in_ok-add_id, else-is_committed}
use Rattle.replica_core.proofs.ids.committed_ids.Goals as goal

pub loop-gno-preserved : goal.loop-gno-preserved
loop-gno-preserved c =
    let was = c.loop-gno.invariant in
    let low : 1 ≤ c.loop-gno.gno = omega (arith, was.behind) in
    record {
      low = was.low;
      behind = omega (arith, was.behind);
      end = was.end;
      marked = elim c.if-is_committed.branch [
        | then-is_committed+in_ok-add_id w ↦
            subst (λ (ids : Ids). AreMarked c.args.source c.args.scheduler.now (c.loop-gno.gno + 1 - 1) ids) (sym w.ids-is)
            (next_marked c.args.source c.args.scheduler.now c.loop-gno.gno c.loop-gno.ids low was.marked w.add_id.new.ids (sym c.is_committed.ensures ∙ w.if-is_committed.true) w.in_ok-add_id.ensures)
        | else-is_committed w ↦
            subst (λ (ids : Ids). AreMarked c.args.source c.args.scheduler.now (c.loop-gno.gno + 1 - 1) ids) (sym w.ids-is)
            (next_unmarked c.args.source c.args.scheduler.now c.loop-gno.gno c.loop-gno.ids low was.marked (sym c.is_committed.ensures ∙ w.if-is_committed.false))
      ];
    }
