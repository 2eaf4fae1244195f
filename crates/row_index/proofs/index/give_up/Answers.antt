use Rattle.std.proofs.Common.{◌∙◌, ap, sym, arith}
use Rattle.std.proofs.lemmas.List.{drop_all}
use Rattle.row_index.specs.Keys.{given_up}
use Rattle.row_index.proofs.Walked.{one_gone}
use Rattle.row_index.proofs.index.give_up.Goals as goal

pub loop-mark-preserved : goal.loop-mark-preserved
loop-mark-preserved c = record {
  map = rw (c.remove.ensures.map, c.as_row.ensures) (one_gone c.args.old.now c.loop-mark.mark-index c.mark-item.result c.loop-mark.keys.map (given_up c.args.old.now c.args.keys.now.map)
      c.loop-mark-test.true c.mark-item.is c.loop-mark.invariant.map);
  room = omega (arith, c.loop-mark.invariant.room, c.remove.ensures.room);
}

pub returns-clause-map : goal.returns-clause-map
returns-clause-map c =
    ap (λ l. given_up l c.loop-mark.keys.map) (sym (drop_all c.loop-mark.mark-index c.args.old.now c.loop-mark-test.false)) ∙ c.loop-mark.invariant.map
