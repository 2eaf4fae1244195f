use Rattle.std.proofs.Common.{subst, ◌+◌, arith, pos, drop, get_or}
use Rattle.std.proofs.lemmas.List.{drop_more, drop_all}
use Rattle.schema.specs.declared.RowId.{RowId}
use Rattle.row_index.specs.Counts.{Recounts}
use Rattle.row_index.proofs.Recounts.{next_lost, is_counted}
use Rattle.row_index.proofs.children.Children.give_up.Goals as goal

pub give_up_one-requires : goal.give_up_one-requires
give_up_one-requires c =
    let old = c.args.old.now in
    let i = c.loop-row.row-index in
    let row : RowId = get_or old i (record { table = 0; key = pos 0 }) in
    is_counted old (drop (i + 1) old) row c.args.self.now.map c.loop-row.self.map
    (subst (λ l. Recounts old l c.args.self.now.map c.loop-row.self.map) (drop_more old i (record { table = 0; key = pos 0 }) c.loop-row-test.true) c.loop-row.invariant.counts) (c.requires row)

pub loop-row-preserved : goal.loop-row-preserved
loop-row-preserved c =
    let old = c.args.old.now in
    let i = c.loop-row.row-index in
    let row : RowId = get_or old i (record { table = 0; key = pos 0 }) in
    record {
      counts = next_lost old (drop (i + 1) old) row c.args.self.now.map c.loop-row.self.map c.give_up_one.new.self.map
          (subst (λ l. Recounts old l c.args.self.now.map c.loop-row.self.map) (drop_more old i (record { table = 0; key = pos 0 }) c.loop-row-test.true) c.loop-row.invariant.counts)
          c.give_up_one.ensures.counts;
      room = omega (arith, c.loop-row.invariant.room, c.give_up_one.ensures.room);
    }

pub returns-clause-counts : goal.returns-clause-counts
returns-clause-counts c =
    subst (λ l. Recounts c.args.old.now l c.args.self.now.map c.loop-row.self.map) (drop_all c.loop-row.row-index c.args.old.now c.loop-row-test.false) c.loop-row.invariant.counts
