use Rattle.std.proofs.Common.{refl, ap}
use Rattle.std.proofs.KnownBytes.{Appends-nil}
use Rattle.script_text.proofs.Pieces.{piece_more, pieces_all, along}
use Rattle.script_text.specs.Printing.{column_text, columns_text}
use Rattle.script_text.proofs.heads.write_columns.Goals as goal

pub loop-column-init : goal.loop-column-init
loop-column-init g c = Appends-nil _

pub loop-column-preserved : goal.loop-column-preserved
loop-column-preserved g c = piece_more column_text _ c.loop-column.column-index _ _ _ _ _ c.loop-column-test.true refl c.loop-column.invariant c.in_ok-write.ensures.bytes

pub returns : goal.returns
returns g c =
    let contents = g.W.Write.contents in
    let all = pieces_all column_text c.columns-column-items.result.now c.loop-column.column-index (contents c.args.out.now)
    (contents c.loop-column.out) c.loop-column-test.false c.loop-column.invariant in
    along _ _ _ _ (ap columns_text c.columns-column-items.ensures.value) all
