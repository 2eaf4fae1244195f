use Rattle.std.proofs.Common.{refl, ap, sym, append-nil, Some}
use Rattle.script_text.proofs.Pieces.{piece_more, pieces_all, along}
use Rattle.script_text.specs.Printing.{column_text, columns_text}
use Rattle.script_text.proofs.printing.put_columns.Goals as goal

pub loop-column-init : goal.loop-column-init
loop-column-init c = sym (append-nil _)

pub loop-column-preserved : goal.loop-column-preserved
loop-column-preserved c =
    piece_more column_text _ c.loop-column.column-index _ _ (Some _) (Some _) (Some _) c.loop-column-test.true refl c.loop-column.invariant c.in_ok-put_column.ensures

pub returns : goal.returns
returns c =
    let all = pieces_all column_text c.columns-column-items.result.now c.loop-column.column-index (Some c.args.out.now.items)
    (Some c.loop-column.out.items) c.loop-column-test.false c.loop-column.invariant in
    along (Some _) (Some _) _ _ (ap columns_text c.columns-column-items.ensures.value) all
