use Rattle.std.proofs.Common.{◌∷◌, [], refl, sym, append-nil, Some}
use Rattle.script_text.proofs.Pieces.{piece_more, pieces_all, then_text}
use Rattle.script_text.specs.Printing.{stamp_text, stamps_text}
use Rattle.script_text.proofs.printing.put_stamps.Goals as goal

pub loop-sequence-init : goal.loop-sequence-init
loop-sequence-init c = sym (append-nil _)

pub loop-sequence-preserved : goal.loop-sequence-preserved
loop-sequence-preserved c =
    piece_more stamp_text _ c.loop-sequence.sequence-index _ _ (Some _) (Some _) (Some _) c.loop-sequence-test.true refl c.loop-sequence.invariant c.in_ok-put_stamp.ensures

pub returns : goal.returns
returns c =
    let all = pieces_all stamp_text c.args.stamps.now c.loop-sequence.sequence-index (Some c.args.out.now.items) (Some c.loop-sequence.out.items)
    c.loop-sequence-test.false c.loop-sequence.invariant in
    then_text c.put.result (Some c.args.out.now.items) (Some c.loop-sequence.out.items) (Some c.put.new.out.items) (stamps_text c.args.stamps.now) (10 ∷ []) all c.put.ensures
