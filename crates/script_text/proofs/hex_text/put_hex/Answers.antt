use Rattle.std.proofs.Common.{refl, sym, append-nil, Some, arith}
use Rattle.script_text.specs.HexText.{byte_text, hex_text}
use Rattle.script_text.proofs.Pieces.{piece_more}
use Rattle.script_text.proofs.HexBack.{text_says}
use Rattle.script_text.proofs.hex_text.put_hex.Goals as goal

pub loop-byte-init : goal.loop-byte-init
unfolding hex_text
loop-byte-init c = sym (append-nil _)

pub loop-byte-preserved : goal.loop-byte-preserved
unfolding hex_text
loop-byte-preserved c =
    piece_more byte_text c.args.bytes.now c.loop-byte.byte-index _ _ (Some _) (Some _) (Some _) c.loop-byte-test.true refl c.loop-byte.invariant c.in_ok-extend_from_slice.ensures.items

pub returns-clause-says : goal.returns-clause-says
returns-clause-says c = text_says c.args.bytes.now (λ k. let fits = c.type_inv.bytes k in omega arith)

pub returns-in_err-extend_from_slice-clause-says : goal.returns-in_err-extend_from_slice-clause-says
returns-in_err-extend_from_slice-clause-says c = text_says c.args.bytes.now (λ k. let fits = c.type_inv.bytes k in omega arith)
