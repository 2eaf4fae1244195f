use Rattle.std.proofs.Common.{sym, codes, [], ◌∷◌, ◌++◌}
use Rattle.std.specs.Fmt.{decimal, signed_decimal}
use Rattle.std.proofs.KnownBytes.{Appends-trans}
use Rattle.script_text.specs.Printing.{columns_text}
use Rattle.script_text.specs.Heads.{base_text}
use Rattle.script_text.proofs.Pieces.{along, then_text}
use Rattle.script_text.proofs.ReadBack.{base_parts}
use Rattle.script_text.proofs.heads.write_base.Goals as goal

pub returns : goal.returns
returns g c =
    let contents = g.W.Write.contents in
    let row = c.args.row in
    let columns = c.args.values.now in
    let before = contents c.args.out.now in
    let after = contents c.write_columns.new.out in
    then_text c.writeln.result before after (contents c.writeln.new.self) (base_text row columns) (10 ∷ [])
    (along before after _ _ (sym (base_parts row columns))
    (Appends-trans before (contents c.write.new.self) after (codes "base " ++ (decimal row.table ++ (codes " " ++ signed_decimal row.key))) (columns_text columns)
    c.in_ok-write.ensures.bytes c.in_ok-write_columns.ensures)) c.writeln.ensures.bytes
