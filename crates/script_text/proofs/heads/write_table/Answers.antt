use Rattle.std.proofs.Common.{sym, codes, [], ◌∷◌, ◌++◌}
use Rattle.std.specs.Fmt.{decimal}
use Rattle.std.proofs.KnownBytes.{Appends-trans}
use Rattle.script_text.specs.Heads.{kind_word, unique_words, parent_words, behind_spaces, table_text}
use Rattle.script_text.proofs.Pieces.{along, then_text}
use Rattle.script_text.proofs.ReadBack.{table_parts}
use Rattle.script_text.proofs.heads.write_table.Goals as goal

pub returns : goal.returns
returns g c =
    let contents = g.W.Write.contents in
    let t = c.args.table.now in
    let before = contents c.args.out.now in
    let after = contents c.write_parent.new.out in
    let first = codes "table " ++ (decimal t.id ++ (codes " " ++ decimal t.columns)) in
    let unique = behind_spaces (unique_words t.unique) in
    let parent = behind_spaces (parent_words t.parent) in
    then_text c.writeln.result before after (contents c.writeln.new.self) (table_text t) (10 ∷ [])
    (along before after _ _ (sym (table_parts t))
    (Appends-trans before (contents c.write.new.self) after first ((32 ∷ kind_word t.keyed) ++ (unique ++ parent)) c.in_ok-write.ensures.bytes
    (Appends-trans (contents c.write.new.self) (contents c.write_kind.new.out) after (32 ∷ kind_word t.keyed) (unique ++ parent) c.in_ok-write_kind.ensures
    (Appends-trans (contents c.write_kind.new.out) (contents c.write_unique.new.out) after unique parent c.in_ok-write_unique.ensures c.in_ok-write_parent.ensures)))) c.writeln.ensures.bytes
