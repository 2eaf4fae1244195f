-- The new log behind the old one.
use Rattle.std.proofs.Common.{◌∙◌, ap, ◌++◌, length, map, take}
use Rattle.std.proofs.Math.Seq.{take-append-add}
use Rattle.std.proofs.lemmas.List.{take-map}
use Rattle.record_codec.specs.Log.{after}
use Rattle.moved_numbers.specs.Moved.{behind}
use Rattle.moved_numbers.proofs.Legally.{behind_is_legal, behind_leaves}
use Rattle.promotion.specs.Laws.{JoinedIsLegal, JoinedLeaves}

pub joined_is_legal : JoinedIsLegal
joined_is_legal = behind_is_legal

pub joined_leaves : JoinedLeaves
joined_leaves ts base mid old new n are =
    let cut = take-append-add old (map (behind (length old)) new) n ∙ ap (λ l. old ++ l) (take-map (behind (length old)) n new) in
    ap (after ts base) cut ∙ behind_leaves ts base mid old (take n new) are
