use Rattle.std.proofs.Common.{◌≡◌, ◌∙◌, sym, ap, arith, count_by, length, ◌+◌}
use Rattle.std.proofs.lemmas.List.Splits.{length-slice_split}
use Rattle.script_text.specs.Words.{words_left}
use Rattle.script_text.proofs.Splits.{is_byte}
use Rattle.script_text.proofs.words.Words.at_most_16.Goals as goal

pub returns-in-Some : goal.returns-in-Some
returns-in-Some c =
    let text = c.in-Some.text.now in
    let left : count_by (is_byte 32) text + 1 ≡ length c.args.self.now =
    sym (length-slice_split (is_byte 32) text) ∙ ap length (ap words_left (sym c.in-Some.is) ∙ c.self.view_is) in
    omega (arith, left, c.spaces_in.ensures, c.min.ensures)
