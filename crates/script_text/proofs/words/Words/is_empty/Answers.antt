use Rattle.std.proofs.Common.{◌∙◌, ap, length, eqb}
use Rattle.script_text.proofs.WordLists.{none_left}
use Rattle.script_text.proofs.words.Words.is_empty.Goals as goal

pub returns : goal.returns
returns c = none_left c.self.inside.rest c.is_none.result c.is_none.ensures ∙ ap (λ l. eqb (length l) 0) c.self.view_is
