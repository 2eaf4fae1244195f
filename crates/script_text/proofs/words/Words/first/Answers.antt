use Rattle.std.proofs.Common.{◌∙◌, sym, ap}
use Rattle.script_text.specs.Words.{first_word, words_left}
use Rattle.script_text.proofs.words.Words.first.Goals as goal

pub returns-in-Some : goal.returns-in-Some
returns-in-Some c =
    sym (ap first_word c.in-Some.ensures.parts)
    ∙ ap (λ o. first_word (words_left o)) (sym c.in_ok-text.was)
    ∙ ap first_word c.self.view_is

pub returns-in-None : goal.returns-in-None
returns-in-None c =
    sym (ap first_word c.in-None.ensures.parts)
    ∙ ap (λ o. first_word (words_left o)) (sym c.in_ok-text.was)
    ∙ ap first_word c.self.view_is
