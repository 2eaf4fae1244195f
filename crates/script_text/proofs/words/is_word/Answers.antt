use Rattle.std.proofs.Common.{◌∙◌, sym, ap, refl, ◌++◌, ◌∷◌, [], get_or, take, arith}
use Rattle.std.proofs.lemmas.List.{take_all, take_more}
use Rattle.std.proofs.lemmas.Slice.Eq.{bytes_eq-Decides}
use Rattle.script_text.proofs.words.is_word.Goals as goal

pub loop-i-init : goal.loop-i-init
loop-i-init c = record { same = refl }

pub loop-i-preserved : goal.loop-i-preserved
loop-i-preserved c =
    let word = c.args.word.now in
    let own = c.args.own.now in
    let i = c.loop-i.i in
    record {
      same =
          take_more word i 0 c.loop-i-test.true
          ∙ ap (λ l. l ++ get_or word i 0 ∷ []) c.loop-i.invariant.same
          ∙ ap (λ b. take i own ++ b ∷ []) c.if-word-i.false
          ∙ sym (take_more own i 0 (omega (arith, c.loop-i-test.true, c.if-word-own.false)));
    }

pub returns : goal.returns
returns c =
    let word = c.args.word.now in
    let own = c.args.own.now in
    let i = c.loop-i.i in
    sym ((bytes_eq-Decides word own).1
    (sym (take_all i word c.loop-i-test.false) ∙ c.loop-i.invariant.same ∙ take_all i own (omega (arith, c.loop-i-test.false, c.if-word-own.false))))
