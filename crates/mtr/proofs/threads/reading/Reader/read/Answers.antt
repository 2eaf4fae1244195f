use Rattle.std.proofs.Common.{◌∙◌, ◌∷◌, ◌++◌, [], ap, sym, subst}
use Rattle.mtr.specs.Reading.{Reading, AreSeen}
use Rattle.mtr.specs.declared.threads.reading.Shown.{Shown}
use Rattle.mtr.proofs.Readings.{one_more}
use Rattle.mtr.proofs.threads.reading.Reader.read.Goals as goal

pub invariant_of-self-in-Some : goal.invariant_of-self-in-Some
invariant_of-self-in-Some g c =
    let here : Shown = record { id = c.args.id; answer = c.in-Some.answer } in
    subst (AreSeen g.K.Naming.preserve c.read.new.self) (sym c.in_ok-push-in-Some.ensures.items)
    (one_more g.K.Naming.preserve c.self.inside.seat c.read.new.self c.self.inside.shown.items here c.read.ensures.later c.self.invariant c.in-Some.ensures.history c.in-Some.ensures.upto
    c.in-Some.ensures.more (λ kept. (c.in-Some.ensures.in_order kept).0) c.in-Some.ensures.row)

pub returns-in_ok-push-in-Some-clause-kept : goal.returns-in_ok-push-in-Some-clause-kept
returns-in_ok-push-in-Some-clause-kept g c =
    let here : Shown = record { id = c.args.id; answer = c.in-Some.answer } in
    (c.in-Some.answer.upto, c.in-Some.answer.more, c.in_ok-push-in-Some.ensures.items ∙ ap (λ (r : Reading). r.shown ++ here ∷ []) c.self.view_is)
