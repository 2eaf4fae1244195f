use Rattle.std.proofs.Common.{rules, ◌≡◌, ◌∙◌, ap, ◌<◌, cond, length, Some, arith}
use Rattle.std.proofs.lemmas.Grind.{common_steps}
use Rattle.commit_order.specs.Turns.{Line, turn}
use Rattle.commit_order.proofs.Lines.{turn_is_next}
use Rattle.commit_order.proofs.Places.{removed_is_turn, passed_is}
use Rattle.commit_order.proofs.Turns.next.Goals as goal

pub returns-clause-in_turn : goal.returns-clause-in_turn
returns-clause-in_turn c =
    let within : c.place-place.result < length c.self.inside.done.items = first_of (omega arith, search rules, grind (arith, common_steps)) in
    let turned : turn c.args.self.now ≡ Some c.remove-done.result =
    removed_is_turn c.args.self.now c.self.inside.done.items c.place-place.result c.remove-done.result
    (ap (λ (l : Line). l.done) c.self.view_is) c.place-place.ensures within c.remove-done.ensures.value in
    λ kept. turn_is_next c.args.self.now c.remove-done.result kept turned

pub returns-clause-left : goal.returns-clause-left
returns-clause-left c =
    let within : c.place-place.result < length c.self.inside.done.items = first_of (omega arith, search rules, grind (arith, common_steps)) in
    let turned : turn c.args.self.now ≡ Some c.remove-done.result =
    removed_is_turn c.args.self.now c.self.inside.done.items c.place-place.result c.remove-done.result
    (ap (λ (l : Line). l.done) c.self.view_is) c.place-place.ensures within c.remove-done.ensures.value in
    passed_is c.args.self.now c.self.inside.preserve c.self.inside.last c.last_left-self-inside.result _ c.self.inside.done.items c.remove-done.new.self.items c.place-place.result c.remove-done.result
    c.self.view_is c.place-place.ensures turned c.remove-done.ensures.items
    (c.last_left-self-inside.ensures ∙ ap (λ n. cond c.self.inside.preserve n c.self.inside.last) c.gno.ensures)
