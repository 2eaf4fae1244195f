use Rattle.std.proofs.Common.{◌∙◌, ap, List}
use Rattle.writeset_history.specs.declared.slots.Slot.{Slot}
use Rattle.writeset_history.specs.History.{Numbers}
use Rattle.writeset_history.specs.Slots.{history_in}
use Rattle.writeset_history.proofs.Moves.{new_sound, new_empty}
use Rattle.writeset_history.proofs.History.with_limit.Goals as goal

pub invariant_of-result : goal.invariant_of-result
invariant_of-result c = rw (c.in_ok-vec.ensures.items_if_clones_equal (λ y e. e)) (new_sound c.slots_for.result c.args.limit c.slots_for.ensures.some_free)

pub returns : goal.returns
returns c =
    ap (λ (slots : List Slot). history_in slots 0 c.args.limit) (c.in_ok-vec.ensures.items_if_clones_equal (λ y e. e))
    ∙ ap (λ (m : Numbers). record { limit = c.args.limit; start = 0; numbers = m }) (new_empty c.slots_for.result)
