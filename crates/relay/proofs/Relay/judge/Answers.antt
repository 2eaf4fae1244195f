use Rattle.std.proofs.Common.{◌≡◌, ◌∙◌, sym, ◌++◌, false, true, arith}
use Rattle.std.proofs.lemmas.Grind.{common_steps}
use Rattle.relay.specs.Relay.{is_covered}
use Rattle.relay.proofs.Acceptable.{few_acceptable}
use Rattle.relay.proofs.Last.{behind_covers}
use Rattle.relay.proofs.Relay.judge.Goals as goal

pub overflow_add-count : goal.overflow_add-count
overflow_add-count c =
    let few = few_acceptable _ _ c.count.ensures.valid in
    let count = c.count.ensures.value in
    record { fits = omega arith }

pub returns-then-not-are_behind : goal.returns-then-not-are_behind
returns-then-not-are_behind c =
    let covered : is_covered (c.self.inside.gone ++ c.self.inside.kept.items) c.args.new.now ≡ false =
    sym (behind_covers (c.self.inside.gone ++ c.self.inside.kept.items) c.self.inside.touches.rows.map c.self.inside.touches.marks.map c.args.new.now c.self.invariant.last c.self.invariant.stated)
    ∙ sym c.are_behind.ensures ∙ c.if-not-are_behind.true in
    rw (sym c.self.view_is) (grind (arith, common_steps))

pub returns : goal.returns
returns c =
    let covered : is_covered (c.self.inside.gone ++ c.self.inside.kept.items) c.args.new.now ≡ true =
    sym (behind_covers (c.self.inside.gone ++ c.self.inside.kept.items) c.self.inside.touches.rows.map c.self.inside.touches.marks.map c.args.new.now c.self.invariant.last c.self.invariant.stated)
    ∙ sym c.are_behind.ensures ∙ c.if-not-are_behind.false in
    rw (sym c.self.view_is) (grind (arith, common_steps))
