use Rattle.std.proofs.Common.{◌≡◌, sym, ap, inl, inr, ◌∷◌, length, w64, FitsSigned, rules, arith}
use Rattle.std.proofs.lemmas.Int.{to_z-of_z}
use Rattle.script_text.proofs.WordLists.{none_are, words_are}
use Rattle.rows.proofs.Collected.{one_bit}
use Rattle.script_text.proofs.Puts.{named_more, named_refused, named_falls, named_nothing, named_all}
use Rattle.script_text.proofs.words.put_values.Goals as goal
use Rattle.script_text.proofs.words.put_values.Goals.{then-column-least-via-then-column-least, then-column-least-via-else-column-least+then-column-gt15}

pub returns-in_err-column : goal.returns-in_err-column
returns-in_err-column c = rw c.from_residual.ensures (named_refused c.loop-word.invariant.put (sym c.in-Some.ensures) (sym c.in_err-column.ensures))

pub returns-then-column-least : goal.returns-then-column-least
returns-then-column-least c =
    named_falls c.loop-word.invariant.put (sym c.in-Some.ensures) (sym c.in_ok-column.ensures)
    (elim c.then-column-least.branch [
      | then-column-least-via-then-column-least w ↦ inl w.if-column-least.true
      | then-column-least-via-else-column-least+then-column-gt15 w ↦ inr w.if-column-gt15.true
    ])

pub loop-word-preserved : goal.loop-word-preserved
loop-word-preserved c =
    let fits : FitsSigned w64 c.in_ok-column.value = search rules in
    let left : length c.loop-word.words ≡ length (c.in-Some.word.now ∷ c.in-Some.rest) = ap length (words_are _ _ _ (sym c.in-Some.ensures)) in
    record {
      put =
          named_more c.loop-word.invariant.put (sym c.in-Some.ensures) (sym c.in_ok-column.ensures) c.if-column-least.false c.if-column-gt15.false
          (one_bit c.in_ok-column.column c.if-column-gt15.false) (to_z-of_z w64 c.in_ok-column.value fits) c.push_reserved.ensures.items;
      room = omega (arith, left, c.loop-word.invariant.room, c.push_reserved.ensures.len, c.push_reserved.ensures.capacity);
    }

pub returns-then-mask-eq0 : goal.returns-then-mask-eq0
returns-then-mask-eq0 c = named_nothing c.loop-word.invariant.put (none_are _ (sym c.in_default.ensures)) c.if-mask-eq0.true

pub returns-else-mask-eq0 : goal.returns-else-mask-eq0
returns-else-mask-eq0 c = named_all c.loop-word.invariant.put (none_are _ (sym c.in_default.ensures)) (omega arith)
