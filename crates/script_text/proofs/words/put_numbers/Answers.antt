use Rattle.std.proofs.Common.{◌≡◌, sym, ap, ◌∷◌, length, w64, FitsSigned, rules, arith}
use Rattle.std.proofs.lemmas.Int.{to_z-of_z}
use Rattle.script_text.proofs.WordLists.{none_are, words_are}
use Rattle.script_text.proofs.Puts.{put_none, put_more, put_refused, put_full, put_nothing, put_all}
use Rattle.script_text.proofs.words.put_numbers.Goals as goal

pub returns-then-count-eq-MOST : goal.returns-then-count-eq-MOST
returns-then-count-eq-MOST c = put_full c.loop-word.invariant.put (sym c.in-Some.ensures) c.if-count-eq-MOST.true

pub returns-in_err-i64_of : goal.returns-in_err-i64_of
returns-in_err-i64_of c = rw c.from_residual.ensures (put_refused c.loop-word.invariant.put (sym c.in-Some.ensures) (sym c.in_err-i64_of.ensures.exact))

pub loop-word-init : goal.loop-word-init
loop-word-init c = record { few = omega arith; put = put_none c.args.words c.args.columns.now.items; room = c.requires }

pub loop-word-preserved : goal.loop-word-preserved
loop-word-preserved c =
    let fits : FitsSigned w64 c.in_ok-i64_of.field-0 = search rules in
    let left : length c.loop-word.words ≡ length (c.in-Some.word.now ∷ c.in-Some.rest) = ap length (words_are _ _ _ (sym c.in-Some.ensures)) in
    record {
      few = omega arith;
      put = put_more c.loop-word.invariant.put (sym c.in-Some.ensures) (sym c.in_ok-i64_of.ensures.exact) (to_z-of_z w64 c.in_ok-i64_of.field-0 fits) c.push_reserved.ensures.items;
      room = omega (arith, left, c.loop-word.invariant.room, c.push_reserved.ensures.len, c.push_reserved.ensures.capacity);
    }

pub returns-then-count-eq0 : goal.returns-then-count-eq0
returns-then-count-eq0 c = put_nothing c.loop-word.invariant.put (none_are _ (sym c.in_default.ensures)) c.if-count-eq0.true

pub returns-else-count-eq0 : goal.returns-else-count-eq0
returns-else-count-eq0 c = put_all c.loop-word.invariant.put (none_are _ (sym c.in_default.ensures)) (omega arith) c.loop-word.invariant.few
