use Rattle.std.proofs.Common.{ℤ, w64, FitsSigned, rules, ◌∙◌, sym, ◌<◌, length, take, arith}
use Rattle.std.proofs.lemmas.List.{length-take-le}
use Rattle.std.proofs.lemmas.Int.{to_z-of_z}
use Rattle.std.proofs.Math.ListN.{length-set}
use Rattle.script_text.specs.Number.{integer}
use Rattle.script_text.proofs.WordLists.{none_are, item_more, no_item, item_past, all_read}
use Rattle.script_text.proofs.words.numbers_of.Goals as goal

pub returns-then-count-numbers : goal.returns-then-count-numbers
returns-then-count-numbers c = λ all is.
    let past = item_past integer (take c.loop-word.count c.loop-word.numbers) c.args.words c.loop-word.words c.in-Some.rest c.in-Some.word.now all
    (sym c.in-Some.ensures) c.loop-word.invariant.so_far is in
    omega (arith, length-take-le c.loop-word.count c.loop-word.numbers (omega arith), past)

pub returns-in_err-numbers : goal.returns-in_err-numbers
returns-in_err-numbers c =
    let none = no_item integer (take c.loop-word.count c.loop-word.numbers) c.args.words c.loop-word.words c.in-Some.rest c.in-Some.word.now (sym c.in_err-numbers.ensures.exact)
    (sym c.in-Some.ensures) c.loop-word.invariant.so_far in
    rw c.from_residual.ensures (λ all is. absurd (cc (none, is)))

pub loop-word-preserved : goal.loop-word-preserved
loop-word-preserved c =
    let below : c.loop-word.count < length c.loop-word.numbers = omega arith in
    let fits : FitsSigned w64 c.in_ok-numbers.field-0 = search rules in
    record {
      few = omega (arith, length-set {A = ℤ});
      so_far =
          item_more integer c.loop-word.numbers c.loop-word.count c.loop-word.words c.in-Some.rest c.in-Some.word.now c.in_ok-numbers.field-0 _ below
          (to_z-of_z w64 c.in_ok-numbers.field-0 fits) (sym c.in-Some.ensures) (sym c.in_ok-numbers.ensures.exact)
          ∙ c.loop-word.invariant.so_far;
    }

pub returns : goal.returns
returns c = (
  c.loop-word.invariant.few,
  all_read integer (take c.loop-word.count c.loop-word.numbers) c.loop-word.words c.args.words
      (none_are _ (sym c.in_default.ensures)) c.loop-word.invariant.so_far,
)
