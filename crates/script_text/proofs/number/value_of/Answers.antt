use Rattle.std.proofs.Common.{◌≡◌, ◌∙◌, sym, ap, refl, ◌+◌, ◌-◌, ◌^◌, slice_index_or, take, arith}
use Rattle.std.proofs.lemmas.List.{take_all}
use Rattle.std.specs.Char.{is_ascii_digit}
use Rattle.std.specs.List.{list_all}
use Rattle.std.specs.Str.Parse.{digits_value}
use Rattle.script_text.proofs.NumberTexts.{digit_more, digits_more, digits_past, digits_read}
use Rattle.script_text.proofs.number.value_of.Goals as goal

pub loop-digit-init : goal.loop-digit-init
loop-digit-init c = record { digits = refl; value = refl; fits = omega arith }

pub returns-in_err-checked_mul : goal.returns-in_err-checked_mul
returns-in_err-checked_mul c =
    let digits = c.args.digits.now in
    let i = c.loop-digit.digit-index in
    let more = digit_more digits i c.loop-digit.value (slice_index_or digits i 0) c.loop-digit-test.true refl (sym c.if-not-is_ascii_digit.ensures.value) c.loop-digit.invariant.value in
    c.from_residual.ensures ∙ digits_past (2 ^ 64) digits (i + 1) (λ below. c.in_err-checked_mul.ensures (omega (arith, more, below)))

pub returns-in_err-value : goal.returns-in_err-value
returns-in_err-value c =
    let digits = c.args.digits.now in
    let i = c.loop-digit.digit-index in
    let more = digit_more digits i c.loop-digit.value (slice_index_or digits i 0) c.loop-digit-test.true refl (sym c.if-not-is_ascii_digit.ensures.value) c.loop-digit.invariant.value in
    c.from_residual-in_err-value.ensures ∙ digits_past (2 ^ 64) digits (i + 1) (λ below. c.in_err-value.ensures (omega (arith, more, below, c.in_ok-checked_mul.ensures.1)))

pub loop-digit-preserved : goal.loop-digit-preserved
loop-digit-preserved c =
    let digits = c.args.digits.now in
    let i = c.loop-digit.digit-index in
    let digit = sym c.if-not-is_ascii_digit.ensures.value in
    record {
      digits = digits_more digits i (slice_index_or digits i 0) c.loop-digit-test.true refl digit c.loop-digit.invariant.digits;
      value =
          c.in_ok-value.ensures.1
          ∙ ap (λ v. v + (slice_index_or digits i 0 - 48)) c.in_ok-checked_mul.ensures.1
          ∙ sym (digit_more digits i c.loop-digit.value (slice_index_or digits i 0) c.loop-digit-test.true refl digit c.loop-digit.invariant.value);
      fits = omega (arith, c.in_ok-value.ensures.0, c.in_ok-value.ensures.1);
    }

pub returns : goal.returns
returns c =
    let digits = c.args.digits.now in
    let all : take c.loop-digit.digit-index digits ≡ digits = take_all c.loop-digit.digit-index digits c.loop-digit-test.false in
    digits_read (2 ^ 64) digits c.loop-digit.value (ap (list_all is_ascii_digit) (sym all) ∙ c.loop-digit.invariant.digits) (c.loop-digit.invariant.value ∙ ap (digits_value 10) all)
    c.loop-digit.invariant.fits
