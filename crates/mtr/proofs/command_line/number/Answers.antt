use Rattle.std.proofs.Common.{◌∙◌, sym, ap, arith, inl, inr}
use Rattle.clap.specs.Words.{found_of}
use Rattle.script_text.specs.Words.{◌>>=◌}
use Rattle.mtr.proofs.OptionNumbers.{number_read, within, inside, outside}
use Rattle.mtr.proofs.command_line.number.Goals as goal
use Rattle.mtr.proofs.command_line.number.Goals.{else-least-number-via-then-least-number+else-number-greatest, else-least-number-via-else-least-number}

pub returns-in_err-number-clause-value : goal.returns-in_err-number-clause-value
returns-in_err-number-clause-value c =
    c.from_residual.ensures ∙ sym (number_read (found_of c.args.found.now) c.args.name.now c.args.least c.args.greatest c.get_one.result c.get_one.ensures.none c.get_one.ensures.value
    ∙ ap (λ r. r >>= within c.args.least c.args.greatest) c.in_err-number.was)

pub returns-then-number-greatest-clause-value : goal.returns-then-number-greatest-clause-value
returns-then-number-greatest-clause-value c =
    sym (number_read (found_of c.args.found.now) c.args.name.now c.args.least c.args.greatest c.get_one.result c.get_one.ensures.none c.get_one.ensures.value
    ∙ ap (λ r. r >>= within c.args.least c.args.greatest) c.in_ok-number.was ∙ inside c.args.least c.args.greatest c.in_ok-number.number c.if-least-number.true c.if-number-greatest.true)

pub returns-else-least-number-clause-value : goal.returns-else-least-number-clause-value
returns-else-least-number-clause-value c =
    sym (number_read (found_of c.args.found.now) c.args.name.now c.args.least c.args.greatest c.get_one.result c.get_one.ensures.none c.get_one.ensures.value
    ∙ ap (λ r. r >>= within c.args.least c.args.greatest) c.in_ok-number.was ∙ outside c.args.least c.args.greatest c.in_ok-number.number (elim c.else-least-number.branch [
      | else-least-number-via-then-least-number+else-number-greatest w ↦ inr (omega arith)
      | else-least-number-via-else-least-number w ↦ inl (omega arith)
    ]))
