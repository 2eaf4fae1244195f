use Rattle.std.proofs.Common.{sym, refl}
use Rattle.std.proofs.lemmas.Bool.{false_from_ne_true}
use Rattle.std.proofs.lemmas.Str.{IsUtf8-from_is_utf8, is_utf8-from_IsUtf8}
use Rattle.std.specs.Str.{is_utf8}
use Rattle.script_text.specs.Lines.{line_of}
use Rattle.script_text.proofs.lines.line_of.Goals as goal

pub returns-in-Ok : goal.returns-in-Ok
unfolding line_of
returns-in-Ok c = rw (sym c.if-is_skipped.ensures, is_utf8-from_IsUtf8 c.args.line.now c.in-Ok.ensures.cases.1) refl

pub returns-in-Err : goal.returns-in-Err
unfolding line_of
returns-in-Err c =
    rw (sym c.if-is_skipped.ensures, false_from_ne_true (is_utf8 c.args.line.now) (λ e. c.in-Err.ensures.cases.0 (IsUtf8-from_is_utf8 c.args.line.now e))) refl
