use Rattle.std.proofs.Common.{◌≡◌, ◌∙◌, ap, sym, Some, None, true, false, Bool, List, ℕ, Option, subst}
use Rattle.std.specs.Bool.{then_some}
use Rattle.std.specs.Option.{IfSome}
use Rattle.script_text.specs.Lines.{LeavesLines}
use Rattle.mtr.specs.Script.{Said, said, said_with}
use Rattle.mtr.proofs.ScriptLines.{known_refused, known_last, known_more}
use Rattle.mtr.proofs.script.Script.fill.Goals as goal

is_good : (s after : Said) (line read : List ℕ) (good : Bool) → read ≡ line → said_with s read ≡ then_some good after → good ≡ true → said_with s line ≡ Some after
is_good s after line read good same e g = ap (said_with s) (sym same) ∙ e ∙ ap (λ b. then_some b after) g

is_bad : (s after : Said) (line read : List ℕ) (good : Bool) → read ≡ line → said_with s read ≡ then_some good after → good ≡ false → said_with s line ≡ None
is_bad s after line read good same e g = ap (said_with s) (sym same) ∙ e ∙ ap (λ b. then_some b after) g

lines_at : (now left : Option (List ℕ)) (line : List ℕ) (is_more b : Bool) → is_more ≡ b → IfSome now (λ rest. LeavesLines rest line is_more left) → IfSome now (λ rest. LeavesLines rest line b left)
lines_at now left line is_more b e h = let P : Bool → Type 0 = λ x. IfSome now (λ rest. LeavesLines rest line x left) in subst P e h

pub returns-then-not-branch : goal.returns-then-not-branch
returns-then-not-branch g c =
    let remaining = g.R.Read.remaining in
    known_refused (remaining c.args.input.now) (remaining c.loop-number.input) (remaining c.read_line.new.input)
    (said c.loop-number.self) c.loop-number.number c.read_line.new.line.items c.in_ok-is_more.is_more
    c.loop-number.invariant c.in_ok-is_more.ensures.known
    (is_bad (said c.loop-number.self) (said c.add.new.self) _ _ _ c.deref.ensures.value c.in_ok-add.ensures.said c.if-not-branch.true)

pub returns-then-not-is_more : goal.returns-then-not-is_more
returns-then-not-is_more g c =
    let remaining = g.R.Read.remaining in
    known_last (remaining c.args.input.now) (remaining c.loop-number.input) (remaining c.read_line.new.input) (said c.loop-number.self)
    (said c.add.new.self) c.loop-number.number c.read_line.new.line.items
    c.loop-number.invariant
    (lines_at (remaining c.loop-number.input) (remaining c.read_line.new.input) c.read_line.new.line.items c.in_ok-is_more.is_more false c.if-not-is_more.true c.in_ok-is_more.ensures.known)
    (is_good (said c.loop-number.self) (said c.add.new.self) _ _ _ c.deref.ensures.value c.in_ok-add.ensures.said c.if-not-branch.false)

pub loop-number-preserved : goal.loop-number-preserved
loop-number-preserved g c =
    let remaining = g.R.Read.remaining in
    known_more (remaining c.args.input.now) (remaining c.loop-number.input) (remaining c.read_line.new.input) (said c.loop-number.self)
    (said c.add.new.self) c.loop-number.number c.read_line.new.line.items
    c.loop-number.invariant
    (lines_at (remaining c.loop-number.input) (remaining c.read_line.new.input) c.read_line.new.line.items c.in_ok-is_more.is_more true c.if-not-is_more.false c.in_ok-is_more.ensures.known)
    (is_good (said c.loop-number.self) (said c.add.new.self) _ _ _ c.deref.ensures.value c.in_ok-add.ensures.said c.if-not-branch.false)
