-- What lines add, one after another, to what was said before them.
use Rattle.std.proofs.Common.{◌≡◌, ◌∙◌, sym, ap, Bool, List, ℕ, Option, Some, None, Result, Ok, Err}
use Rattle.std.specs.Bool.{then_some}
use Rattle.std.specs.Option.{option_map}
use Rattle.std.specs.Prelude.{IfOk}
use Rattle.script_text.specs.Lines.{About, about, line_of}
use Rattle.script_text.specs.Words.{◌>>=◌}
use Rattle.script_text.specs.declared.lines.Line.{Line}

-- a line that is about nothing adds nothing
pub nothing_said : {S : Type 0} (added : About → Option S) (line : List ℕ) (found : Option Line) → option_map about found ≡ line_of line → found ≡ None → (line_of line >>= added) ≡ None
nothing_said added line found e none = ap (λ o. o >>= added) (sym e ∙ ap (option_map about) none)

-- what a line adds, if its first word tells what it is about
pub line_said : {S : Type 0} (added : About → Option S) (line : List ℕ) (found : Option Line) (told one : Line) → option_map about found ≡ line_of line → found ≡ Some told → told ≡ one →
    (line_of line >>= added) ≡ added (about one)
line_said added line found told one e some is = ap (λ o. o >>= added) (sym e ∙ ap (option_map about) some) ∙ ap (λ l. added (about l)) is

-- what is said of what a line is about is said of the line
pub then_taken : {S E : Type 0} (r : Result Bool E) (added : About → Option S) (after : S) (line : List ℕ) (one : About) → (line_of line >>= added) ≡ added one
    → IfOk r (λ is_good. added one ≡ then_some is_good after) → IfOk r (λ is_good. (line_of line >>= added) ≡ then_some is_good after)
then_taken (Ok is_good) added after line one e h = e ∙ h
then_taken (Err x) added after line one e h = h
