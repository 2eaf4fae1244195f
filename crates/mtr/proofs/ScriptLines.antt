-- Lines of a script.
use Rattle.std.proofs.Common.{◌≡◌, ◌∙◌, sym, ap, subst, refl, ℕ, Bool, true, false, cond, eqb, ◌+◌, List, [], ◌∷◌, ◌++◌, Option, Some, None, is_some, Result, Ok, Err}
use Rattle.std.specs.Option.{option_map, option_map_or, IfSome}
use Rattle.std.specs.List.{slice_split}
use Rattle.script_text.specs.Lines.{skipped, event, LeavesLines}
use Rattle.mtr.specs.Script.{Said, added, said_with, said_by, script_of, Knows}
use Rattle.script_text.specs.Words.{Word, ◌>>=◌}
use Rattle.script_text.specs.Command.{event_of}
use Rattle.mtr.specs.Events.{one_or_none}
use Rattle.world.specs.declared.events.Event.{Event}
use Rattle.std.specs.Prelude.{IfOk, OnOk}
use Rattle.std.specs.Bool.{then_some}

-- the lines from the first on, where it is taken
pub line_taken : (s more : Said) (n : ℕ) (line : List ℕ) (rest : List (List ℕ)) → said_with s line ≡ Some more → said_by s n (line ∷ rest) ≡ said_by more (n + 1) rest
unfolding said_by
line_taken s more n line rest e = ap (λ o. option_map_or (λ m. said_by m (n + 1) rest) o (Err n)) e

-- where it is not
pub line_refused : (s : Said) (n : ℕ) (line : List ℕ) (rest : List (List ℕ)) → said_with s line ≡ None → said_by s n (line ∷ rest) ≡ Err n
unfolding said_by
line_refused s n line rest e = ap (λ o. option_map_or (λ m. said_by m (n + 1) rest) o (Err n)) e

pub all_said : (s : Said) (n : ℕ) → said_by s n [] ≡ Ok s
unfolding said_by
all_said s n = refl

refused_at : (s : Said) (n : ℕ) (rest line : List ℕ) (is_more : Bool) (left : Option (List ℕ)) → LeavesLines rest line is_more left → said_with s line ≡ None →
    said_by s n (slice_split (λ b. eqb b 10) rest) ≡ Err n
refused_at s n rest line true left lines none = ap (said_by s n) lines.2 ∙ line_refused s n line _ none
refused_at s n rest line false left lines none = ap (said_by s n) lines ∙ line_refused s n line [] none

-- where the text is known: its first bad line,
pub known_refused : (known now left : Option (List ℕ)) (s : Said) (n : ℕ) (line : List ℕ) (is_more : Bool) →
    Knows known now (λ text rest. said_by s n (slice_split (λ b. eqb b 10) rest) ≡ script_of text) → IfSome now (λ rest. LeavesLines rest line is_more left) → said_with s line ≡ None →
    IfSome known (λ text. script_of text ≡ Err n)
known_refused None now left s n line is_more so_far lines none = tt
known_refused (Some text) None left s n line is_more so_far lines none = absurd so_far
known_refused (Some text) (Some rest) left s n line is_more so_far lines none = sym so_far ∙ refused_at s n rest line is_more left lines none

-- its last line,
pub known_last : (known now left : Option (List ℕ)) (s after : Said) (n : ℕ) (line : List ℕ) → Knows known now (λ text rest. said_by s n (slice_split (λ b. eqb b 10) rest) ≡ script_of text) →
    IfSome now (λ rest. LeavesLines rest line false left) → said_with s line ≡ Some after → IfSome known (λ text. script_of text ≡ Ok after)
known_last None now left s after n line so_far lines taken = tt
known_last (Some text) None left s after n line so_far lines taken = absurd so_far
known_last (Some text) (Some rest) left s after n line so_far lines taken =
    sym so_far ∙ ap (said_by s n) lines ∙ line_taken s after n line [] taken ∙ all_said after (n + 1)

left_known : (text more : List ℕ) (left : Option (List ℕ)) (s after : Said) (n : ℕ) → left ≡ Some more → said_by after (n + 1) (slice_split (λ b. eqb b 10) more) ≡ script_of text →
    Knows (Some text) left (λ text rest. said_by after (n + 1) (slice_split (λ b. eqb b 10) rest) ≡ script_of text)
left_known text more left s after n e h =
    let P : Option (List ℕ) → Type 0 = λ o. Knows (Some text) o (λ text rest. said_by after (n + 1) (slice_split (λ b. eqb b 10) rest) ≡ script_of text) in
    subst P (sym e) h

-- and another
pub known_more : (known now left : Option (List ℕ)) (s after : Said) (n : ℕ) (line : List ℕ) → Knows known now (λ text rest. said_by s n (slice_split (λ b. eqb b 10) rest) ≡ script_of text) →
    IfSome now (λ rest. LeavesLines rest line true left) → said_with s line ≡ Some after → Knows known left (λ text rest. said_by after (n + 1) (slice_split (λ b. eqb b 10) rest) ≡ script_of text)
known_more None now left s after n line so_far lines taken = tt
known_more (Some text) None left s after n line so_far lines taken = absurd so_far
known_more (Some text) (Some rest) left s after n line so_far lines taken =
    left_known text lines.0 left s after n lines.1
    (sym (line_taken s after n line (slice_split (λ b. eqb b 10) lines.0) taken) ∙ ap (said_by s n) (sym lines.2) ∙ so_far)

-- ---- what a line adds, by what it is about

pub skipped_added : (s : Said) → added s skipped ≡ Some s
unfolding added
skipped_added s = refl

tried : (s : Said) (found : Option Event) (good : Bool) (events : List Event) → good ≡ is_some found → events ≡ s.events ++ one_or_none found
    → (found >>= (λ event. Some (record s { events = s.events ++ event ∷ [] }))) ≡ then_some good (record { tables = s.tables; base = s.base; events = events })
tried s None good events is h = ap (λ b. then_some b (record { tables = s.tables; base = s.base; events = events })) (sym is)
tried s (Some e) good events is h =
    ap (λ es. Some (record { tables = s.tables; base = s.base; events = es })) (sym h) ∙ ap (λ b. then_some b (record { tables = s.tables; base = s.base; events = events })) (sym is)

-- an event is added where there is one
pub event_added : {E : Type 0} (r : Result Bool E) (s : Said) (name : Word) (words : List Word) (events : List Event) → IfOk r (λ good. good ≡ is_some (event_of name words)) →
    OnOk r (events ≡ s.events ++ one_or_none (event_of name words))
    → IfOk r (λ good. added s (event name words) ≡ then_some good (record { tables = s.tables; base = s.base; events = events }))
unfolding added
event_added (Ok good) s name words events is h = tried s (event_of name words) good events is h
event_added (Err x) s name words events is h = is
