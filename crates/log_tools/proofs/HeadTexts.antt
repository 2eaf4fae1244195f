-- What the lines of a text say of a log's tables and rows.
use Rattle.std.proofs.Common.{◌≡◌, inr, ◌∙◌, sym, ap, subst, refl, ℕ, ◌+◌, ◌-◌, eqb, List, [], ◌∷◌, ◌++◌, map, length, get_or, take, drop, Option, Some, None, Ok, Err, Bor}
use Rattle.std.proofs.Common.{arith, codes, true, IsPermutation}
use Rattle.std.specs.Cmp.Lexicographic.{pointwise, same_text}
use Rattle.std.specs.List.{position}
use Rattle.std.specs.Option.{option_map_or, IfSome, IfNone}
use Rattle.std.proofs.lemmas.Bool.{eqb-true}
use Rattle.std.proofs.lemmas.List.{take-append-drop, take_all, drop_more, length-drop}
use Rattle.std.proofs.lemmas.List.Quantifiers.{position-Some}
use Rattle.schema.specs.declared.Table.{Table}
use Rattle.schema.specs.Schema.{schema_fault}
use Rattle.store_trait.specs.Batch.{Entry}
use Rattle.store_trait.specs.Fits.{Fits}
use Rattle.store_trait.specs.Operation.{loaded}
use Rattle.script_text.proofs.Splits.{cut_there, cut_nowhere}
use Rattle.script_text.specs.Lines.{skipped, event}
use Rattle.script_text.specs.Words.{Word}
use Rattle.log_tools.specs.declared.describing.HeadFault.{HeadFault}
use Rattle.log_tools.specs.declared.describing.HeadFault.TheVariants as faults
use Rattle.log_tools.specs.Head.{HeadLines, added, said_with, said_by, lines_of, head_lines, present, GetsNoStore, IsHeadFault}

pub skipped_added : (h : HeadLines) → added h skipped ≡ Some h
unfolding added
skipped_added h = refl

pub event_added : (h : HeadLines) (name : Word) (words : List Word) → added h (event name words) ≡ None
unfolding added
event_added h name words = refl

-- a line is taken,
pub line_taken : (h more : HeadLines) (n : ℕ) (line : List ℕ) (rest : List (List ℕ)) → said_with h line ≡ Some more → said_by h n (line ∷ rest) ≡ said_by more (n + 1) rest
unfolding said_by
line_taken h more n line rest e = ap (λ o. option_map_or (λ m. said_by m (n + 1) rest) o (Err n)) e

-- or it is bad
pub line_refused : (h : HeadLines) (n : ℕ) (line : List ℕ) (rest : List (List ℕ)) → said_with h line ≡ None → said_by h n (line ∷ rest) ≡ Err n
unfolding said_by
line_refused h n line rest e = ap (λ o. option_map_or (λ m. said_by m (n + 1) rest) o (Err n)) e

pub all_taken : (h : HeadLines) (n : ℕ) → said_by h n [] ≡ Ok h
unfolding said_by
all_taken h n = refl

-- ---- how a text is cut

-- after its first LF
behind : List ℕ → ℕ → List ℕ
behind text at = take (length text - (at + 1)) (drop (at + 1) text)

behind_all : (text : List ℕ) (at : ℕ) → behind text at ≡ drop (at + 1) text
unfolding behind
behind_all text at = take_all (length text - (at + 1)) (drop (at + 1) text) (omega (arith, length-drop (at + 1) text))

pub line_there : (text : List ℕ) (at : ℕ) → position (λ b. eqb b 10) text ≡ Some at → lines_of text ≡ take at text ∷ lines_of (take (length text - (at + 1)) (drop (at + 1) text))
unfolding behind
line_there text at found =
    let whole : at ≡ at - 0 = omega arith in
    cut_there 10 text (take at text) (behind text at) at found (ap (λ n. take n text) whole) (behind_all text at)

pub split_there : (text : List ℕ) (at : ℕ) → position (λ b. eqb b 10) text ≡ Some at → text ≡ take at text ++ 10 ∷ take (length text - (at + 1)) (drop (at + 1) text)
unfolding behind
split_there text at found =
    let there = position-Some (λ b. eqb b 10) text at 0 found in
    let byte : get_or text at 0 ≡ 10 = eqb-true _ _ there.1 in
    sym (take-append-drop at text)
    ∙ ap (λ (l : List ℕ). take at text ++ l) (drop_more text at 0 there.0 ∙ ap (λ b. b ∷ drop (at + 1) text) byte ∙ ap (λ (l : List ℕ). 10 ∷ l) (sym (behind_all text at)))

pub line_nowhere : (text : List ℕ) → position (λ b. eqb b 10) text ≡ None → lines_of text ≡ text ∷ []
line_nowhere text none = cut_nowhere 10 text none

-- the first line, and the lines after it
pub first_line : (text line : List ℕ) (more : Option (Bor (List ℕ))) → IfNone more (lines_of text ≡ line ∷ []) → IfSome more (λ m. lines_of text ≡ line ∷ lines_of m.now) →
    (rest : List (List ℕ)) × (lines_of text ≡ line ∷ rest)
first_line text line None last none = ([], last)
first_line text line (Some more) none goes = (lines_of more.now, goes)

-- ---- why there is no store of the rows that lines say

pub no_store : (text : List ℕ) (lines : HeadLines) (tables : List Table) (rows : List Entry) (fault : HeadFault) → head_lines text ≡ Ok lines → tables ≡ lines.tables →
    schema_fault lines.tables ≡ None → IsPermutation (map present lines.rows) rows → GetsNoStore tables rows fault → IsHeadFault text fault
no_store text lines tables rows faults.Memory are same sound given cause = tt
no_store text lines tables rows faults.Base are same sound given cause = record {
  lines = lines;
  are = are;
  tables = sound;
  cause = inr (record { rows = rows; are = given; misfit = subst (λ (ts : List Table). ¬ Fits ts (loaded rows)) same cause });
}
no_store text lines tables rows (faults.Line n) are same sound given cause = absurd cause
no_store text lines tables rows (faults.Schema fault) are same sound given cause = absurd cause

-- ---- the line of an identifier

pub stripped : (line word : List ℕ) → pointwise eqb (take 7 line) (codes "source ") ≡ true → word ≡ drop 7 line → line ≡ codes "source " ++ word
stripped line word front rest =
    sym (take-append-drop 7 line) ∙ ap (λ (l : List ℕ). l ++ drop 7 line) (same_text (take 7 line) (codes "source ") (sym front)) ∙ ap (λ (l : List ℕ). codes "source " ++ l) (sym rest)
