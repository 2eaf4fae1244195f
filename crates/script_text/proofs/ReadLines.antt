-- Lines as a reader gives them.
use Rattle.std.proofs.Common.{◌≡◌, ◌∙◌, sym, ap, refl, ℕ, Bool, true, false, cond, eqb, ◌-◌, ◌≢◌, List, [], ◌∷◌, ◌++◌, take, inl, inr, arith, length, length-append, Option, Some, None, append_assoc}
use Rattle.std.proofs.Common.{subst}
use Rattle.std.specs.List.{slice_split, All}
use Rattle.std.specs.Prelude.{IfSome}
use Rattle.std.specs.Io.{StopsAt}
use Rattle.std.specs.Io.BufRead.{take_through, drop_through, DropsThrough}
use Rattle.std.proofs.lemmas.Bool.{ne_eqb}
use Rattle.std.proofs.lemmas.List.{take-append-le, take_all}
use Rattle.std.proofs.lemmas.List.Elements.{All-append, All-cons, All-nil, All-head, All-tail}
use Rattle.std.proofs.lemmas.List.Splits.{slice_split_none, slice_split_at}
use Rattle.record_codec.proofs.Logs.{split_last}
use Rattle.script_text.specs.Lines.{IsLine, LeavesLines, TakesEnd}
use Rattle.script_text.proofs.Splits.{is_byte}

front_of : (front : List ℕ) (x : ℕ) → take (length (front ++ x ∷ []) - 1) (front ++ x ∷ []) ≡ front
front_of front x =
    let n : length (front ++ x ∷ []) - 1 ≡ length front = omega (arith, length-append front (x ∷ [])) in
    ap (λ k. take k (front ++ x ∷ [])) n ∙ take-append-le (length front) front (x ∷ []) (omega arith) ∙ take_all (length front) front (omega arith)

front_is_line : (front : List ℕ) (x : ℕ) → StopsAt (front ++ x ∷ []) 10 → IsLine front
front_is_line front x h =
    let at : All (λ b. b ≢ 10) front = let P : List ℕ → Type 0 = λ l. All (λ b. b ≢ 10) l in subst P (front_of front x) h in
    λ k d l. ne_eqb _ 10 (at k d l)

along_stops : (xs ys : List ℕ) → xs ≡ ys → StopsAt xs 10 → StopsAt ys 10
along_stops xs ys e h = let P : List ℕ → Type 0 = λ l. StopsAt l 10 in subst P e h

along_line : (xs ys : List ℕ) → xs ≡ ys → IsLine xs → IsLine ys
along_line xs ys e h = let P : List ℕ → Type 0 = λ l. IsLine l in subst P e h

-- what was read, without the LF at its end, is a line
pub line_of_read : (read line : List ℕ) (ended : Bool) → StopsAt read 10 → TakesEnd read line ended → IsLine line
line_of_read read line true stops e = front_is_line line 10 (along_stops read (line ++ 10 ∷ []) e stops)
line_of_read read line false stops e = elim (split_last read) [
  | inl none ↦ along_line [] line (sym none ∙ sym e.0) (All-nil (λ b. eqb b 10 ≡ false))
  | inr s ↦
      let front = front_is_line s.0 s.1 (along_stops read (s.0 ++ s.1 ∷ []) s.2 stops) in
      let other : s.1 ≢ 10 = λ same. e.1 s.0 (s.2 ∙ ap (λ x. s.0 ++ x ∷ []) same) in
      along_line (s.0 ++ s.1 ∷ []) line (sym s.2 ∙ sym e.0)
      (All-append (λ b. eqb b 10 ≡ false) s.0 (s.1 ∷ []) front (All-cons (λ b. eqb b 10 ≡ false) s.1 [] (ne_eqb s.1 10 other) (All-nil (λ b. eqb b 10 ≡ false))))
]

through_case : (x : ℕ) (xs : List ℕ) (b : Bool) → take_through 10 xs ++ drop_through 10 xs ≡ xs → cond b (x ∷ []) (x ∷ take_through 10 xs) ++ cond b xs (drop_through 10 xs) ≡ x ∷ xs
through_case x xs true e = refl
through_case x xs false e = ap (λ l. x ∷ l) e

-- what is read and what is left
through_all : (text : List ℕ) → take_through 10 text ++ drop_through 10 text ≡ text
through_all [] = refl
through_all (x ∷ xs) = through_case x xs (eqb x 10) (through_all xs)

no_end_case : (x : ℕ) (xs : List ℕ) (b : Bool) → eqb x 10 ≡ b → (IsLine (take_through 10 xs) → take_through 10 xs ≡ xs) → IsLine (cond b (x ∷ []) (x ∷ take_through 10 xs)) →
    cond b (x ∷ []) (x ∷ take_through 10 xs) ≡ x ∷ xs
no_end_case x xs true e more h = let one : eqb x 10 ≡ false = All-head (λ b. eqb b 10 ≡ false) x [] h in cc
no_end_case x xs false e more h = ap (λ l. x ∷ l) (more (All-tail (λ b. eqb b 10 ≡ false) x (take_through 10 xs) h))

-- a line without LF is all of the text
no_end : (text : List ℕ) → IsLine (take_through 10 text) → take_through 10 text ≡ text
no_end [] h = refl
no_end (x ∷ xs) h = no_end_case x xs (eqb x 10) refl (no_end xs) h

leaves : (text read line : List ℕ) (ended : Bool) (rest : Option (List ℕ)) → IsLine line → TakesEnd read line ended → read ≡ take_through 10 text → rest ≡ Some (drop_through 10 text) →
    LeavesLines text line ended rest
leaves text read line true rest one end took left =
    let parts : text ≡ line ++ (10 ∷ drop_through 10 text) =
    sym (through_all text) ∙ ap (λ l. l ++ drop_through 10 text) (sym took ∙ end) ∙ append_assoc line (10 ∷ []) (drop_through 10 text) in
    (drop_through 10 text, left, ap (slice_split (is_byte 10)) parts ∙ slice_split_at (is_byte 10) line 10 (drop_through 10 text) one refl)
leaves text read line false rest one end took left =
    let all : line ≡ take_through 10 text = end.0 ∙ took in
    let whole : text ≡ line = sym (no_end text (along_line line (take_through 10 text) all one)) ∙ sym all in
    ap (slice_split (is_byte 10)) whole ∙ slice_split_none (is_byte 10) line one

-- where the text is known
pub known_line : (known rest : Option (List ℕ)) (read line : List ℕ) (ended : Bool) → IsLine line → TakesEnd read line ended → IfSome known (λ text. read ≡ [] ++ take_through 10 text) →
    DropsThrough known rest 10 → IfSome known (λ text. LeavesLines text line ended rest)
known_line None rest read line ended one end took left = took
known_line (Some text) rest read line ended one end took left = leaves text read line ended rest one end took left
