-- The places of numbers and of results.
use Rattle.std.proofs.Common.{◌≡◌, ◌∙◌, sym, ap, ℕ, ◌+◌, ◌-◌, ◌<◌, ◌≤◌, Bool, true, false, List, ◌++◌, [], ◌∷◌, length, take, drop, get_or, Option, Some, None, inl, inr, cond, ltb, arith, eqb}
use Rattle.std.specs.Prelude.{IfSome, option_copied, slice_get}
use Rattle.std.specs.Option.{unwrap_or}
use Rattle.std.specs.List.{position_or_len, remove}
use Rattle.std.proofs.lemmas.Bool.{cases_Bool, cond-true, cond-false}
use Rattle.std.proofs.lemmas.Bool.Decides.{nat_tests}
use Rattle.std.proofs.lemmas.List.{take_at}
use Rattle.std.proofs.lemmas.List.Edits.{length-remove}
use Rattle.std.proofs.lemmas.Option.{slice_get-get_or}
use Rattle.std.proofs.lemmas.Slice.{put_mid-rotated}
use borrow.Rule.Slice.PartMut.{put_mid, mid_of}
use denote.Ref.{Bor}
use Rattle.executor.specs.Job.{Finished}
use Rattle.scheduler.specs.Gnos.{without}
use Rattle.commit_order.specs.Turns.{Line, place_of, turn, passed}
use Rattle.commit_order.proofs.Lines.{turn_is_next}

pub first_or_all : (first all : ℕ) → first ≤ all → unwrap_or (cond (ltb first all) (Some first) None) all ≡ first
first_or_all first all h = grind (arith, nat_tests)

-- the first of a number goes to the end
pub rotated : (xs : List ℕ) (gno place : ℕ) (left : List ℕ) → place ≡ position_or_len (λ (n : ℕ). eqb n gno) xs → place < length xs →
    left ≡ drop 1 (mid_of place (length xs - place) xs) ++ take 1 (mid_of place (length xs - place) xs) → take (length xs - 1) (put_mid place (length xs - place) xs left) ≡ without gno xs
rotated xs gno place left is within after =
    ap (take (length xs - 1)) (put_mid-rotated place (length xs - place) xs left 0 within (omega (arith, within)) after)
    ∙ take_at (remove xs place) (get_or xs place 0 ∷ []) (length xs - 1) (let less = length-remove xs place within in omega (arith, less))
    ∙ ap (remove xs) is

-- what is removed is the result whose turn had come
pub removed_is_turn : (line : Line) (items : List Finished) (place : ℕ) (result : Finished) → items ≡ line.done → place ≡ place_of line → place < length items → result ≡ get_or items place result →
    turn line ≡ Some result
removed_is_turn line items place result are is within there =
    ap (λ (l : List Finished). slice_get l (place_of line)) (sym are)
    ∙ ap (slice_get items) (sym is)
    ∙ slice_get-get_or items place result within
    ∙ ap (λ (r : Finished). Some r) (sym there)

pub in_turn_of : (line : Line) (shown : Option (Bor Finished)) → option_copied shown ≡ turn line → IfSome shown (λ done. line.preserve ≡ true → done.now.job.gno ≡ line.next)
in_turn_of line None is = tt
in_turn_of line (Some done) is = λ kept. turn_is_next line done.now kept (sym is)

-- the line without it
pub passed_is : (line : Line) (preserve : Bool) (last then : ℕ) (out : List ℕ) (done left : List Finished) (place : ℕ) (result : Finished) →
    ◌≡◌ {A = Line} (record { preserve = preserve; next = last + 1; out = out; done = done }) line → place ≡ place_of line → turn line ≡ Some result → left ≡ remove done place →
    then ≡ cond preserve result.job.gno last → ◌≡◌ {A = Line} (record { preserve = preserve; next = then + 1; out = out; done = left }) (passed line)
passed_is line preserve last then out done left place result is place_is turned removed then_is =
    let same_preserve : preserve ≡ line.preserve = ap (λ (l : Line). l.preserve) is in
    let same_out : out ≡ line.out = ap (λ (l : Line). l.out) is in
    let same_left : left ≡ remove line.done (place_of line) = removed ∙ ap (λ (l : List Finished). remove l place) (ap (λ (l : Line). l.done) is) ∙ ap (remove line.done) place_is in
    let same_next : then + 1 ≡ cond line.preserve (line.next + 1) line.next = elim (cases_Bool preserve) [
      | inl kept ↦
          let preserved : line.preserve ≡ true = sym same_preserve ∙ kept in
          ap (λ n. n + 1) (then_is ∙ cond-true preserve result.job.gno last kept ∙ turn_is_next line result preserved turned)
          ∙ sym (cond-true line.preserve (line.next + 1) line.next preserved)
      | inr free ↦
          ap (λ n. n + 1) (then_is ∙ cond-false preserve result.job.gno last free)
          ∙ ap (λ (l : Line). l.next) is
          ∙ sym (cond-false line.preserve (line.next + 1) line.next (sym same_preserve ∙ free))
    ] in
    cc
