-- A set has one list of intervals and one text, which is read as that set.
use Rattle.std.proofs.Common.{◌≡◌, ◌∙◌, sym, ap, refl, subst, inl, inr, ℕ, ◌+◌, ◌≤◌, Bool, true, false, ◌||◌, eqb, List, [], ◌∷◌, ◌++◌, length, append-nil, Option, Some, None, Ok, arith}
use Rattle.std.specs.Prelude.{IfSome}
use Rattle.std.specs.Fmt.{decimal}
use Rattle.std.proofs.lemmas.Bool.{eqb-true, false≢true, cases_lt, or_left}
use Rattle.std.proofs.lemmas.Bool.Decides.{eqb_tells}
use Rattle.uuid.specs.Text.{hyphenated_text, lower}
use Rattle.uuid.proofs.RoundTrips.{parses_hyphenated_text}
use Rattle.gtid_set.specs.declared.intervals.Interval.{Interval}
use Rattle.gtid_set.specs.Numbers.{is_within, has_number, RiseFrom, IsInterval}
use Rattle.gtid_set.specs.Ids.{Ids, IsSet, IsSetOf}
use Rattle.gtid_set.specs.Text.{interval_text, intervals_text, text_with}
use Rattle.gtid_set.specs.Reading.{IsTextOf, ListIntervals, ids_at}
use Rattle.gtid_set.specs.Laws.{OneSet, IsIdentifier, TextIsRead, TextGivesSet, OneText}
use Rattle.gtid_set.proofs.Rising.{none_before, within_true, behind_false}
use Rattle.gtid_set.proofs.Grammar.{ok_is, listed_read}

or_right : (a b : Bool) → a ≡ false → (a || b) ≡ b
or_right a b e = rw e refl

-- of two lists of one set neither begins first
first_le : (low : ℕ) (i j : Interval) (is js : List Interval) → RiseFrom low (i ∷ is) → RiseFrom low (j ∷ js) → ((n : ℕ) → has_number (i ∷ is) n ≡ has_number (j ∷ js) n) → j.first ≤ i.first
first_le low i j is js f g same =
    elim (cases_lt i.first j.first) [
      | inl lt ↦
          let here = or_left (is_within i i.first) (has_number is i.first) (within_true i i.first (omega arith) f.1) in
          let none = none_before j.first i.first (j ∷ js) (omega arith, g.1, g.2, g.3) lt in
          absurd (false≢true (sym none ∙ sym (same i.first) ∙ here))
      | inr le ↦ le
    ]

-- nor ends its first interval first
last_le : (low : ℕ) (i j : Interval) (is js : List Interval) → RiseFrom low (i ∷ is) → RiseFrom low (j ∷ js) → i.first ≡ j.first → ((n : ℕ) → has_number (i ∷ is) n ≡ has_number (j ∷ js) n) →
    j.last ≤ i.last
last_le low i j is js f g e same =
    elim (cases_lt i.last j.last) [
      | inl lt ↦
          let n = i.last + 1 in
          let here = or_left (is_within j n) (has_number js n) (within_true j n (omega (arith, f.1)) (omega arith)) in
          let none = or_right (is_within i n) (has_number is n) (behind_false i n (omega arith)) ∙ none_before (i.last + 2) n is f.3 (omega arith) in
          absurd (false≢true (sym none ∙ same n ∙ here))
      | inr le ↦ le
    ]

-- and what stands behind it is one set too
rest_same : (i j : Interval) (is js : List Interval) → RiseFrom (i.last + 2) is → RiseFrom (i.last + 2) js → i.last ≡ j.last → ((n : ℕ) → has_number (i ∷ is) n ≡ has_number (j ∷ js) n) → (n : ℕ) →
    has_number is n ≡ has_number js n
rest_same i j is js f g e same n =
    elim (cases_lt n (i.last + 2)) [
      | inl lt ↦ none_before (i.last + 2) n is f lt ∙ sym (none_before (i.last + 2) n js g lt)
      | inr le ↦
          sym (or_right (is_within i n) (has_number is n) (behind_false i n (omega arith))) ∙ same n
          ∙ or_right (is_within j n) (has_number js n) (behind_false j n (omega arith))
    ]

one_list : (low : ℕ) (is js : List Interval) → RiseFrom low is → RiseFrom low js → ((n : ℕ) → has_number is n ≡ has_number js n) → is ≡ js
one_list low [] [] f g same = refl
one_list low [] (j ∷ js) f g same =
    absurd (false≢true (same j.first ∙ or_left (is_within j j.first) (has_number js j.first) (within_true j j.first (omega arith) g.1)))
one_list low (i ∷ is) [] f g same =
    absurd (false≢true (sym (same i.first) ∙ or_left (is_within i i.first) (has_number is i.first) (within_true i i.first (omega arith) f.1)))
one_list low (i ∷ is) (j ∷ js) f g same =
    let begins : i.first ≡ j.first = omega (arith, first_le low i j is js f g same, first_le low j i js is g f (λ n. sym (same n))) in
    let ends : i.last ≡ j.last = omega (arith, last_le low i j is js f g begins same, last_le low j i js is g f (sym begins) (λ n. sym (same n))) in
    let behind : RiseFrom (i.last + 2) js = subst (λ (k : ℕ). RiseFrom (k + 2) js) (sym ends) g.3 in
    let rest = one_list (i.last + 2) is js f.3 behind (rest_same i j is js f.3 behind ends same) in
    let here : i ≡ j = λ t. record { first = begins t; last = ends t } in
    ap (λ (x : Interval). x ∷ is) here ∙ ap (λ (l : List Interval). j ∷ l) rest

pub one_set : OneSet
one_set a b sa sb source same =
    let numbers : a.numbers ≡ b.numbers = one_list 1 a.numbers b.numbers sa.numbers sb.numbers same in
    λ t. record { source = source t; numbers = numbers t }

-- ---- the text

interval_written : (i : Interval) → IsInterval i → IsTextOf (interval_text i) i
interval_written i h =
    elim (eqb_tells i.first i.last) [
      | inl w ↦ (h, inl (rw w.0 (append-nil (decimal i.first)), w.1))
      | inr w ↦ (h, inr (rw w.0 refl))
    ]

intervals_written : (low : ℕ) (is : List Interval) → 1 ≤ low → RiseFrom low is → ListIntervals (intervals_text is) is
intervals_written low [] one h = refl
intervals_written low (i ∷ is) one h =
    (interval_text i, intervals_text is, interval_written i (record { from_one = omega (arith, h.0); rising = h.1; last = h.2 }), refl, intervals_written (i.last + 2) is (omega arith) h.3)

some_numbers : (numbers : List Interval) → false ≡ eqb (length numbers) 0 → 1 ≤ length numbers
some_numbers [] e = absurd (false≢true e)
some_numbers (i ∷ is) e = omega arith

no_numbers : (numbers : List Interval) → true ≡ eqb (length numbers) 0 → numbers ≡ []
no_numbers [] e = refl
no_numbers (i ∷ is) e = absurd (omega (arith, eqb-true (length (i ∷ is)) 0 (sym e)))

text_lists : (source : Option (List ℕ)) (numbers : List Interval) → IsSet (record { source = source; numbers = numbers }) → IfSome source IsIdentifier →
    ids_at (text_with source numbers) ≡ Ok (record { source = source; numbers = numbers })
text_lists None numbers set is = ap (λ (l : List Interval). Ok (record { source = None; numbers = l })) (sym (no_numbers numbers set.source))
text_lists (Some source) numbers set is =
    listed_read (hyphenated_text lower source ++ intervals_text numbers) (record { source = Some source; numbers = numbers }) (inr (record {
      name = hyphenated_text lower source;
      list = intervals_text numbers;
      split = refl;
      source = sym (parses_hyphenated_text lower source (inl refl) is.sixteen is.bytes);
      named = refl;
      some = some_numbers numbers set.source;
      intervals = intervals_written 1 numbers (omega arith) set.numbers;
    }))

pub text_is_read : TextIsRead
text_is_read ids set is = text_lists ids.source ids.numbers set is

pub text_gives_set : TextGivesSet
text_gives_set ids listed set is named read of =
    let same : listed ≡ ids = ok_is listed ids (sym read ∙ text_is_read ids is named) in
    let found = subst (λ (l : Ids). IsSetOf l set) same of in
    one_set set ids found.is_set is found.source found.numbers

pub one_text : OneText
one_text a b sa sb na nb e = ok_is a b (sym (text_is_read a sa na) ∙ ap ids_at e ∙ text_is_read b sb nb)
