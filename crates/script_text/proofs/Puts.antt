-- Columns that are put behind others, word by word.
use Rattle.std.proofs.Common.{◌≡◌, ◌∙◌, sym, ap, refl, ℕ, ◌+◌, ◌*◌, ◌^◌, ◌<◌, ◌≤◌, ◌⊎◌, Bool, true, false, cond, ◌&&◌, leb, nat_le, nat_lt, List, [], ◌∷◌, ◌++◌, length, map, sum_by}
use Rattle.std.proofs.Common.{count_ones, ℤ, Option, Some, None, inl, inr, append_assoc, append-nil, length-append, arith}
use Rattle.std.proofs.lemmas.List.{length-map}
use Rattle.std.proofs.lemmas.List.Sums.{sum_by-append, sum_by-cons}
use Rattle.std.specs.Option.{option_map}
use Rattle.std.proofs.Math.Nat.{pow-le-pow_right}
use Rattle.std.proofs.lemmas.Grind.{pow_more}
use Rattle.std.proofs.lemmas.Bool.{and_right}
use Rattle.std.proofs.lemmas.Bool.Decides.{nat_tests}
use lib.Count.{ones_cat, ones-ones}
use Rattle.rows.specs.Naming.{NamedColumns, rise_from, naming_from}
use Rattle.script_text.proofs.WordLists.{then_rest, then_first, front_more, no_item, item_past, all_read, no_row}
use Rattle.script_text.specs.Number.{integer}
use Rattle.script_text.specs.Words.{Word, ◌>>=◌, first_word, all_in, row_in, assignment, naming_in, PutsNumbers, PutsValues}

-- ---- numbers

-- of all words these are left, and the numbers of those before them, so many, stand behind the old columns
pub record PutSoFar (initial words : List Word) (count : ℕ) (old new : List ℤ) : Type 0 where
  pub own : List ℤ
  pub stand : new ≡ old ++ own
  pub so_far : then_rest integer own words ≡ all_in integer initial
  pub many : length own ≡ count

same_items : {A : Type 0} (o : Option (List A)) → option_map (λ (r : List A). [] ++ r) o ≡ o
same_items None = refl
same_items (Some r) = refl

pub put_none : (words : List Word) (old : List ℤ) → PutSoFar words words 0 old old
put_none words old = record { own = []; stand = sym (append-nil old); so_far = same_items (all_in integer words); many = refl }

abbrev row_of : Option (List ℤ) → Option (List ℤ)
row_of o = o >>= λ columns. cond (leb 1 (length columns) && leb (length columns) 16) (Some columns) None

without : (own : List ℤ) → length own ≡ 0 → row_of (Some own) ≡ None
without own none = let b : (leb 1 (length own) && leb (length own) 16) ≡ false = grind (arith, nat_tests) in ap (λ b. cond b (Some own) None) b

fits : (own : List ℤ) (n : ℕ) → 1 ≤ n → n ≤ 16 → length own ≡ n → row_of (Some own) ≡ Some own
fits own n some few many = let b : (leb 1 (length own) && leb (length own) 16) ≡ true = grind (arith, nat_tests) in ap (λ b. cond b (Some own) None) b

module _ {initial words : List Word} {count : ℕ} {old new : List ℤ} (h : PutSoFar initial words count old new) where
  pub put_more : {rest : List Word} {word : Word} {x written : ℤ} {after : List ℤ} → first_word words ≡ Some (word, rest) → integer word ≡ Some x → written ≡ x → after ≡ new ++ written ∷ [] →
      PutSoFar initial rest (count + 1) old after
  put_more {rest = rest} {word = word} {x = x} first e same is = record {
    own = h.own ++ x ∷ [];
    stand = is ∙ ap (λ y. new ++ y ∷ []) same ∙ ap (λ l. l ++ x ∷ []) h.stand ∙ append_assoc old h.own (x ∷ []);
    so_far = front_more integer h.own words rest word x first e ∙ h.so_far;
    many = length-append h.own (x ∷ []) ∙ ap (λ n. n + 1) h.many;
  }

  -- a word that is no number,
  pub put_refused : {rest : List Word} {word : Word} → first_word words ≡ Some (word, rest) → integer word ≡ None → PutsNumbers (row_in initial) old new None
  unfolding row_in
  put_refused {rest = rest} {word = word} first none = (h.own, ap row_of (no_item integer h.own initial words rest word none first h.so_far), h.stand)

  -- a word behind sixteen numbers,
  pub put_full : {rest : List Word} {word : Word} → first_word words ≡ Some (word, rest) → count ≡ 16 → PutsNumbers (row_in initial) old new None
  put_full {rest = rest} {word = word} first full =
      (h.own, sym (no_row initial count full (λ all is. omega (arith, h.many, item_past integer h.own initial words rest word all first h.so_far is))), h.stand)

  -- no word at all,
  pub put_nothing : words ≡ [] → count ≡ 0 → PutsNumbers (row_in initial) old new None
  unfolding row_in
  put_nothing none zero_count = (h.own, ap row_of (all_read integer h.own words initial none h.so_far) ∙ without h.own (h.many ∙ zero_count), h.stand)

  -- and all words
  pub put_all : words ≡ [] → 1 ≤ count → count ≤ 16 → PutsNumbers (row_in initial) old new (Some count)
  unfolding row_in
  put_all none some few = (h.own, ap row_of (all_read integer h.own words initial none h.so_far) ∙ fits h.own count some few h.many, h.stand, some, few, sym h.many)

-- ---- columns that are named

-- of all words these are left; what the others name, and what it gives: the least column that may come, the mask and the values
pub record NamedSoFar (initial words : List Word) (least mask : ℕ) (old new : List ℤ) : Type 0 where
  pub pairs : List (ℕ × ℤ)
  pub stand : new ≡ old ++ map (λ pair. pair.1) pairs
  pub so_far : then_rest assignment pairs words ≡ all_in assignment initial
  pub rises : (more : List (ℕ × ℤ)) → rise_from 0 (pairs ++ more) ≡ rise_from least more
  pub columns : mask ≡ sum_by (λ pair. 2 ^ pair.0) pairs
  pub below : mask < 2 ^ least
  pub few : least ≤ 16
  pub each : count_ones mask ≡ length pairs

-- a bit above all the others is one more
one_more : (mask c : ℕ) → mask < 2 ^ c → count_ones (mask + 2 ^ c) ≡ count_ones mask + 1
one_more mask c low = let order : mask + 2 ^ c ≡ 1 * 2 ^ c + mask = omega arith in let one : count_ones 1 ≡ 1 = ones-ones 1 in ap count_ones order ∙ ones_cat c 1 mask low ∙ (omega arith)

-- the test of the next pair
rises_more : (least c : ℕ) (rest : Bool) → least ≤ c → c ≤ 15 → (nat_le least c && nat_lt c 16 && rest) ≡ rest
rises_more least c rest from few = let both : (nat_le least c && nat_lt c 16) ≡ true = grind (arith, nat_tests) in ap (λ b. b && rest) both

rises_not : (least c : ℕ) (rest : Bool) → (c < least) ⊎ (15 < c) → (nat_le least c && nat_lt c 16 && rest) ≡ false
rises_not least c rest (inl below) = let low : nat_le least c ≡ false = grind (arith, nat_tests) in λ i. low i && nat_lt c 16 && rest
rises_not least c rest (inr above) =
    let high : nat_lt c 16 ≡ false = grind (arith, nat_tests) in
    (λ i. nat_le least c && high i && rest) ∙ ap (λ b. b && rest) (and_right (nat_le least c) false refl)

values_more : (pairs : List (ℕ × ℤ)) (p : ℕ × ℤ) → map (λ (q : ℕ × ℤ). q.1) (pairs ++ p ∷ []) ≡ map (λ q. q.1) pairs ++ p.1 ∷ []
values_more [] p = refl
values_more (q ∷ qs) p = ap (λ l. q.1 ∷ l) (values_more qs p)

columns_more : (pairs : List (ℕ × ℤ)) (p : ℕ × ℤ) → sum_by (λ (q : ℕ × ℤ). 2 ^ q.0) (pairs ++ p ∷ []) ≡ sum_by (λ q. 2 ^ q.0) pairs + 2 ^ p.0
columns_more pairs p =
    let parts = sum_by-append (λ (q : ℕ × ℤ). 2 ^ q.0) pairs (p ∷ []) in
    let one = sum_by-cons (λ (q : ℕ × ℤ). 2 ^ q.0) p [] in
    omega (arith, parts, one)

-- no naming of pairs that are read so
abbrev naming_of : Option (List (ℕ × ℤ)) → Option NamedColumns
naming_of o = o >>= λ pairs. cond (nat_le 1 (length pairs) && rise_from 0 pairs) (Some (naming_from pairs)) None

not_rising : (pairs : List (ℕ × ℤ)) (pair : ℕ × ℤ) (first : Option (ℕ × ℤ)) (o : Option (List (ℕ × ℤ))) → first ≡ Some pair → ((more : List (ℕ × ℤ)) → rise_from 0 (pairs ++ pair ∷ more) ≡ false) →
    naming_of (option_map (λ r. pairs ++ r) (first >>= λ x. o >>= λ xs. Some (x ∷ xs))) ≡ None
not_rising pairs pair first None e h = ap (λ f. naming_of (option_map (λ r. pairs ++ r) (f >>= λ x. None))) e
not_rising pairs pair first (Some xs) e h =
    ap (λ f. naming_of (option_map (λ r. pairs ++ r) (f >>= λ x. Some (x ∷ xs)))) e
    ∙ ap (λ b. cond b (Some (naming_from (pairs ++ pair ∷ xs))) None) (and_right (nat_le 1 (length (pairs ++ pair ∷ xs))) (rise_from 0 (pairs ++ pair ∷ xs)) (h xs))

named_whole : (pairs : List (ℕ × ℤ)) (mask n : ℕ) → 1 ≤ n → length pairs ≡ n → rise_from 0 pairs ≡ true → mask ≡ sum_by (λ (p : ℕ × ℤ). 2 ^ p.0) pairs →
    naming_of (Some pairs) ≡ Some (record { mask = mask; values = map (λ pair. pair.1) pairs })
named_whole pairs mask n some many rises is =
    let low : nat_le 1 (length pairs) ≡ true = grind (arith, nat_tests) in
    (λ i. cond (low i && rises i) (Some (naming_from pairs)) None) ∙ ap (λ (m : ℕ). Some (record { mask = m; values = map (λ pair. pair.1) pairs })) (sym is)

some_pairs : (pairs : List (ℕ × ℤ)) (mask : ℕ) → mask ≡ sum_by (λ (p : ℕ × ℤ). 2 ^ p.0) pairs → 1 ≤ mask → 1 ≤ length pairs
some_pairs [] mask is some = absurd (omega (arith, is, some))
some_pairs (pair ∷ pairs) mask is some = omega arith

no_pairs : (pairs : List (ℕ × ℤ)) → length pairs ≡ 0 → naming_of (Some pairs) ≡ None
no_pairs pairs none = let low : nat_le 1 (length pairs) ≡ false = grind (arith, nat_tests) in λ i. cond (low i && rise_from 0 pairs) (Some (naming_from pairs)) None

module _ {initial words : List Word} {least mask : ℕ} {old new : List ℤ} (h : NamedSoFar initial words least mask old new) where
  pub named_more : {rest : List Word} {word : Word} {c bit : ℕ} {x written : ℤ} {after : List ℤ} → first_word words ≡ Some (word, rest) → assignment word ≡ Some (c, x) → least ≤ c → c ≤ 15 →
      bit ≡ 2 ^ c → written ≡ x → after ≡ new ++ written ∷ [] → NamedSoFar initial rest (c + 1) (mask + bit) old after
  named_more {rest = rest} {word = word} {c = c} {x = x} first e from few is same stands =
      let over : 2 ^ least ≤ 2 ^ c = pow-le-pow_right (omega arith) from in
      let under : mask < 2 ^ c = omega (arith, h.below) in
      let pair : ℕ × ℤ = (c, x) in
      record {
        pairs = h.pairs ++ pair ∷ [];
        stand = stands ∙ ap (λ y. new ++ y ∷ []) same ∙ ap (λ l. l ++ x ∷ []) h.stand ∙ append_assoc old (map (λ p. p.1) h.pairs) (x ∷ []) ∙ ap (λ l. old ++ l) (sym (values_more h.pairs pair));
        so_far = front_more assignment h.pairs words rest word pair first e ∙ h.so_far;
        rises = λ more. ap (rise_from 0) (append_assoc h.pairs (pair ∷ []) more) ∙ h.rises (pair ∷ more) ∙ rises_more least c (rise_from (c + 1) more) from few;
        columns = (λ j. h.columns j + is j) ∙ sym (columns_more h.pairs pair);
        below = omega (arith, pow_more 2 c);
        few = omega arith;
        each = ap (λ n. count_ones (mask + n)) is ∙ one_more mask c under ∙ ap (λ n. n + 1) h.each ∙ sym (length-append h.pairs (pair ∷ []));
      }

  -- a word that is no column and its value
  pub named_refused : {rest : List Word} {word : Word} → first_word words ≡ Some (word, rest) → assignment word ≡ None → PutsValues (naming_in initial) old new None
  unfolding naming_in
  named_refused {rest = rest} {word = word} first none =
      (map (λ pair. pair.1) h.pairs, ap naming_of (no_item assignment h.pairs initial words rest word none first h.so_far), h.stand)

  -- a column that is too low or too high
  pub named_falls : {rest : List Word} {word : Word} {c : ℕ} {x : ℤ} → first_word words ≡ Some (word, rest) → assignment word ≡ Some (c, x) → (c < least) ⊎ (15 < c) →
      PutsValues (naming_in initial) old new None
  unfolding naming_in all_in
  named_falls {rest = rest} {word = word} {c = c} {x = x} first e out =
      let none : (more : List (ℕ × ℤ)) → rise_from 0 (h.pairs ++ (c, x) ∷ more) ≡ false = λ more. h.rises ((c, x) ∷ more) ∙ rises_not least c (rise_from (c + 1) more) out in (
        map (λ pair. pair.1) h.pairs,
        ap naming_of (sym h.so_far ∙ sym (then_first assignment h.pairs words rest word first)) ∙ not_rising h.pairs (c, x) (assignment word) (all_in assignment rest) e none,
        h.stand,
      )

  -- all words
  pub named_all : words ≡ [] → 1 ≤ mask → PutsValues (naming_in initial) old new (Some mask)
  unfolding naming_in
  named_all none some =
      let all = all_read assignment h.pairs words initial none h.so_far in
      let rises : rise_from 0 h.pairs ≡ true = ap (rise_from 0) (sym (append-nil h.pairs)) ∙ h.rises [] in
      let wide : length (map (λ (pair : ℕ × ℤ). pair.1) h.pairs) ≡ length h.pairs = length-map h.pairs (λ (pair : ℕ × ℤ). pair.1) in (
        map (λ pair. pair.1) h.pairs,
        ap naming_of all ∙ named_whole h.pairs mask (length h.pairs) (some_pairs h.pairs mask h.columns some) refl rises h.columns,
        h.stand,
        some,
        h.each ∙ sym wide,
      )

  -- no word at all
  pub named_nothing : words ≡ [] → mask ≡ 0 → PutsValues (naming_in initial) old new None
  unfolding naming_in
  named_nothing none empty =
      let few : length h.pairs ≡ 0 = sym h.each ∙ ap count_ones empty ∙ ones-ones 0 in
      (map (λ pair. pair.1) h.pairs, ap naming_of (all_read assignment h.pairs words initial none h.so_far) ∙ no_pairs h.pairs few, h.stand)
