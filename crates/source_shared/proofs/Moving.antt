-- Each step on the history keeps its rule.
use Rattle.std.proofs.Common.{◌≡◌, ◌≢◌, ℕ, ◌<◌, ◌==◌, true, false, List, [], ◌∷◌, ◌++◌, length, set, refl, ap, sym, subst, ◌∙◌, arith, inl, Option, Some, slice_get, length-append}
use Rattle.std.specs.Bool.{OnTrue}
use Rattle.std.proofs.lemmas.List.{append-nil, length-set}
use mathlib.Core.List.{IsPrefix}
use prog.Atomic.{either}
use Rattle.source_core.specs.declared.transaction.Receipt.{Receipt}
use Rattle.logbook.specs.Pages.{Cell, cell, keeps, gives, adds, Nib, may_write, step, Moves, Goes}
use Rattle.source_shared.specs.Book.{Part, receipts_in, turn_of, begun_word, ArePast, IsLedger, IsTurn, IsNotPast, Reserves, Begins, Adds, Checks}
use Rattle.source_shared.proofs.Turns.{home_set, home_more, home_now, first_set, first_more, first_other, past_still, past_more, not_past, whole, prefix_trans, prefix_receipts, prefix_get, turn-snoc}

abbrev shown : List Part → List Part
shown log = []

abbrev moved : List Part → List Part → ℕ → Type 0
moved xs ys n = Unit {0}

-- an exchange of 1 for 1 leaves the word
same_word : (log : List Part) (n : ℕ) → n ≡ begun_word log → either (n == 1) 1 n ≡ begun_word log
same_word [] n is = rw is refl
same_word (part ∷ parts) n is = rw is refl

-- the cells once the word is written
written : (cs : List Cell) (log : List Part) (n : ℕ) → IsLedger cs log → ArePast (set cs 0 (n, true)) log
written cs log n kept = past_still cs (set cs 0 (n, true)) (λ k h. home_set cs 0 n k h) log kept.past

-- and where that is what it was
left_alone : (cs : List Cell) (log : List Part) → IsLedger cs log → IsLedger (set cs 0 (either ((cell cs 0).0 == 1) 1 (cell cs 0).0, true)) (log ++ [])
left_alone cs log kept =
    let f : ℕ → ℕ = λ n. either (n == 1) 1 n in
    let n = same_word log (cell cs 0).0 (ap (λ (c : Cell). c.0) kept.word) in
    rw (append-nil log) (
    record {
      some = omega (arith, length-set cs 0 (f (cell cs 0).0, true), kept.some);
      word = first_set cs (f (cell cs 0).0, true) kept.some ∙ ap (λ (m : ℕ). (m, true)) n;
      past = written cs log (f (cell cs 0).0) kept;
    }
    )

-- a step that makes a cell keeps the rule, and gives the right to make its word
pub reserves_moves : (v : List Part) (nib : Nib) (state : Option ℕ) (ask : Part)
    → Moves IsLedger shown moved 0 (v, (nib, state)) (λ n. either (n == 1) 1 n) (Reserves (step 0 1 1 ask) (v, (nib, state)))
reserves_moves v nib state ask cs log kept pre away =
    let same = left_alone cs log kept in
    let ds = set cs 0 (either ((cell cs 0).0 == 1) 1 (cell cs 0).0, true) in
    let more : List Cell = (0, false) ∷ [] in (
      kept.some,
      ap (λ (c : Cell). c.1) kept.word,
      (
        adds,
        [],
        state,
        tt,
        record {
          some = omega (arith, length-append ds more, same.some);
          word = first_more ds more same.some ∙ same.word;
          past = past_still ds (ds ++ more) (λ k h. home_more ds more k h) (log ++ []) same.past;
        },
        inl (refl, refl),
        refl,
      ),
    )

-- a step that changes nothing keeps the rule, and tells that the cell of a pen to write was not brought home
pub checks_moves : (v : List Part) (nib : Nib) (state : Option ℕ) (ask : Part) → nib.right ≡ may_write
    → Moves IsLedger shown moved 0 (v, (nib, state)) (λ n. either (n == 1) 1 n) (Checks (step 0 1 1 ask) (v, (nib, state)))
checks_moves v nib state ask right cs log kept pre away = (
  kept.some,
  ap (λ (c : Cell). c.1) kept.word,
  (keeps, [], state, tt, left_alone cs log kept, inl (refl, refl), (refl, rw (append-nil log) (not_past cs nib.key (away right).1 log kept.past))),
)

begins_goes : (log v : List Part) (nib : Nib) (state : Option ℕ) (ask : Part) (cs : List Cell) → IsLedger cs log
    → Goes IsLedger shown moved 0 (v, (nib, state)) (λ n. either (n == 0) 1 n) (Begins (step 0 0 1 ask) (v, (nib, state))) cs log
begins_goes [] v nib state ask cs kept =
    let n : (cell cs 0).0 ≡ 0 = ap (λ (c : Cell). c.0) kept.word in
    let f : ℕ → ℕ = λ n. either (n == 0) 1 n in (
      keeps,
      ask ∷ [],
      state,
      tt,
      record {
        some = omega (arith, length-set cs 0 (f (cell cs 0).0, true), kept.some);
        word = first_set cs (f (cell cs 0).0, true) kept.some ∙ ap (λ (m : ℕ). (f m, true)) n;
        past = tt;
      },
      inl (refl, refl),
      subst (λ (m : ℕ). OnTrue (m == 0) (ask ∷ [] ≡ ask ∷ [])) (sym n) refl,
    )
begins_goes (part ∷ parts) v nib state ask cs kept =
    let n : (cell cs 0).0 ≡ 1 = ap (λ (c : Cell). c.0) kept.word in
    let f : ℕ → ℕ = λ n. either (n == 0) 1 n in
    let all : (part ∷ parts) ++ [] ≡ part ∷ parts = append-nil (part ∷ parts) in (
      keeps,
      [],
      state,
      tt,
      record {
        some = omega (arith, length-set cs 0 (f (cell cs 0).0, true), kept.some);
        word = first_set cs (f (cell cs 0).0, true) kept.some ∙ ap (λ (m : ℕ). (f m, true)) n;
        past = subst (ArePast (set cs 0 (f (cell cs 0).0, true))) (sym all) (written cs (part ∷ parts) (f (cell cs 0).0) kept);
      },
      inl (refl, refl),
      subst (λ (m : ℕ). OnTrue (m == 0) ((part ∷ parts) ++ [] ≡ ask ∷ [])) (sym n) tt,
    )

-- a step that begins keeps the rule, and is the first entry where the one word was 0
pub begins_moves : (v : List Part) (nib : Nib) (state : Option ℕ) (ask : Part)
    → Moves IsLedger shown moved 0 (v, (nib, state)) (λ n. either (n == 0) 1 n) (Begins (step 0 0 1 ask) (v, (nib, state)))
begins_moves v nib state ask cs log kept pre away = (kept.some, ap (λ (c : Cell). c.1) kept.word, begins_goes log v nib state ask cs kept)

-- a longer history has begun
begun-more : (log : List Part) (ask : Part) → 0 < length log → begun_word (log ++ ask ∷ []) ≡ begun_word log
begun-more [] ask some = absurd (omega arith)
begun-more (part ∷ parts) ask some = refl

-- a step that adds, by the pen of the last entry's cell, keeps the rule, and goes behind all that had been seen
pub adds_moves : (v : List Part) (nib : Nib) (state : Option ℕ) (ask : Part) → IsTurn nib v
    → Moves IsLedger shown moved 0 (v, (nib, state)) (λ n. either (n == 1) 1 n) (Adds (step 0 1 1 ask) (v, (nib, state)))
adds_moves v nib state ask turn cs log kept pre away =
    let there = away turn.right in
    let f : ℕ → ℕ = λ n. either (n == 1) 1 n in
    let same : v ≡ log = whole v log pre turn.some (subst (λ (k : ℕ). IsNotPast k log) turn.key (not_past cs nib.key there.1 log kept.past)) in
    let ds : List Cell = set cs 0 (f (cell cs 0).0, true) in
    let n = same_word log (cell cs 0).0 (ap (λ (c : Cell). c.0) kept.word) in
    let first : cell ds 0 ≡ (begun_word log, true) = first_set cs (f (cell cs 0).0, true) kept.some ∙ ap (λ (m : ℕ). (m, true)) n in
    let other : nib.key ≢ 0 = λ zero_is. cc (there.1, kept.word, zero_is) in
    let size = length-set cs 0 (f (cell cs 0).0, true) in
    let es : List Cell = set ds nib.key (nib.value, true) in
    let home : (cell es (turn_of log)).1 ≡ true =
    subst (λ (k : ℕ). (cell es k).1 ≡ true) (turn.key ∙ ap turn_of same) (home_now ds nib.key nib.value (omega (arith, there.0, size))) in (
      kept.some,
      ap (λ (c : Cell). c.1) kept.word,
      (
        gives,
        ask ∷ [],
        state,
        turn.right,
        record {
          some = omega (arith, length-set ds nib.key (nib.value, true), size, kept.some);
          word = first_other ds nib.key (nib.value, true) other ∙ first ∙ ap (λ (m : ℕ). (m, true)) (sym (begun-more log ask (rw (sym same) turn.some)));
          past = past_more es log ask home (past_still ds es (λ k h. home_set ds nib.key nib.value k h) log (written cs log (f (cell cs 0).0) kept));
        },
        inl (refl, refl),
        ap (λ (l : List Part). l ++ ask ∷ []) (sym same),
      ),
    )

-- once the entry is added, its cell's pen is the next turn
pub next_turn : (v w : List Part) (ask : Part) (nib : Nib) (receipts : List Receipt) → nib.right ≡ may_write → ask ≡ (nib.key, receipts) → w ≡ v ++ ask ∷ [] → IsTurn nib w
next_turn v w ask nib receipts right asked is =
    rw is (
    record {
      right = right;
      key = sym (turn-snoc v ask ∙ ap (λ (p : Part). p.0) asked);
      some = omega (arith, length-append v (ask ∷ []));
    }
    )

-- a receipt is one of the whole history, which the one has seen who has the turn
pub found : (own all w told : List Part) (nib : Nib) (k : ℕ) (x : Receipt) → IsTurn nib own → IsPrefix own all → IsPrefix told all → IsPrefix all w → IsNotPast nib.key w
    → slice_get (receipts_in told) k ≡ Some x → slice_get (receipts_in own) k ≡ Some x
found own all w told nib k x turn mine its later away there =
    let same : own ≡ w = whole own w (prefix_trans own all w mine later) turn.some (subst (λ (n : ℕ). IsNotPast n w) turn.key away) in
    rw same (prefix_get (receipts_in told) (receipts_in w) k x (prefix_receipts told w (prefix_trans told all w its later)) there)
