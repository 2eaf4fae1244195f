-- What ties the counts of rows to what the sessions hold, and that no two sessions clash.
use Rattle.std.proofs.Common.{◌≡◌, ◌≢◌, ◌∙◌, sym, ap, refl, ℕ, suc, ◌+◌, ◌-◌, ◌*◌, ◌<◌, ◌≤◌, arith, length, get_or, set, replicate, nat_lt, Bool, true, false, true≢false, ◌||◌, cond, Option, Some}
use Rattle.std.proofs.Common.{None, List, [], ◌∷◌, ◌⊎◌, inl, inr}
use Rattle.std.specs.List.{list_any, count_by}
use Rattle.std.specs.FinMap.{get, insert, empty, get-empty, get-insert}
use Rattle.std.proofs.lemmas.Bool.{cases_Bool, or_parts}
use Rattle.std.proofs.lemmas.Bool.Decides.{leb_tells, eqb_tells}
use Rattle.std.proofs.lemmas.List.{get_or-set_same, get_or-set_other, get_or-replicate, length-replicate, get_or_past}
use Rattle.std.proofs.Math.ListN.{length-set}
use Rattle.std.proofs.lemmas.List.Elements.{All-from_get_or}
use Rattle.std.proofs.lemmas.List.Folds.{list_any_none, list_any_at, sum_by-replicate}
use Rattle.std.proofs.lemmas.List.Sums.{sum_by-set, sum_by-append, count_by-le-length}
use Rattle.schema.specs.declared.RowId.{RowId}
use Rattle.schema.specs.RowId.{row_cmp, same_row, row_total}
use Rattle.row_locks.specs.declared.Mode.{Mode}
use Rattle.row_locks.specs.declared.Mode.TheVariants.{Share, Exclusive}
use Rattle.row_locks.specs.Mode.{opposes, weight, stronger}
use Rattle.row_locks.specs.Locks.{Holding, Locks, no_locks, held_by, released, clashes_with, any_clashes, also_held, taken, NoClash}
use Rattle.std.specs.Option.{option_map_or}
use Rattle.row_locks.specs.Tally.{Counts, count_at, opposing}
use Rattle.row_locks.specs.Tied.{IsTied, IsCounted, MovesAlike}
use Rattle.row_locks.specs.Laws.{NothingHeld}
use Rattle.schema.proofs.RowMaps.{row_is}

-- ---- counting over plain lists

ltb_tells : (a b : ℕ) → ((nat_lt a b ≡ true) × (a < b)) ⊎ ((nat_lt a b ≡ false) × (b ≤ a))
ltb_tells a b = elim (leb_tells (suc a) b) [ inl h ↦ inl (h.0, omega (arith, h.1)) | inr h ↦ inr (h.0, omega (arith, h.1)) ]

pub none_below : (n : ℕ) → nat_lt n 0 ≡ false
none_below n = elim (ltb_tells n 0) [ inl h ↦ absurd (omega (arith, h.1)) | inr h ↦ h.0 ]

with_first : (first rest : Bool) (n m : ℕ) → rest ≡ nat_lt 0 n → m ≡ 0 + cond first 1 0 + n → (first || rest) ≡ nat_lt 0 m
with_first true rest n m h e = elim (ltb_tells 0 m) [ inl some ↦ sym some.0 | inr none ↦ absurd (omega (arith, none.1, e)) ]
with_first false rest n m h e = let f : n ≡ m = omega (arith, e) in h ∙ ap (nat_lt 0) f

-- a test that some element passes is passed by one element at least
any_counts : {X : Type 0} (p : X → Bool) (xs : List X) → list_any p xs ≡ nat_lt 0 (count_by p xs)
any_counts p [] = refl
any_counts p (x ∷ xs) = with_first (p x) (list_any p xs) (count_by p xs) (count_by p (x ∷ xs)) (any_counts p xs) (sum_by-append (λ y. cond (p y) 1 0) (x ∷ []) xs)

-- some element besides one passes the test where more than that one do
pub more_than_own : (own others all : ℕ) → others + own ≡ all → nat_lt own all ≡ nat_lt 0 others
more_than_own own others all e =
    elim (ltb_tells own all) [
      | inl more ↦ elim (ltb_tells 0 others) [ inl some ↦ more.0 ∙ sym some.0 | inr none ↦ absurd (omega (arith, more.1, none.1)) ]
      | inr less ↦ elim (ltb_tells 0 others) [ inl some ↦ absurd (omega (arith, less.1, some.1)) | inr none ↦ less.0 ∙ sym none.0 ]
    ]

module _ (row : RowId) (mode : Mode) where
  abbrev clashing : Holding → Bool
  clashing held = opposes (get held row) mode

  pub nothing_clashes : clashing empty ≡ false
  nothing_clashes = ap (λ o. opposes o mode) (get-empty row_cmp row)

  -- the sessions that clash are the others that do, and perhaps this one
  others_and_own : (locks : Locks) (i : ℕ) → i < length locks → count_by clashing (set locks i empty) + weight (get (get_or locks i empty) row) mode ≡ count_by clashing locks
  others_and_own locks i within =
      let sums = sum_by-set (λ (held : Holding). cond (clashing held) 1 0) locks i empty empty within in
      let none : cond (clashing empty) 1 0 ≡ 0 = ap (λ b. cond b 1 0) nothing_clashes in
      sums ∙ ap (λ n. count_by clashing locks + n) none ∙ plus_none _
    where
      plus_none : (n : ℕ) → n + 0 ≡ n
      plus_none n = omega arith

  -- where no other session clashes, one at another place does not
  pub no_other : (locks : Locks) (i j : ℕ) → j ≢ i → list_any clashing (set locks i empty) ≡ false → clashing (get_or locks j empty) ≡ false
  no_other locks i j apart clear =
      let here : get_or (set locks i empty) j empty ≡ get_or locks j empty = get_or-set_other locks i j empty empty apart in
      elim (ltb_tells j (length (set locks i empty))) [
        | inl within ↦ elim (cases_Bool (clashing (get_or locks j empty))) [
          | inl clash ↦ absurd (true≢false (sym (list_any_at clashing (set locks i empty) j empty within.1 (ap clashing here ∙ clash)) ∙ clear))
          | inr none ↦ none
        ]
        | inr past ↦ ap clashing (sym here ∙ get_or_past (set locks i empty) j empty past.1) ∙ nothing_clashes
      ]

  pub no_others : (locks : Locks) (i : ℕ) → ((j : ℕ) → j ≢ i → clashing (get_or locks j empty) ≡ false) → list_any clashing (set locks i empty) ≡ false
  no_others locks i clear =
      list_any_none clashing (set locks i empty) (All-from_get_or (λ held. clashing held ≡ false) (set locks i empty) empty (λ j within.
      elim (eqb_tells j i) [
        | inl same ↦
            let at : i < length locks = omega (arith, same.1, length-set locks i empty) in
            ap clashing (ap (λ k. get_or (set locks i empty) k empty) same.1 ∙ get_or-set_same locks i empty empty at) ∙ nothing_clashes
        | inr apart ↦ ap clashing (get_or-set_other locks i j empty empty apart.1) ∙ clear j apart.1
      ]))

-- two locks clash whichever of the two is looked at
opposes_both_ways : (a b : Mode) → opposes (Some a) b ≡ opposes (Some b) a
opposes_both_ways Share Share = refl
opposes_both_ways Share Exclusive = refl
opposes_both_ways Exclusive Share = refl
opposes_both_ways Exclusive Exclusive = refl

-- what a session holds may be replaced by what clashes with no other session
no_clash-set : (locks : Locks) (i : ℕ) (held : Holding) → i < length locks → NoClash locks →
    ((row : RowId) (mode : Mode) → get held row ≡ Some mode → list_any (λ other. opposes (get other row) mode) (set locks i empty) ≡ false) → NoClash (set locks i held)
no_clash-set locks i held within was clear session row mode is =
    no_others row mode (set locks i held) (session - 1) (λ j apart. elim (eqb_tells (session - 1) i) [
      | inl this ↦
          let here : get held row ≡ Some mode = ap (λ h. get h row) (sym (ap (λ k. get_or (set locks i held) k empty) this.1 ∙ get_or-set_same locks i held empty within)) ∙ is in
          let other : j ≢ i = λ e. apart (e ∙ sym this.1) in
          ap (λ h. opposes (get h row) mode) (get_or-set_other locks i j held empty other) ∙ no_other row mode locks i j other (clear row mode here)
      | inr other ↦
          let there : get (get_or locks (session - 1) empty) row ≡ Some mode = ap (λ h. get h row) (sym (get_or-set_other locks i (session - 1) held empty other.1)) ∙ is in
          elim (eqb_tells j i) [
            | inl mine ↦
                ap (λ h. opposes (get h row) mode) (ap (λ k. get_or (set locks i held) k empty) mine.1 ∙ get_or-set_same locks i held empty within)
                ∙ none_of (get held row) refl there other.1
            | inr third ↦
                ap (λ h. opposes (get h row) mode) (get_or-set_other locks i j held empty third.1)
                ∙ no_other row mode locks (session - 1) j apart (was session row mode there)
          ]
    ])
  where
    none_of : (o : Option Mode) → get held row ≡ o → get (get_or locks (session - 1) empty) row ≡ Some mode → session - 1 ≢ i → opposes o mode ≡ false
    none_of None e there other = refl
    none_of (Some m) e there other =
        opposes_both_ways m mode ∙ ap (λ o. opposes o m) (sym there) ∙ no_other row m locks i (session - 1) other (clear row m e)

-- ---- the table

place_within : (locks : Locks) (counts : Counts) (session : ℕ) → 1 ≤ session → session ≤ 256 → IsTied locks counts → session - 1 < length locks
place_within locks counts session least greatest tied = omega (arith, tied.places)

module _ (locks : Locks) (counts : Counts) (session : ℕ) (least : 1 ≤ session) (greatest : session ≤ 256) (tied : IsTied locks counts) where
  within : session - 1 < length locks
  within = place_within locks counts session least greatest tied

  pub counted_own : IsCounted (held_by locks session) counts
  counted_own = record {
    least = λ row mode. le _ _ _ (others_and_own row mode locks (session - 1) within) (tied.counted row mode);
    greatest = λ row mode. ge _ _ _ (count_by-le-length (clashing row mode) locks) tied.places (tied.counted row mode);
  }
    where
      le : (others own all : ℕ) {n : ℕ} → others + own ≡ all → n ≡ all → own ≤ n
      le others own all e f = omega arith

      ge : (all own n : ℕ) {l : ℕ} → all ≤ l → l ≡ 256 → n ≡ all → n ≤ own + 256
      ge all own n h e f = omega arith

  -- the answer of `clashes`
  pub clashes_exactly : (row : RowId) (mode : Mode) → nat_lt (weight (get (held_by locks session) row) mode) (count_at counts row mode) ≡ clashes_with locks session row mode
  clashes_exactly row mode =
      more_than_own _ _ _ (others_and_own row mode locks (session - 1) within ∙ sym (tied.counted row mode))
      ∙ sym (any_counts (clashing row mode) (released locks session))

  -- one session's place and the counts changed together
  pub tied-set : (held : Holding) (counts' : Counts) → MovesAlike (held_by locks session) counts held counts' →
      ((row : RowId) (mode : Mode) → get held row ≡ Some mode → clashes_with locks session row mode ≡ false) → IsTied (set locks (session - 1) held) counts'
  tied-set held counts' moves clear = record {
    places = length-set locks (session - 1) held ∙ tied.places;
    no_clash = no_clash-set locks (session - 1) held within tied.no_clash clear;
    counted = λ row mode. sums _ _ _ _ _ _ (moves row mode) (tied.counted row mode) (sum_by-set (λ (h : Holding). cond (clashing row mode h) 1 0) locks (session - 1) held empty within);
  }
    where
      sums : (n n' w w' s s' : ℕ) → n' + w ≡ n + w' → n ≡ s → s' + w ≡ s + w' → n' ≡ s'
      sums n n' w w' s s' e f g = omega arith

  pub tied-released : (counts' : Counts) → MovesAlike (held_by locks session) counts empty counts' → IsTied (released locks session) counts'
  tied-released counts' moves = tied-set empty counts' moves (λ row mode is.
      let none : ◌≡◌ {A = Option Mode} None (Some mode) = sym (get-empty row_cmp row) ∙ is in
      cc)

-- what a session also holds clashes with none where its locks and those of the list do not
all_clear : (p : RowId → Mode → Bool) (held : Holding) (locks : List (RowId × Mode)) → ((row : RowId) (mode : Mode) → get held row ≡ Some mode → p row mode ≡ false) →
    list_any (λ lock. p lock.0 lock.1) locks ≡ false →
    (row : RowId) (mode : Mode) → get (also_held held locks) row ≡ Some mode → p row mode ≡ false
all_clear p held [] own none = own
all_clear p held (lock ∷ rest) own none =
    all_clear p (insert held lock.0 (stronger (get held lock.0) lock.1)) rest (with_one (or_parts (p lock.0 lock.1) (list_any (λ l. p l.0 l.1) rest) none).0)
    (or_parts (p lock.0 lock.1) (list_any (λ l. p l.0 l.1) rest) none).1
  where
    strong : (was : Option Mode) → get held lock.0 ≡ was → p lock.0 lock.1 ≡ false → p lock.0 (stronger was lock.1) ≡ false
    strong None e this = this
    strong (Some Share) e this = this
    strong (Some Exclusive) e this = own lock.0 Exclusive e

    with_one : p lock.0 lock.1 ≡ false → (row : RowId) (mode : Mode) → get (insert held lock.0 (stronger (get held lock.0) lock.1)) row ≡ Some mode → p row mode ≡ false
    with_one this row mode is =
        let was = sym (get-insert row_total held lock.0 (stronger (get held lock.0) lock.1) row) ∙ is in
        elim (cases_Bool (same_row row lock.0)) [
          | inl same ↦
              let e : Some (stronger (get held lock.0) lock.1) ≡ Some mode = rw same at was in
              let f : stronger (get held lock.0) lock.1 ≡ mode = cc in
              ap (λ m. p row m) (sym f) ∙ ap (λ r. p r (stronger (get held lock.0) lock.1)) (row_is row lock.0 same) ∙ strong (get held lock.0) refl this
          | inr apart ↦ own row mode (rw apart at was)
        ]

pub tied-taken : (locks : Locks) (counts counts' : Counts) (session : ℕ) (rows : List (RowId × Mode)) → 1 ≤ session → session ≤ 256 → IsTied locks counts → any_clashes locks session rows ≡ false →
    MovesAlike (held_by locks session) counts (also_held (held_by locks session) rows) counts' → IsTied (taken locks session rows) counts'
tied-taken locks counts counts' session rows least greatest tied clear moves =
    tied-set locks counts session least greatest tied (also_held (held_by locks session) rows) counts' moves
    (all_clear (clashes_with locks session) (held_by locks session) rows (tied.no_clash session) clear)

-- a table in which no session holds a row
nothing_at : (n i : ℕ) → get_or (replicate n (empty {X = Mode} {R = row_cmp})) i empty ≡ empty
nothing_at n i = elim (ltb_tells i n) [
  | inl within ↦ get_or-replicate n i empty empty within.1
  | inr past ↦ get_or_past (replicate n empty) i empty (omega (arith, past.1, length-replicate n (empty {X = Mode} {R = row_cmp})))
]

times_none : (n : ℕ) → n * 0 ≡ 0
times_none n = omega arith

pub none_counted : (row : RowId) (mode : Mode) → count_at empty row mode ≡ 0
none_counted row mode = ap (λ o. option_map_or (λ count. opposing count mode) o 0) (get-empty row_cmp row)

pub none_at : (i : ℕ) → get_or no_locks i empty ≡ empty
unfolding no_locks
none_at i = nothing_at 256 i

pub nothing_held : NothingHeld
unfolding no_locks
nothing_held = (length-replicate 256 (empty {X = Mode} {R = row_cmp}), λ session. nothing_at 256 (session - 1))

pub tied-none : IsTied no_locks empty
unfolding no_locks
tied-none = none_of 256 refl
  where
    none_of : (n : ℕ) → n ≡ 256 → IsTied (replicate n empty) empty
    none_of n is = record {
      places = length-replicate n empty ∙ is;
      no_clash = λ session row mode there.
          let none : ◌≡◌ {A = Option Mode} None (Some mode) = sym (ap (λ h. get h row) (nothing_at n (session - 1)) ∙ get-empty row_cmp row) ∙ there in
          cc;
      counted = λ row mode.
          let mine : count_by (clashing row mode) (replicate n empty) ≡ n * cond (clashing row mode empty) 1 0 = sum_by-replicate (λ (h : Holding). cond (clashing row mode h) 1 0) n empty in
          let zero_each : cond (clashing row mode empty) 1 0 ≡ 0 = ap (λ b. cond b 1 0) (nothing_clashes row mode) in
          none_counted row mode ∙ sym (mine ∙ ap (λ k. n * k) zero_each ∙ times_none n);
    }
