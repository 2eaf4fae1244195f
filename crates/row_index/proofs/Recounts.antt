-- How the counts move as a row gets a child, or loses one.
use Rattle.std.proofs.Common.{◌≡◌, ◌∙◌, sym, ap, refl, inl, inr, ℕ, ◌+◌, ◌<◌, ◌≤◌, arith, cond, true, false, Bool, List, [], ◌∷◌, Option, Some, None}
use Rattle.std.specs.Prelude.{unwrap_or, IsSome}
use Rattle.std.specs.FinMap.{get, insert, remove, get-insert, get-remove}
use Rattle.std.proofs.lemmas.Bool.{cases_Bool}
use Rattle.std.proofs.lemmas.List.Sums.{sum_by-cons}
use Rattle.schema.specs.declared.RowId.{RowId}
use Rattle.schema.specs.RowId.{same_row, row_total}
use Rattle.schema.proofs.RowMaps.{row_is, same_row_itself}
use Rattle.row_index.specs.Counts.{Counts, count_at, times_in, NoneIsZero, Recounts}

-- ---- one row's count

chosen : (b : Bool) (o p : Option ℕ) → unwrap_or (cond b o p) 0 ≡ cond b (unwrap_or o 0) (unwrap_or p 0)
chosen true o p = refl
chosen false o p = refl

pub count-set : (counts : Counts) (row q : RowId) (count : ℕ) → count_at (insert counts row count) q ≡ cond (same_row q row) count (count_at counts q)
count-set counts row q count = ap (λ o. unwrap_or o 0) (get-insert row_total counts row count q) ∙ chosen (same_row q row) (Some count) (get counts q)

pub count-removed : (counts : Counts) (row q : RowId) → count_at (remove counts row) q ≡ cond (same_row q row) 0 (count_at counts q)
count-removed counts row q = ap (λ o. unwrap_or o 0) (get-remove row_total counts row q) ∙ chosen (same_row q row) None (get counts q)

-- how often one row is there
pub times-cons : (row : RowId) (rows : List RowId) (q : RowId) → times_in (row ∷ rows) q ≡ cond (same_row q row) 1 0 + times_in rows q
times-cons row rows q = sum_by-cons (λ x. cond (same_row q x) 1 0) row rows

-- where the count of one row moves by as much as it lost and got, and the others stay
moved_at : (before after : Counts) (row q : RowId) (count lost got : ℕ) → count_at after q ≡ cond (same_row q row) count (count_at before q) → count + lost ≡ count_at before row + got →
    count_at after q + cond (same_row q row) lost 0 ≡ count_at before q + cond (same_row q row) got 0
moved_at before after row q count lost got is sum =
    elim (cases_Bool (same_row q row)) [
      | inl same ↦
          let at : count_at before q ≡ count_at before row = ap (count_at before) (row_is q row same) in
          rw (is, same, at) sum
      | inr apart ↦ rw (is, apart) refl
    ]

none_or_one : (b : Bool) → ◌≡◌ {A = ℕ} (cond b 0 0) 0
none_or_one true = refl
none_or_one false = refl

pub one_lost : (before after : Counts) (row : RowId) (count : ℕ) → ((q : RowId) → count_at after q ≡ cond (same_row q row) count (count_at before q)) → count + 1 ≡ count_at before row →
    Recounts (row ∷ []) [] before after
one_lost before after row count is sum q =
    omega (arith, moved_at before after row q count 1 0 (is q) (omega arith), times-cons row [] q, none_or_one (same_row q row))

pub one_got : (before after : Counts) (row : RowId) (count : ℕ) → ((q : RowId) → count_at after q ≡ cond (same_row q row) count (count_at before q)) → count ≡ count_at before row + 1 →
    Recounts [] (row ∷ []) before after
one_got before after row count is sum q =
    omega (arith, moved_at before after row q count 0 1 (is q) (omega arith), times-cons row [] q, none_or_one (same_row q row))

-- ---- no count is 0

pub set_is_counted : (counts : Counts) (row : RowId) (count : ℕ) → ¬ (count ≡ 0) → NoneIsZero counts → NoneIsZero (insert counts row count)
set_is_counted counts row count some none q k is =
    let was = sym (get-insert row_total counts row count q) ∙ is in
    elim (cases_Bool (same_row q row)) [
      | inl same ↦
          let e : Some count ≡ Some k = rw same at was in
          let f : count ≡ k = cc in
          λ zero. some (f ∙ zero)
      | inr apart ↦ none q k (rw apart at was)
    ]

pub removed_is_counted : (counts : Counts) (row : RowId) → NoneIsZero counts → NoneIsZero (remove counts row)
removed_is_counted counts row none q k is =
    let was = sym (get-remove row_total counts row q) ∙ is in
    elim (cases_Bool (same_row q row)) [
      | inl same ↦
          let e : ◌≡◌ {A = Option ℕ} None (Some k) = rw same at was in
          cc
      | inr apart ↦ none q k (rw apart at was)
    ]

-- a row without an entry has none
pub has_entry : (counts : Counts) (row : RowId) → 0 < count_at counts row → IsSome (get counts row)
has_entry counts row some = by (get counts row) refl
  where
    by : (o : Option ℕ) → get counts row ≡ o → IsSome o
    by None is = absurd (omega (arith, some, ap (λ o. unwrap_or o 0) is))
    by (Some count) is = refl

-- ---- one after another

pub then_recounts : (old new : List RowId) (a b c : Counts) → Recounts old [] a b → Recounts [] new b c → Recounts old new a c
then_recounts old new a b c first then q = omega (arith, first q, then q)

-- a child less of those that are still to go
pub next_lost : (old rest : List RowId) (row : RowId) (a b c : Counts) → Recounts old (row ∷ rest) a b → Recounts (row ∷ []) [] b c → Recounts old rest a c
next_lost old rest row a b c so_far next q = omega (arith, so_far q, next q, times-cons row rest q, times-cons row [] q)

-- a child more of those that are still to come
pub next_got : (new rest : List RowId) (row : RowId) (a b c : Counts) → Recounts (row ∷ rest) new a b → Recounts [] (row ∷ []) b c → Recounts rest new a c
next_got new rest row a b c so_far next q = omega (arith, so_far q, next q, times-cons row rest q, times-cons row [] q)

abbrev one_if : Bool → ℕ
one_if b = cond b 1 0

once : (row : RowId) (rest : List RowId) → 1 ≤ times_in (row ∷ rest) row
once row rest = omega (arith, times-cons row rest row, ap one_if (same_row_itself row))

-- a row is counted as long as one of its children is still to go
pub is_counted : (old rest : List RowId) (row : RowId) (a b : Counts) → Recounts old (row ∷ rest) a b → times_in old row ≤ count_at a row → 0 < count_at b row
is_counted old rest row a b so_far counted = omega (arith, so_far row, counted, once row rest)

-- and its count is not the greatest as long as one is still to come
pub is_below : (new rest : List RowId) (row : RowId) (a b : Counts) (most : ℕ) → Recounts (row ∷ rest) new a b → count_at a row + times_in new row ≤ most → count_at b row < most
is_below new rest row a b most so_far fits = omega (arith, so_far row, fits, once row rest)

-- once those are gone that go, those fit that come
pub left_fits : (old new : List RowId) (a b : Counts) (most : ℕ) → Recounts old [] a b → ((row : RowId) → count_at a row + times_in new row ≤ most + times_in old row) → (row : RowId) →
    count_at b row + times_in new row ≤ most
left_fits old new a b most gone fits row = omega (arith, gone row, fits row)
