-- How the counts of rows change.
use Rattle.std.proofs.Common.{◌≡◌, ◌∙◌, sym, ap, refl, ℕ, ◌+◌, ◌≤◌, arith, nat_eq, Bool, true, false, true≢false, ◌&&◌, cond, Option, Some, None, IsNone, inl, inr}
use Rattle.std.specs.Prelude.{unwrap_or}
use Rattle.std.specs.Option.{option_map_or}
use Rattle.std.specs.FinMap.{get, insert, remove, get-insert, get-remove}
use Rattle.std.proofs.lemmas.Bool.{cases_Bool, and_parts, eqb-true}
use Rattle.schema.specs.declared.RowId.{RowId}
use Rattle.schema.specs.RowId.{same_row, row_total}
use Rattle.row_locks.specs.declared.Mode.{Mode}
use Rattle.row_locks.specs.declared.Mode.TheVariants.{Share, Exclusive}
use Rattle.row_locks.specs.declared.tally.Count.{Count}
use Rattle.row_locks.specs.Mode.{weight}
use Rattle.row_locks.specs.Tally.{Counts, opposing, count_at, nobody, AllAreHeld}
use Rattle.schema.proofs.RowMaps.{row_is}

abbrev of_option : Option Count → Mode → ℕ
of_option o mode = option_map_or (λ count. opposing count mode) o 0

pub found_or_nobody : (o : Option Count) (mode : Mode) → opposing (unwrap_or o nobody) mode ≡ of_option o mode
found_or_nobody None Share = refl
found_or_nobody None Exclusive = refl
found_or_nobody (Some count) mode = refl

branch : (b : Bool) (o p : Option Count) (mode : Mode) → of_option (cond b o p) mode ≡ cond b (of_option o mode) (of_option p mode)
branch true o p mode = refl
branch false o p mode = refl

-- what a row's count was and is, where the counts of other rows stay
moved : (counts counts' : Counts) (row q : RowId) (mode : Mode) (o : Option Count) (n w w' : ℕ) → get counts' q ≡ cond (same_row q row) o (get counts q) → of_option o mode ≡ n →
    n + w ≡ count_at counts row mode + w' →
    count_at counts' q mode + cond (same_row q row) w 0 ≡ count_at counts q mode + cond (same_row q row) w' 0
moved counts counts' row q mode o n w w' is this sum =
    let now : count_at counts' q mode ≡ cond (same_row q row) (of_option o mode) (count_at counts q mode) = ap (λ p. of_option p mode) is ∙ branch (same_row q row) o (get counts q) mode in
    elim (cases_Bool (same_row q row)) [
      | inl same ↦
          let at : count_at counts q mode ≡ count_at counts row mode = ap (λ r. count_at counts r mode) (row_is q row same) in
          rw (now, same, at) (rw this sum)
      | inr apart ↦ rw (now, apart) refl
    ]

pub count-set : (counts : Counts) (row : RowId) (count : Count) (q : RowId) (mode : Mode) (w w' : ℕ) → opposing count mode + w ≡ count_at counts row mode + w' →
    count_at (insert counts row count) q mode + cond (same_row q row) w 0 ≡ count_at counts q mode + cond (same_row q row) w' 0
count-set counts row count q mode w w' sum =
    moved counts (insert counts row count) row q mode (Some count) (opposing count mode) w w' (get-insert row_total counts row count q) refl sum

pub count-removed : (counts : Counts) (row : RowId) (count : Count) (q : RowId) (mode : Mode) (w w' : ℕ) → count ≡ nobody → opposing count mode + w ≡ count_at counts row mode + w' →
    count_at (remove counts row) q mode + cond (same_row q row) w 0 ≡ count_at counts q mode + cond (same_row q row) w' 0
count-removed counts row count q mode w w' none sum =
    moved counts (remove counts row) row q mode None (opposing count mode) w w' (get-remove row_total counts row q) (zero mode ∙ ap (λ k. opposing k mode) (sym none)) sum
  where
    zero : (mode : Mode) → of_option None mode ≡ opposing nobody mode
    zero Share = refl
    zero Exclusive = refl

pub held-set : (counts : Counts) (row : RowId) (count : Count) → ¬ (count ≡ nobody) → AllAreHeld counts → AllAreHeld (insert counts row count)
held-set counts row count some held q k is =
    let was = sym (get-insert row_total counts row count q) ∙ is in
    elim (cases_Bool (same_row q row)) [
      | inl same ↦
          let e : Some count ≡ Some k = rw same at was in
          let f : count ≡ k = cc in
          λ none. some (f ∙ none)
      | inr apart ↦ held q k (rw apart at was)
    ]

pub held-removed : (counts : Counts) (row : RowId) → AllAreHeld counts → AllAreHeld (remove counts row)
held-removed counts row held q k is =
    let was = sym (get-remove row_total counts row q) ∙ is in
    elim (cases_Bool (same_row q row)) [
      | inl same ↦
          let e : ◌≡◌ {A = Option Count} None (Some k) = rw same at was in
          cc
      | inr apart ↦ held q k (rw apart at was)
    ]

-- a row that a session held has a count
pub had_count : (counts : Counts) (row : RowId) (was : Option Mode) → weight was Exclusive ≤ count_at counts row Exclusive → get counts row ≡ None → IsNone was
had_count counts row None h e = refl
had_count counts row (Some Share) h e = absurd (omega (arith, ap (λ o. of_option o Exclusive) e))
had_count counts row (Some Exclusive) h e = absurd (omega (arith, ap (λ o. of_option o Exclusive) e))

pub is_nobody : (count : Count) (b : Bool) → b ≡ (nat_eq count.holders 0 && nat_eq count.exclusive 0) → b ≡ true → count ≡ nobody
is_nobody count b is true_ =
    let parts = and_parts (nat_eq count.holders 0) (nat_eq count.exclusive 0) (sym is ∙ true_) in
    let h : count.holders ≡ 0 = eqb-true _ _ parts.0 in
    let e : count.exclusive ≡ 0 = eqb-true _ _ parts.1 in
    λ i. record { holders = h i; exclusive = e i }

pub not_nobody : (count : Count) (b : Bool) → b ≡ (nat_eq count.holders 0 && nat_eq count.exclusive 0) → b ≡ false → ¬ (count ≡ nobody)
not_nobody count b is false_ none = true≢false (sym (is ∙ ap (λ (k : Count). nat_eq k.holders 0 && nat_eq k.exclusive 0) none) ∙ false_)
