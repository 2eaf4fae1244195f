-- The laws that callers cite.
use Rattle.std.proofs.Common.{◌≡◌, ◌≢◌, ◌∙◌, sym, ap, refl, ℕ, ◌-◌, ◌<◌, ◌≤◌, arith, length, get_or, set, nat_eq, true, false, ◌&&◌, ◌||◌, ◌⊎◌, cond, Option, Some, None, [], ◌∷◌, inl, inr}
use Rattle.std.specs.List.{list_any}
use Rattle.std.specs.FinMap.{get, insert, empty, get-insert}
use Rattle.std.proofs.Math.Bool.{or-false, or_assoc}
use Rattle.std.proofs.lemmas.Bool.{cases_Bool}
use Rattle.std.proofs.lemmas.Bool.Decides.{eqb_tells}
use Rattle.std.proofs.lemmas.List.{get_or-set_same, get_or-set_other}
use Rattle.schema.specs.RowId.{same_row, row_total}
use Rattle.row_locks.specs.declared.Mode.{Mode}
use Rattle.row_locks.specs.declared.Mode.TheVariants.{Share, Exclusive}
use Rattle.row_locks.specs.Mode.{opposes, stronger}
use Rattle.row_locks.specs.Locks.{Holding, Locks, held_by, also_held}
use Rattle.row_locks.specs.Laws.{TakenByOne, ReleasedByOne, HeldAsListed, HoldersShare}
use Rattle.schema.proofs.RowMaps.{row_is}
use Rattle.row_locks.proofs.Tied.{no_other}

by_one : (locks : Locks) (session other : ℕ) (held : Holding) → 1 ≤ session → session ≤ length locks → 1 ≤ other →
    held_by (set locks (session - 1) held) other ≡ cond (nat_eq other session) held (held_by locks other)
by_one locks session other held least greatest positive =
    let within : session - 1 < length locks = omega arith in
    elim (eqb_tells other session) [
      | inl same ↦ rw same.0 (ap (λ k. get_or (set locks (session - 1) held) (k - 1) empty) same.1 ∙ get_or-set_same locks (session - 1) held empty within)
      | inr apart ↦
          let differ = apart.1 in
          let ne : other - 1 ≢ session - 1 = λ e. differ (omega (arith, e)) in
          rw apart.0 (get_or-set_other locks (session - 1) (other - 1) held empty ne)
    ]

pub taken_by_one : TakenByOne
taken_by_one locks session other rows least greatest positive = by_one locks session other (also_held (held_by locks session) rows) least greatest positive

pub released_by_one : ReleasedByOne
released_by_one locks session other least greatest positive = by_one locks session other empty least greatest positive

opposes-stronger : (was : Option Mode) (next mode : Mode) → opposes (Some (stronger was next)) mode ≡ (opposes was mode || opposes (Some next) mode)
opposes-stronger None next mode = refl
opposes-stronger (Some Share) Share Share = refl
opposes-stronger (Some Share) Share Exclusive = refl
opposes-stronger (Some Share) Exclusive Share = refl
opposes-stronger (Some Share) Exclusive Exclusive = refl
opposes-stronger (Some Exclusive) next mode = refl

pub held_as_listed : HeldAsListed
held_as_listed held [] row mode = sym (or-false (opposes (get held row) mode))
held_as_listed held (lock ∷ rest) row mode =
    let was = get held lock.0 in
    let now = insert held lock.0 (stronger was lock.1) in
    held_as_listed now rest row mode
    ∙ ap (λ b. b || list_any (λ l. same_row row l.0 && opposes (Some l.1) mode) rest) (one (cases_Bool (same_row row lock.0)))
    ∙ or_assoc (opposes (get held row) mode) (same_row row lock.0 && opposes (Some lock.1) mode) (list_any (λ l. same_row row l.0 && opposes (Some l.1) mode) rest)
  where
    one : (same_row row lock.0 ≡ true) ⊎ (same_row row lock.0 ≡ false) → opposes (get (insert held lock.0 (stronger (get held lock.0) lock.1)) row) mode
        ≡ (opposes (get held row) mode || (same_row row lock.0 && opposes (Some lock.1) mode))
    one (inl same) =
        ap (λ o. opposes o mode) (get-insert row_total held lock.0 (stronger (get held lock.0) lock.1) row ∙ ap (λ b. cond b (Some (stronger (get held lock.0) lock.1)) (get held row)) same)
        ∙ opposes-stronger (get held lock.0) lock.1 mode
        ∙ ap (λ r. opposes (get held r) mode || opposes (Some lock.1) mode) (sym (row_is row lock.0 same))
        ∙ ap (λ b. opposes (get held row) mode || (b && opposes (Some lock.1) mode)) (sym same)
    one (inr apart) =
        ap (λ o. opposes o mode) (get-insert row_total held lock.0 (stronger (get held lock.0) lock.1) row ∙ ap (λ b. cond b (Some (stronger (get held lock.0) lock.1)) (get held row)) apart)
        ∙ sym (or-false (opposes (get held row) mode))
        ∙ ap (λ b. opposes (get held row) mode || (b && opposes (Some lock.1) mode)) (sym apart)

both_share : (a b : Mode) → opposes (Some b) a ≡ false → (a ≡ Share) × (b ≡ Share)
both_share Share Share h = (refl, refl)
both_share Share Exclusive h = cc
both_share Exclusive Share h = cc
both_share Exclusive Exclusive h = cc

pub holders_share : HoldersShare
holders_share locks none session other row mode mode' least least' apart here there =
    let ne : other - 1 ≢ session - 1 = λ e. apart (omega (arith, e)) in
    both_share mode mode' (ap (λ o. opposes o mode) (sym there) ∙ no_other row mode locks (session - 1) (other - 1) ne (none session row mode here))
