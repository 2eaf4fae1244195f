-- Where there are no gaps the commits are those from 1 to their number, in whichever order, and leave the first so many records.
use Rattle.std.proofs.Common.{◌≡◌, ◌∙◌, sym, ap, subst, ℕ, ◌<◌, ◌≤◌, true, inl, inr, leb, List, [], ◌∷◌, ◌++◌, length, length-append, Some, Option, IfSome, arith}
use Rattle.std.proofs.lemmas.Bool.{cases_lt, and_from, and_parts, and_right, le-leb, lt-leb, leb-true, false_from_ne_true}
use Rattle.schema.specs.declared.Table.{Table}
use Rattle.rows.specs.Database.{Database}
use Rattle.store_trait.specs.Fits.{Fits, RowsStand}
use Rattle.store_trait.specs.Operation.{loaded}
use Rattle.store_trait.proofs.Values.{standing_fits, fits_stand}
use Rattle.record_codec.specs.declared.records.Record.{Record}
use Rattle.record_codec.specs.Log.{after}
use Rattle.scheduler.specs.Gnos.{has_gno, low_of, first_gnos, AreDistinct}
use Rattle.scheduler.proofs.Gnos.{has_gno_cases, only_one, all_by_has, AreDistinct-push, AreDistinct-first_gnos, AreDistinct_front, has_first, length-first_gnos, below_low, are_fewer}
use Rattle.gapped.proofs.Choosing.{each_number, chosen_alike, first_are_chosen}
use Rattle.replica_core.specs.Replica.{Replica, working_rows, rows_at}
use Rattle.replica_core.specs.Sound.{IsSound}
use Rattle.replica_core.proofs.Showing.{sound_stands, numbered_of, rows_apart}
use Rattle.promotion.specs.Promotion.{HasNoGaps, FitsBehind}

-- distinct numbers whose low-water mark is how many they are
module _ (gnos : List ℕ) (distinct : AreDistinct gnos) (full : low_of gnos ≡ length gnos) where
  among : (gno n : ℕ) → has_gno (first_gnos (length gnos) ++ gno ∷ []) n ≡ true → has_gno gnos gno ≡ true → has_gno gnos n ≡ true
  among gno n is there = elim (has_gno_cases (first_gnos (length gnos)) (gno ∷ []) n is) [
    | inl first ↦
        let both = and_parts (leb 1 n) (leb n (length gnos)) (sym (has_first (length gnos) n) ∙ first) in
        below_low gnos n (leb-true 1 n both.0) (omega (arith, leb-true n (length gnos) both.1, full))
    | inr last ↦ ap (has_gno gnos) (sym (only_one gno n last)) ∙ there
  ]

  none_above : (gno : ℕ) → length gnos < gno → has_gno gnos gno ≡ true → ⊥
  none_above gno above there =
      let first = first_gnos (length gnos) in
      let lacks = has_first (length gnos) gno ∙ and_right (leb 1 gno) (leb gno (length gnos)) (lt-leb gno (length gnos) above) in
      let more = AreDistinct-push first gno (AreDistinct-first_gnos (length gnos)) lacks in
      let few = are_fewer (first ++ gno ∷ []) gnos more (all_by_has (λ (n : ℕ). has_gno gnos n ≡ true) (first ++ gno ∷ []) (λ n is. among gno n is there)) in
      absurd (omega (arith, few, length-append first (gno ∷ []), length-first_gnos (length gnos)))

  -- are those from 1 to that
  just_first : (gno : ℕ) → 1 ≤ gno → has_gno gnos gno ≡ has_gno (first_gnos (length gnos)) gno
  just_first gno from_one = elim (cases_lt (length gnos) gno) [
    | inl above ↦
        false_from_ne_true (has_gno gnos gno) (none_above gno above)
        ∙ sym (has_first (length gnos) gno ∙ and_right (leb 1 gno) (leb gno (length gnos)) (lt-leb gno (length gnos) above))
    | inr within ↦
        below_low gnos gno from_one (omega (arith, within, full))
        ∙ sym (has_first (length gnos) gno ∙ and_from (leb 1 gno) (leb gno (length gnos)) (le-leb 1 gno from_one) (le-leb gno (length gnos) within))
  ]

-- the working rows of a replica without gaps are those behind its commits
pub rows_behind : (r : Replica) → IsSound r → HasNoGaps r → working_rows r ≡ rows_at r (length r.commits)
rows_behind r sound full =
    let gnos = r.commits in
    let numbered = numbered_of r.tables r.accepted sound.accepted in
    let distinct = AreDistinct_front gnos _ sound.distinct in
    let alike = each_number (λ (rec : Record). has_gno gnos rec.gno ≡ has_gno (first_gnos (length gnos)) rec.gno) 1 r.accepted numbered
    (λ rec low high. just_first gnos distinct full rec.gno low) in
    ap (after r.tables (loaded r.base)) (chosen_alike gnos (first_gnos (length gnos)) r.accepted alike ∙ first_are_chosen r.accepted (length gnos) numbered)

module _ (r : Replica) {rows : Database} (sound : IsSound r) (full : HasNoGaps r) (are : working_rows r ≡ Some rows) where
  pub behind_is : Some rows ≡ rows_at r (length r.commits)
  behind_is = sym are ∙ rows_behind r sound full

  -- rows that stand fit
  pub fit_behind : {ts : List Table} → ts ≡ r.tables → RowsStand ts rows → FitsBehind r
  fit_behind same stand =
      let fit = standing_fits r.tables rows (subst (λ (ts : List Table). RowsStand ts rows) same stand) (rows_apart r rows (sound_stands r sound) are) in
      subst (λ (found : Option Database). IfSome found (Fits r.tables)) behind_is fit

  -- they fit, under a copy of the tables
  pub fit_now : {ts : List Table} → ts ≡ r.tables → FitsBehind r → Fits ts rows
  fit_now same fit = subst (λ (ts : List Table). Fits ts rows) (sym same) (subst (λ (found : Option Database). IfSome found (Fits r.tables)) (sym behind_is) fit)

  -- rows that don't stand don't fit
  pub misfit_behind : {ts : List Table} → ts ≡ r.tables → ¬ RowsStand ts rows → ¬ FitsBehind r
  misfit_behind same unfit = λ fit. unfit (fits_stand _ rows (fit_now same fit))
