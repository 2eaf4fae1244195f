-- Records that wait.
use Rattle.std.proofs.Common.{◌≡◌, ◌∙◌, sym, ap, subst, refl, ℕ, zero, suc, ◌+◌, ◌-◌, ◌<◌, ◌≤◌, true, false, true≢false, inl, inr, List, [], ◌∷◌, ◌++◌, append_assoc, map, Some, arith}
use Rattle.std.specs.Prelude.{slice_get}
use Rattle.std.specs.List.{AllByRecursion}
use Rattle.std.proofs.lemmas.Bool.{cases_lt, false_from_ne_true}
use Rattle.std.proofs.lemmas.Option.{none-some, same_Some}
use Rattle.schema.specs.declared.Table.{Table}
use Rattle.schema.specs.Rows.{conflicts}
use Rattle.schema.specs.Covering.{Covers}
use Rattle.schema.proofs.Conflicts.{both_ways}
use Rattle.schema.proofs.Lists.{get_front}
use Rattle.record_codec.specs.declared.records.Record.{Record}
use Rattle.record_codec.specs.Group.{AreNumbered}
use Rattle.record_codec.specs.Log.{touched, place_of}
use Rattle.relay.specs.Relay.{AreAcceptable}
use Rattle.relay.proofs.Acceptable.{beginning_is_acceptable}
use Rattle.scheduler.specs.Gnos.{has_gno, IsLow}
use Rattle.gapped.specs.Gapped.{AreChosen}
use Rattle.gapped.specs.Laws.{EligibleWaits, Waits, WaitingApart, WaitingLooksAlike}
use Rattle.gapped.proofs.Choosing.{number_of, record_at_number}
use Rattle.gapped.proofs.Meeting.{alike_behind}

-- ---- the parent

-- each record before that a parent covers is numbered at most it
covered : (ts : List Table) (low : ℕ) (gnos : List ℕ) (front : List Record) (rec : Record) → IsLow gnos low → rec.parent ≤ low →
    AreAcceptable ts front →
    (before rest : List Record) → front ≡ before ++ rest → Covers (map place_of rest) (touched rec) rec.parent → AreChosen gnos rest rec
covered ts low gnos front rec is_low parent are before [] e covers = tt
covered ts low gnos front rec is_low parent are before (r ∷ rest) e covers =
    let its = are before r rest e in (
      λ meet. is_low.all r.gno (omega (arith, its.gno)) (omega (arith, its.gno, its.sequence, covers.0 meet, parent)),
      covered ts low gnos front rec is_low parent are (before ++ r ∷ []) rest (e ∙ sym (append_assoc before (r ∷ []) rest)) covers.1,
    )

pub eligible_waits : EligibleWaits
eligible_waits ts log front rest rec gnos low are split parent is_low =
    let before = beginning_is_acceptable ts front (rec ∷ rest) (subst (AreAcceptable ts) split are) in
    covered ts low gnos front rec is_low parent before [] front refl (are front rec rest split).covers

-- ---- two that wait

of_each : (P : Record → Type 0) (log : List Record) (i : ℕ) (r : Record) → AllByRecursion P log → slice_get log i ≡ Some r → P r
of_each P [] i r all at = absurd (none-some r at)
of_each P (q ∷ log) zero r all at = subst P (same_Some q r at) all.0
of_each P (q ∷ log) (suc i) r all at = of_each P log i r all.1 at

-- the earlier of two, which is not chosen, does not conflict with the later, which waits
earlier_apart : (log : List Record) (gnos : List ℕ) (one other : Record) → AreNumbered 1 log → Waits log gnos one → Waits log gnos other →
    one.gno < other.gno →
    conflicts (touched one) (touched other) ≡ false
earlier_apart log gnos one other numbered first second less =
    let here = number_of log first.front first.rest one numbered first.split in
    let there = number_of log second.front second.rest other numbered second.split in
    let at : slice_get second.front (one.gno - 1) ≡ Some one =
    sym (get_front second.front (other ∷ second.rest) (one.gno - 1) (omega (arith, here, there, less)))
    ∙ ap (λ (l : List Record). slice_get l (one.gno - 1)) (sym second.split)
    ∙ record_at_number log first.front first.rest one numbered first.split in
    false_from_ne_true (conflicts (touched one) (touched other)) (λ meet.
    true≢false (sym (of_each chosen_if second.front (one.gno - 1) one second.chosen_ at meet) ∙ first.new))
  where
    chosen_if : Record → Type 0
    chosen_if = λ (r : Record). conflicts (touched r) (touched other) ≡ true → has_gno gnos r.gno ≡ true

pub waiting_apart : WaitingApart
waiting_apart log gnos one other numbered first second apart =
    elim (cases_lt one.gno other.gno) [
      | inl less ↦ earlier_apart log gnos one other numbered first second less
      | inr behind ↦
          let more : other.gno < one.gno = omega (arith, behind, apart) in
          both_ways (touched one) (touched other) ∙ earlier_apart log gnos other one numbered second first more
    ]

pub waiting_looks_alike : WaitingLooksAlike
waiting_looks_alike ts log gnos one other db values numbered first second apart good =
    alike_behind ts one other db values good (waiting_apart log gnos one other numbered first second apart)
