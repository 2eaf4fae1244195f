-- What readers saw leads on to the rows behind the commits.
use Rattle.std.proofs.Common.{◌≡◌, ◌∙◌, sym, ap, ℕ, List, length, take, drop, Some}
use Rattle.std.specs.Prelude.{option_and_then}
use Rattle.std.proofs.lemmas.List.{take-take, take-append-drop}
use Rattle.schema.specs.declared.Table.{Table}
use Rattle.rows.specs.Database.{Database}
use Rattle.store_trait.specs.Operation.{loaded}
use Rattle.record_codec.specs.declared.records.Record.{Record}
use Rattle.record_codec.specs.Log.{after}
use Rattle.record_codec.proofs.Logs.{after-append}
use Rattle.gapped.proofs.Choosing.{records_at_take}
use Rattle.replica_core.specs.Replica.{ran}
use Rattle.replica_core.proofs.Showing.{sound_stands, state_at, state_now, commits_within}
use Rattle.promotion.specs.Laws.{SeenLeadsOn, GappedLeadsOn}
use Rattle.promotion.proofs.Behind.{rows_behind}

-- what some records leave, and what the others leave of that
leads_on : (ts : List Table) (base rows : Database) (log : List Record) (n : ℕ) → after ts base (take n log) ≡ Some rows → after ts rows (drop n log) ≡ after ts base log
leads_on ts base rows log n are =
    let more = option_and_then (λ (db : Database). after ts db (drop n log)) in
    sym (ap (after ts base) (sym (take-append-drop n log)) ∙ after-append ts base (take n log) (drop n log) ∙ ap more are)

pub seen_leads_on : SeenLeadsOn
seen_leads_on r seen rows few are =
    let first = take-take seen (length r.commits) r.accepted few in
    leads_on r.tables (loaded r.base) rows (take (length r.commits) r.accepted) seen (ap (after r.tables (loaded r.base)) first ∙ are)

pub gapped_leads_on : GappedLeadsOn
gapped_leads_on r seen rows sound full few are =
    let stands = sound_stands r sound in
    let base = loaded r.base in
    let then = state_at r seen stands in
    let now = state_now r stands in
    let first = sym (records_at_take r.accepted r.commits seen (commits_within r stands)) in
    leads_on r.tables base rows (ran r) seen (ap (after r.tables base) first ∙ then.ran ∙ sym then.rows ∙ are)
    ∙ now.ran ∙ sym now.rows ∙ rows_behind r sound full
