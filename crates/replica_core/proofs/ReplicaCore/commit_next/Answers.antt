use Rattle.std.proofs.Common.{◌∙◌, sym, ap, subst, refl, inr, ℕ, length, Ok, Err, is_some, if◌then◌else◌, arith}
use Rattle.std.specs.Option.{option_map_or}
use Rattle.relay.specs.declared.ReplicaFault.TheVariants.{Stopped}
use Rattle.relay.specs.Relay.{LetsGo}
use Rattle.replica_core.specs.Replica.{Replica}
use Rattle.replica_core.specs.Calls.{next_commit, unless_stopped, with_commit}
use Rattle.replica_core.specs.Sound.{ShowsGapped}
use Rattle.replica_core.proofs.Kept.{low_dispatched}
use Rattle.replica_core.proofs.Steps.{commits_of, leaves_of, none_next, next_some, still_gapped, turn_next}
use Rattle.replica_core.proofs.Steps.{turn_later, turn_near, committed_kept, committed_seen, committed_gapped, gone_then, gone_seen, mark_rises}
use Rattle.replica_core.proofs.ReplicaCore.commit_next.Goals as goal

pub returns-in_err-gno-clause-memory : goal.returns-in_err-gno-clause-memory
returns-in_err-gno-clause-memory g c = λ _. (
  sym (ap (λ (r : Replica). r.stopped) c.self.view_is) ∙ c.in_ok-refuse_stopped.ensures.runs,
  ap (λ (r : Replica). is_some (next_commit r)) (sym c.self.view_is) ∙ sym (next_some c.self.invariant.parts) ∙ c.in_err-gno.ensures.there,
)

pub returns-in_default-clause-answer : goal.returns-in_default-clause-answer
returns-in_default-clause-answer g c =
    let none = none_next c.self.invariant.parts (leaves_of _ _ _ _ c.in_default.is c.in_ok-gno.ensures) in
    inr (sym (ap (λ (r : Replica). unless_stopped r (next_commit r)) (sym c.self.view_is)
    ∙ (λ i. option_map_or (λ gno. Err (Stopped gno)) (c.in_ok-refuse_stopped.ensures.runs i) (Ok (none i)))))

pub returns-in_default-clause-gapped : goal.returns-in_default-clause-gapped
returns-in_default-clause-gapped g c = still_gapped c.self.invariant.parts (leaves_of _ _ _ _ c.in_default.is c.in_ok-gno.ensures) refl

pub committed-requires-clause-later : goal.committed-requires-clause-later
committed-requires-clause-later g c = turn_later c.self.invariant.parts (commits_of _ _ _ _ _ _ c.schema.ensures c.in-Some.is c.in_ok-gno.ensures)

pub committed-requires-clause-near : goal.committed-requires-clause-near
committed-requires-clause-near g c = turn_near c.self.invariant.parts (commits_of _ _ _ _ _ _ c.schema.ensures c.in-Some.is c.in_ok-gno.ensures)

-- what the relay lets go
went : (g : _) (c : goal.After-let_go g) →
    LetsGo (if c.self.inside.keeps then 0 else c.committed.new.self.low) c.self.inside.relay c.let_go.new.relay
went g c = subst (λ (n : ℕ). LetsGo (if c.self.inside.keeps then 0 else n) c.self.inside.relay c.let_go.new.relay) c.low_water.ensures.value c.let_go.ensures

pub let_go-requires : goal.let_go-requires
let_go-requires g c =
    let put = commits_of _ _ _ _ _ _ c.schema.ensures c.in-Some.is c.in_ok-gno.ensures in
    let kept = committed_kept c.committed.new.self c.self.invariant.parts put c.committed.ensures.exact c.committed.ensures.greatest refl in
    omega (arith, low_dispatched kept, kept.within, c.low_water.ensures.value)

pub invariant_of-self-2 : goal.invariant_of-self-2
invariant_of-self-2 g c =
    let put = commits_of _ _ _ _ _ _ c.schema.ensures c.in-Some.is c.in_ok-gno.ensures in
    gone_then (committed_kept c.committed.new.self c.self.invariant.parts put c.committed.ensures.exact c.committed.ensures.greatest refl) c.self.invariant.kept
    (mark_rises c.committed.new.self c.self.invariant.parts put c.committed.ensures.exact c.committed.ensures.greatest)
    c.let_go.new.relay (went g c)

pub returns-clause-answer : goal.returns-clause-answer
returns-clause-answer g c =
    let next = turn_next c.self.invariant.parts (commits_of _ _ _ _ _ _ c.schema.ensures c.in-Some.is c.in_ok-gno.ensures) in
    inr (sym (ap (λ (r : Replica). unless_stopped r (next_commit r)) (sym c.self.view_is)
    ∙ (λ i. option_map_or (λ gno. Err (Stopped gno)) (c.in_ok-refuse_stopped.ensures.runs i) (Ok (sym next i)))))

pub returns-clause-ok : goal.returns-clause-ok
returns-clause-ok g c =
    gone_seen _ (went g c)
    ∙ committed_seen c.committed.new.self c.self.invariant.parts (commits_of _ _ _ _ _ _ c.schema.ensures c.in-Some.is c.in_ok-gno.ensures)
    c.committed.ensures.exact c.committed.ensures.greatest refl
    ∙ ap (λ (r : Replica). with_commit r c.in-Some.gno) c.self.view_is

pub returns-clause-gapped : goal.returns-clause-gapped
returns-clause-gapped g c =
    subst (λ (r : Replica). ShowsGapped r (length r.commits)) (sym (gone_seen _ (went g c)))
    (committed_gapped c.committed.new.self c.self.invariant.parts (commits_of _ _ _ _ _ _ c.schema.ensures c.in-Some.is c.in_ok-gno.ensures)
    c.committed.ensures.exact c.committed.ensures.greatest refl)
