-- What is true under the lock, as each step leaves its parts.
use Rattle.std.proofs.Common.{◌≡◌, ◌∙◌, sym, subst, ℕ, ◌+◌, ◌<◌, ◌≤◌, ◌^◌, Bool, true, false, true≢false, List, Option, Some, None, arith, if◌then◌else◌}
use Rattle.std.proofs.lemmas.Option.{none-some}
use Rattle.store_trait.specs.declared.Op.{Op}
use Rattle.executor.specs.declared.Job.{Job}
use Rattle.published.specs.declared.counts.Counts.{Counts}
use Rattle.published.specs.Status.{latest}
use Rattle.relay.specs.declared.ReplicaFault.{ReplicaFault}
use Rattle.relay.specs.declared.ReplicaFault.TheVariants as faults
use Rattle.replica_core.specs.Replica.{Replica, job_of}
use Rattle.replica_core.specs.Calls.{next_job, is_eligible, with_commit, dispatched_next, left_by_fault}
use Rattle.replica_core.specs.Sound.{IsSound}
use Rattle.replica_core.proofs.Jobs.{job_is_of_its_record}
use Rattle.replica_core.proofs.Steps.{few_accepted}
use Rattle.replica_shared.specs.Names.{ReplicaNames}
use Rattle.replica_shared.specs.declared.news.Outlook.{Outlook}
use Rattle.replica_shared.specs.Outlet.{Queued, AreInLine, IsLastOut}
use Rattle.replica_shared.specs.Together.{State, AreKept, IsWhole, IsBehindOrCaughtUp, DispatchesOne, StopsRightly, words_of}
use Rattle.replica_shared.proofs.Standing.{stand_committed}
use Rattle.replica_shared.proofs.Stops.{runs_rightly}

-- where the state says that something is, nothing is promised
pub unsettled : (s : State) → s.behind ≡ true → IsBehindOrCaughtUp s
unsettled s is running not = absurd (true≢false (sym is ∙ not))

-- the job that is dispatched may be pushed
pub number_of_next : (r : Replica) (job : Job) → next_job r ≡ Some job → job.gno ≡ r.dispatched + 1
number_of_next r job is = of_eligible (is_eligible r) is
  where
    of_eligible : (b : Bool) → (if b then job_of r (r.dispatched + 1) else None) ≡ Some job → job.gno ≡ r.dispatched + 1
    of_eligible true made = (job_is_of_its_record r (r.dispatched + 1) job made).gno
    of_eligible false made = absurd (none-some job made)

pub next_in_line : (r : Replica) (q : Queued) (job : Job) → next_job r ≡ Some job → AreInLine r.dispatched q → q.aside ≡ None → AreInLine (dispatched_next r).dispatched (record q { aside = Some job })
next_in_line r q job is line free =
    let number = number_of_next r job is in
    let all : q.pushed ≡ r.dispatched = subst (IsLastOut r.dispatched q.pushed) free line in
    (omega arith, omega arith)

module _ {names : ReplicaNames} {preserve : Bool} {known : Option (List Op)} {s : State} {appended : ℕ} {stored : List Counts}
    (h : IsWhole names preserve known s appended stored) where
  -- what is beside core, publisher and queue changes
  pub whole_beside : {closed : Bool} {kept : List Job} {claimed : ℕ} {told : Outlook} → AreKept kept → claimed ≤ s.outlet.pushed
      → IsWhole names preserve known (record s { closed = closed; kept = kept; claimed = claimed; told = told }) appended stored
  whole_beside places claims = record { stand = h.stand; kept = places; line = h.line; claims = claims; stops = h.stops; rest = h.rest; known_is = h.known_is }

  -- a result is refused
  pub whole_refused : {r : Replica} (fault : ReplicaFault) → r ≡ left_by_fault s.core fault → StopsRightly (left_by_fault s.core fault)
      → IsWhole names preserve known (record s { core = r }) appended stored
  whole_refused fault left stops = subst (λ (x : Replica). IsWhole names preserve known (record s { core = x }) appended stored) (sym left) (each fault stops)
    where
      each : (told : ReplicaFault) → StopsRightly (left_by_fault s.core told) → IsWhole names preserve known (record s { core = left_by_fault s.core told }) appended stored
      each (faults.Stopped at) may =
          let t = h.stand in
          record {
            stand = record {
              named = t.named;
              within = t.within;
              history = t.history;
              begins = t.begins;
              shown = t.shown;
              words = t.words;
              number = t.number;
              in_order = t.in_order;
              of_log = t.of_log;
            };
            kept = h.kept;
            line = h.line;
            claims = h.claims;
            stops = may;
            rest = λ running not. absurd (none-some at (sym running));
            known_is = h.known_is;
          }
      each _ may = h

  -- one more record is committed, and the words are stored
  pub whole_committed : (gno : ℕ) {after : List Counts} → s.behind ≡ true → (with_commit s.core gno).stopped ≡ None → IsSound (with_commit s.core gno)
      → latest after ≡ words_of (with_commit s.core gno) → IsWhole names preserve known (record s { core = with_commit s.core gno }) appended after
  whole_committed gno behind running sound words = record {
    stand = stand_committed h.stand gno sound words;
    kept = h.kept;
    line = h.line;
    claims = h.claims;
    stops = runs_rightly (with_commit s.core gno) running;
    rest = unsettled (record s { core = with_commit s.core gno }) behind;
    known_is = h.known_is;
  }

  -- one more is dispatched, and its job waits for its push
  pub whole_dispatched : {new : State} → s.behind ≡ true → s.core.stopped ≡ None → s.outlet.aside ≡ None → DispatchesOne s new → IsWhole names preserve known new appended stored
  whole_dispatched behind running free one =
      let t = h.stand in
      rw one.left record {
        stand = record {
          named = t.named;
          within = t.within;
          history = t.history;
          begins = t.begins;
          shown = t.shown;
          words = t.words;
          number = t.number;
          in_order = t.in_order;
          of_log = t.of_log;
        };
        kept = h.kept;
        line = next_in_line s.core s.outlet one.job one.is_next h.line free;
        claims = h.claims;
        stops = runs_rightly (dispatched_next s.core) running;
        rest = unsettled (record s { core = dispatched_next s.core; outlet = record s.outlet { aside = Some one.job } }) behind;
        known_is = h.known_is;
      }

  -- so few are pushed
  pub few_pushed : IsSound s.core → s.outlet.pushed < 2 ^ 63
  few_pushed sound =
      let few = few_accepted s.core.tables s.core.accepted sound.accepted in
      let all = sound.dispatched in
      let last = pushed_within s.core.dispatched s.outlet.pushed s.outlet.aside h.line in
      omega arith
    where
      pushed_within : (n pushed : ℕ) (aside : Option Job) → IsLastOut n pushed aside → pushed ≤ n
      pushed_within n pushed None line = omega arith
      pushed_within n pushed (Some job) line = let last = line.0 in omega arith
