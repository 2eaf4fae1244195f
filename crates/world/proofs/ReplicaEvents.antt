-- The events of the replica.
use mathlib.Core.List.{IsPrefix}
use base.Growing.{prefix_refl}
use Rattle.std.proofs.Common.{◌≡◌, ◌∙◌, sym, ap, subst, refl, ℕ, zero, suc, ◌+◌, ◌-◌, ◌<◌, ◌≤◌, Bool, true, false, ◌&&◌, ◌||◌, if◌then◌else◌, nat_le, nat_lt, List, [], ◌∷◌, ◌++◌, length, take, drop}
use Rattle.std.proofs.Common.{Option, Some, None, Result, Ok, Err, arith, inl, inr, ◌⊎◌}
use Rattle.std.specs.Prelude.{ℤ, option_and_then, slice_get}
use Rattle.std.specs.Option.{option_map_or}
use Rattle.std.specs.Result.{IsErrOf}
use Rattle.std.specs.FinMap.{get}
use Rattle.std.proofs.Math.Bool.{and-false, and-true}
use Rattle.std.proofs.lemmas.List.{take-append-drop, take-take}
use Rattle.std.proofs.lemmas.Bool.{and_from, lt-ltb}
use Rattle.std.proofs.lemmas.Bool.Decides.{nat_tests}
use Rattle.std.proofs.lemmas.Option.{none-some}
use Rattle.rows.specs.Database.{Database}
use Rattle.schema.specs.declared.Table.{Table}
use Rattle.schema.specs.declared.RowId.{RowId}
use Rattle.gtid_set.specs.Ids.{Ids}
use Rattle.record_codec.specs.declared.records.Record.{Record}
use Rattle.record_codec.specs.Log.{after, IsLegalLog}
use Rattle.record_codec.proofs.Logs.{beginning_is_legal, part_is_numbered}
use Rattle.store_trait.specs.Batch.{Entry}
use Rattle.store_trait.specs.Operation.{loaded, left_by}
use Rattle.scheduler.specs.Gnos.{low_of}
use Rattle.scheduler.proofs.Gnos.{low_of_first}
use Rattle.gapped.specs.Gapped.{gapped}
use Rattle.executor.specs.declared.Job.{Job}
use Rattle.relay.specs.declared.ReplicaFault.{ReplicaFault}
use Rattle.relay.specs.declared.ReplicaFault.TheVariants as faults
use Rattle.replica_core.specs.Replica.{Replica, job_of, operations, operations_in_order, ran}
use Rattle.replica_core.specs.Sound.{IsSound}
use Rattle.replica_core.proofs.Commits.{operations_leave_rows, ops_in_order}
use Rattle.replica_core.proofs.Jobs.{job_is_of_its_record}
use Rattle.replica_core.specs.Calls.{stop_fault, unless_stopped, is_eligible, next_job, dispatched_next, AreExecuted, executed_ids}
use Rattle.world.specs.declared.events.Event.{Event}
use Rattle.world.specs.declared.events.Event.TheVariants as events
use Rattle.world.specs.declared.events.Reply.TheVariants as replies
use Rattle.world.specs.Pair.{Pair, next, replica_committed, low_water, published_gnos}
use Rattle.world.specs.Legal.{Setup, replica_at, rows_after, is_due, may_dispatch, dispatch_reply, ExecutedAnswers, read_reply, asks_memory, tells_memory}
use Rattle.world.specs.State.{World, IsWorld, Stands, Goes}
use Rattle.world.specs.Run.{ShowsOperations}
use Rattle.world.proofs.Parts.{replica_is, stays, with_replica}
use Rattle.world.proofs.Shown.{ShowsState, shows_state, shows_first}
use Rattle.world.proofs.Jobs.{jobs_dispatched}

-- a replica that runs answers what it is asked
running_answer : {T : Type 0} (r : Replica) (answer : T) → r.stopped ≡ None → unless_stopped r answer ≡ Ok answer
running_answer r answer e = ap (λ (o : Option ℕ). option_map_or (λ gno. Err (faults.Stopped gno)) o (Ok answer)) e

-- so what a call answers that does not lack memory is this
pub answered : {T : Type 0} (r : Replica) (asked given : T) → r.stopped ≡ None → (answer : Result T ReplicaFault) → IsErrOf answer faults.Memory ⊎ (answer ≡ unless_stopped r asked) →
    answer ≡ Ok given → asked ≡ given
answered r asked given going answer (inl memory) is = absurd (cc (sym memory ∙ is))
answered r asked given going answer (inr told) is = cc (sym (running_answer r asked going) ∙ sym told ∙ is)

-- and what refuses it is want of memory
pub only_memory : {T : Type 0} (r : Replica) (asked : T) (fault : ReplicaFault) → r.stopped ≡ None → (answer : Result T ReplicaFault) →
    IsErrOf answer faults.Memory ⊎ (answer ≡ unless_stopped r asked) → answer ≡ Err fault → fault ≡ faults.Memory
only_memory r asked fault going answer (inl memory) is = cc (sym is ∙ memory)
only_memory r asked fault going answer (inr told) is = absurd (cc (sym (running_answer r asked going) ∙ sym told ∙ is))

-- the same world, with another replica and other jobs
abbrev pub with_jobs : {D R : Type 0} → World D R → Replica → List Job → World D R
with_jobs w r jobs = record w { replica = r; jobs = jobs }

-- what is due asks for memory, whichever state the world stands for
abbrev pub Asks : {D R : Type 0} → World D R → Event → Type 0
Asks w event = (setup : Setup) (pair : Pair) (log : List Record) → Stands setup pair w → IsPrefix w.source.log log → asks_memory setup log pair event ≡ true

-- a call that was refused for want of memory leaves the world as it was
pub lacks : {D R : Type 0} (contents : R → Database) (w : World D R) (event : Event) (new : Replica) (jobs : List Job) → IsWorld contents w → Asks w event →
    tells_memory event (replies.Replica faults.Memory) ≡ true → ((pair : Pair) → next pair event (replies.Replica faults.Memory) ≡ pair) → new ≡ w.replica → jobs ≡ w.jobs →
    Goes contents w event (replies.Replica faults.Memory) (with_jobs w new jobs)
lacks {R} contents w event new jobs h asks tells idle same kept =
    subst (λ (r : Replica). Goes {R = R} contents w event (replies.Replica faults.Memory) (with_jobs w r jobs)) (sym same)
    (subst (λ (l : List Job). Goes {R = R} contents w event (replies.Replica faults.Memory) (with_jobs w w.replica l)) (sym kept)
    (stays contents w event (replies.Replica faults.Memory) h refl idle (λ setup pair log st longer numbered. inl (and_from _ _ (asks setup pair log st longer) tells))))

-- ---- dispatch

-- of a list, what stands at a place of its beginning
front_has : (a d : ℕ) (log : List Record) (test : Record → Bool) → (nat_lt d a && option_map_or test (slice_get log d) false) ≡ option_map_or test (slice_get (take a log) d) false
front_has zero d log test = ap (λ (b : Bool). b && option_map_or test (slice_get log d) false) (below d) where
  below : (n : ℕ) → nat_lt n 0 ≡ false
  below n = grind (arith, nat_tests)
front_has (suc a) d [] test = and-false (nat_lt d (suc a))
front_has (suc a) zero (r ∷ log) test = ap (λ (b : Bool). b && test r) (above a) where
  above : (n : ℕ) → nat_lt 0 (suc n) ≡ true
  above n = grind (arith, nat_tests)
front_has (suc a) (suc d) (r ∷ log) test = ap (λ (b : Bool). b && option_map_or test (slice_get log d) false) (both d a) ∙ front_has a d log test where
  both : (m n : ℕ) → nat_lt (suc m) (suc n) ≡ nat_lt m n
  both m n = grind (arith, nat_tests)

-- the replica of a state finds the next record eligible where the state says that it may be dispatched
eligible_at : (setup : Setup) (log : List Record) (pair : Pair) → (setup.preserve ≡ true → low_water pair ≡ replica_committed pair) →
    may_dispatch setup log pair ≡ is_eligible (replica_at setup log pair)
eligible_at setup log pair low = by setup.preserve refl where
  free : Bool
  free = nat_lt (pair.dispatched - replica_committed pair) setup.workers

  near : Bool
  near = nat_le (pair.dispatched + 1) (low_water pair + 4096)

  found : ℕ → Bool
  found mark = option_map_or (λ (next : Record). nat_le next.parent mark) (slice_get (take pair.accepted log) pair.dispatched) false

  due : (mark : ℕ) → is_due setup log pair mark ≡ (found mark && free)
  due mark = ap (λ (b : Bool). b && free) (front_has pair.accepted pair.dispatched log (λ (next : Record). nat_le next.parent mark))

  by : (b : Bool) → setup.preserve ≡ b → (if b then is_due setup log pair (replica_committed pair) else is_due setup log pair (low_water pair) && near)
      ≡ (found (low_water pair) && free && (b || near))
  by true e = due (replica_committed pair) ∙ ap (λ (mark : ℕ). found mark && free) (sym (low e)) ∙ sym (and-true (found (low_water pair) && free))
  by false e = ap (λ (b : Bool). b && near) (due (low_water pair))

-- in the order of the log the mark is the number of commits
low_as : {D R : Type 0} (contents : R → Database) (setup : Setup) (pair : Pair) (w : World D R) → IsWorld contents w → Stands setup pair w → setup.preserve ≡ true →
    low_water pair ≡ replica_committed pair
low_as contents setup pair w h st preserve =
    let same = sym st.replica.is in
    let first = h.replica.in_order (sym (ap (λ (r : Replica). r.preserve) same) ∙ preserve) in
    ap (λ (r : Replica). low_of r.commits) same ∙ ap low_of first ∙ low_of_first (length w.replica.commits) ∙ ap (λ (r : Replica). length r.commits) (sym same)

-- the state says that the next record may be dispatched where the replica finds it so
eligible_as : {D R : Type 0} (contents : R → Database) (setup : Setup) (pair : Pair) (w : World D R) (log : List Record) → IsWorld contents w → Stands setup pair w → IsPrefix w.source.log log →
    may_dispatch setup log pair ≡ is_eligible w.replica
eligible_as contents setup pair w log h st longer =
    eligible_at setup log pair (low_as contents setup pair w h st) ∙ ap is_eligible (replica_is contents setup pair w log h st longer)

-- the state counts what the replica dispatched
dispatched_as : {D R : Type 0} (setup : Setup) (pair : Pair) (w : World D R) → Stands setup pair w → pair.dispatched ≡ w.replica.dispatched
dispatched_as setup pair w st = ap (λ (r : Replica). r.dispatched) (sym st.replica.is)

reply_as : {D R : Type 0} (contents : R → Database) (setup : Setup) (pair : Pair) (w : World D R) (log : List Record) (b : Bool) → IsWorld contents w → Stands setup pair w →
    IsPrefix w.source.log log → is_eligible w.replica ≡ b →
    dispatch_reply setup log pair ≡ (if b then replies.Job (w.replica.dispatched + 1) else replies.Nothing)
reply_as contents setup pair w log b h st longer e =
    (λ i. if (eligible_as contents setup pair w log h st longer ∙ e) i then replies.Job (dispatched_as setup pair w st i + 1) else replies.Nothing)

-- a job is handed out where the next record is eligible
handed_out : (r : Replica) (job : Job) → next_job r ≡ Some job → (is_eligible r ≡ true) × (job_of r (r.dispatched + 1) ≡ Some job)
handed_out r job is = by (is_eligible r) refl is where
  by : (b : Bool) → is_eligible r ≡ b → (if b then job_of r (r.dispatched + 1) else None) ≡ Some job → (is_eligible r ≡ true) × (job_of r (r.dispatched + 1) ≡ Some job)
  by true e k = (e, k)
  by false e k = absurd (none-some job k)

pub dispatch_goes : {D R : Type 0} (contents : R → Database) (w : World D R) (job : Job) (next : Replica) (jobs : List Job) → IsWorld contents w → next_job w.replica ≡ Some job →
    next ≡ dispatched_next w.replica → jobs ≡ w.jobs ++ job ∷ [] →
    Goes contents w events.Dispatch (replies.Job job.gno) (with_jobs w next jobs)
dispatch_goes {R} contents w job next jobs h is leaves kept =
    let out = handed_out w.replica job is in
    let its = (job_is_of_its_record w.replica (w.replica.dispatched + 1) job out.1).gno in
    subst (λ (r : Replica). Goes {R = R} contents w events.Dispatch (replies.Job job.gno) (with_jobs w r jobs)) (sym leaves)
    (subst (λ (l : List Job). Goes {R = R} contents w events.Dispatch (replies.Job job.gno) (with_jobs w (dispatched_next w.replica) l)) (sym kept)
    (record {
      world = record { source = h.source; wire = h.wire; replica = h.replica; jobs = jobs_dispatched w.replica w.jobs job h.jobs out.1; readers = h.readers };
      grows = prefix_refl w.source.log;
      still = λ a b. record { quiet = refl; same = refl };
      stands = λ setup pair st.
          let number : pair.dispatched + 1 ≡ job.gno = ap (λ n. n + 1) (dispatched_as setup pair w st) ∙ sym its in
          record {
            source = st.source;
            wire = st.wire;
            replica = record {
              accepted = st.replica.accepted;
              is = ap dispatched_next st.replica.is ∙ ap (λ (n : ℕ). record (replica_at setup w.source.log pair)
                  { dispatched = pair.dispatched + 1; out = (replica_at setup w.source.log pair).out ++ n ∷ [] }) number;
            };
          };
      allowed = λ setup pair log st longer numbered. inr (ap replies.Job its ∙ sym (reply_as contents setup pair w log true h st longer out.0));
    }))

pub dispatch_lacks : {D R : Type 0} (contents : R → Database) (w : World D R) (next : Replica) (jobs : List Job) → IsWorld contents w → is_eligible w.replica ≡ true → next ≡ w.replica →
    jobs ≡ w.jobs → Goes contents w events.Dispatch (replies.Replica faults.Memory) (with_jobs w next jobs)
dispatch_lacks contents w next jobs h eligible same kept = lacks contents w events.Dispatch next jobs h (λ setup pair log st longer. eligible_as contents setup pair w log h st longer ∙ eligible) refl
    (λ pair. refl) same kept

pub dispatch_idle : {D R : Type 0} (contents : R → Database) (w : World D R) → IsWorld contents w → is_eligible w.replica ≡ false → Goes contents w events.Dispatch replies.Nothing w
dispatch_idle contents w h idle =
    stays contents w events.Dispatch replies.Nothing h refl (λ pair. refl)
    (λ setup pair log st longer numbered. inr (sym (reply_as contents setup pair w log false h st longer idle)))

-- ---- reads

-- of what is accepted, the first n records are those of the log
pub accepted_front : {D R : Type 0} (contents : R → Database) (w : World D R) (n : ℕ) → IsWorld contents w → n ≤ length w.replica.accepted → take n w.replica.accepted ≡ take n w.source.log
accepted_front contents w n h within = ap (take n) h.wire.front ∙ take-take n (length w.replica.accepted) w.source.log within

pub read_goes : {D R : Type 0} (contents : R → Database) (w : World D R) (id : RowId) (row : Option (List ℤ)) (upto more : ℕ) → IsWorld contents w → IsSound w.replica →
    row ≡ get (contents w.shown.store) id → upto ≡ w.shown.upto → more ≡ w.shown.more →
    Goes contents w (events.Read id) (replies.Read upto more row) w
read_goes {R} contents w id row upto more h sound row_is upto_is more_is = stays contents w _ _ h refl
    (λ pair. refl) (λ setup pair log st longer numbered.
    inr ((λ i. replies.Read (upto_is i) (more_is i) (row_is i)) ∙ read_as setup pair log (shows_state contents setup pair w log h sound st longer numbered))) where
      read_as : (setup : Setup) (pair : Pair) (log : List Record) → ShowsState contents setup pair log w.shown →
          replies.Read w.shown.upto w.shown.more (get (contents w.shown.store) id) ≡ read_reply setup log pair id
      read_as setup pair log s = by setup.preserve refl where
        gnos : List ℕ
        gnos = published_gnos pair

        by : (b : Bool) → setup.preserve ≡ b → replies.Read w.shown.upto w.shown.more (get (contents w.shown.store) id)
            ≡ (if b then replies.Read pair.published 0 (option_and_then (λ db. get db id) (rows_after setup log pair.published))
            else replies.Read (low_of gnos) (pair.published - low_of gnos) (option_and_then (λ db. get db id) (gapped setup.tables (loaded setup.base) log gnos)))
        by true e = (λ i. replies.Read ((s.in_order e).upto i) ((s.in_order e).more i) (option_and_then (λ db. get db id) (sym (s.in_order e).rows i)))
        by false e =
            let rest : w.shown.more ≡ pair.published - low_of gnos = omega (arith, s.counted, s.mark) in
            (λ i. replies.Read (s.mark i) (rest i) (option_and_then (λ db. get db id) (sym s.rows i)))

-- in the order of a legal log the operations leave what its records do
pub ordered_leave_rows : (ts : List Table) (base : List Entry) (log : List Record) (n : ℕ) (left : Database) → IsLegalLog ts (loaded base) log → after ts (loaded base) (take n log) ≡ Some left →
    left_by (operations_in_order ts base log n) ≡ left
ordered_leave_rows ts base log n left legal is =
    ap left_by (sym (ops_in_order ts base log n n (part_is_numbered ts (loaded base) [] log legal) (omega arith)))
    ∙ operations_leave_rows ts base (take n log) n left (ap (after ts (loaded base)) (take-take n n log (omega arith)) ∙ is)

-- readers have what the operations leave
pub shows_operations : {D R : Type 0} (contents : R → Database) (w : World D R) → IsWorld contents w → ShowsOperations contents w
shows_operations contents w h = record {
  all =
      sym (ap (λ k. left_by (operations w.replica.tables w.replica.base (ran w.replica) k)) h.readers.counted
      ∙ operations_leave_rows w.replica.tables w.replica.base (ran w.replica) w.replica.published (contents w.shown.store) h.readers.ran);
  in_order = λ preserve.
      let s = shows_first contents w h preserve in
      sym (ap (λ k. left_by (operations_in_order w.source.tables w.source.base w.source.log k)) s.upto
      ∙ ordered_leave_rows w.source.tables w.source.base w.source.log w.replica.published (contents w.shown.store) h.source.sound.legal s.rows);
}

-- ---- the ids that are executed

-- in the order of the log, and in any
pub executed_goes : {D R : Type 0} (contents : R → Database) (w : World D R) (ids : Ids) → IsWorld contents w → AreExecuted w.replica ids →
    (w.replica.preserve ≡ true → executed_ids w.replica ≡ ids) → Goes contents w events.Executed (replies.Executed ids) w
executed_goes contents w ids h are in_order = stays contents w _ _ h refl (λ pair. refl)
    (λ setup pair log st longer numbered.
    inr (told setup pair log (replica_is contents setup pair w log h st longer) setup.preserve refl)) where
      told : (setup : Setup) (pair : Pair) (log : List Record) → replica_at setup log pair ≡ w.replica → (b : Bool) → setup.preserve ≡ b → ExecutedAnswers b setup pair (replies.Executed ids)
      told setup pair log same true e = ap replies.Executed (sym (in_order (sym (ap (λ (r : Replica). r.preserve) same) ∙ e)) ∙ ap executed_ids (sym same))
      told setup pair log same false e =
          let are_said = subst (λ (r : Replica). AreExecuted r ids) (sym same) are in
          (ids, refl, record { is_set = are_said.is_set; source = are_said.source; numbers = are_said.numbers })

-- memory lacks only where there are some
pub executed_lacks : {D R : Type 0} (contents : R → Database) (w : World D R) → IsWorld contents w → 0 < length w.replica.commits → Goes contents w events.Executed (replies.Replica faults.Memory) w
executed_lacks contents w h some = stays contents w _ _ h refl (λ pair. refl)
    (λ setup pair log st longer numbered.
    let said : replica_committed pair ≡ length w.replica.commits = ap (λ (r : Replica). length r.commits) (sym st.replica.is) in
    inl (and_from _ true (lt-ltb 0 (replica_committed pair) (omega (arith, said, some))) refl))

-- a replica that runs refuses nothing else
pub lacks_only : (r : Replica) (fault : ReplicaFault) → r.stopped ≡ None → (fault ≡ faults.Memory) ⊎ (Some fault ≡ stop_fault r) → fault ≡ faults.Memory
lacks_only r fault going (inl memory) = memory
lacks_only r fault going (inr stop) = absurd (none-some fault (sym (stop ∙ ap (λ (o : Option ℕ). option_map_or (λ gno. Some (faults.Stopped gno)) o None) going)))

-- want of memory leaves the replica as it was
pub no_memory : {D R : Type 0} (contents : R → Database) (w : World D R) (event : Event) (new : Replica) → IsWorld contents w → Asks w event →
    tells_memory event (replies.Replica faults.Memory) ≡ true → ((pair : Pair) → next pair event (replies.Replica faults.Memory) ≡ pair) → new ≡ w.replica →
    Goes contents w event (replies.Replica faults.Memory) (with_replica w new)
no_memory contents w event new h asks tells idle same = lacks contents w event new w.jobs h asks tells idle same refl

-- what was accepted is a legal log over the replica's own tables and base
pub accepted_legal : {D R : Type 0} (contents : R → Database) (w : World D R) → IsWorld contents w → IsLegalLog w.replica.tables (loaded w.replica.base) w.replica.accepted
accepted_legal contents w h =
    let n = length w.replica.accepted in
    let front = beginning_is_legal w.source.tables (loaded w.source.base) (take n w.source.log) (drop n w.source.log)
    (subst (λ (l : List Record). IsLegalLog w.source.tables (loaded w.source.base) l) (sym (take-append-drop n w.source.log)) h.source.sound.legal) in
    subst (λ (l : List Record). IsLegalLog w.replica.tables (loaded w.replica.base) l) (sym h.wire.front)
    (subst (λ (es : List Entry). IsLegalLog w.replica.tables (loaded es) (take n w.source.log)) (sym h.replica.base)
    (subst (λ (ts : List Table). IsLegalLog ts (loaded w.source.base) (take n w.source.log)) (sym h.replica.tables) front))
