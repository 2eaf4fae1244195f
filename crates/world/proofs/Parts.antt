-- Facts of the parts of a world that every event uses.
use mathlib.Core.List.{IsPrefix}
use base.Growing.{prefix_refl}
use Rattle.std.proofs.Common.{[], ◌≡◌, ◌∙◌, sym, ap, subst, refl, ℕ, ◌+◌, ◌≤◌, Bool, true, false, not, ◌&&◌, Some, None, IsSome, Result, List, length, map, take, Option, arith}
use Rattle.std.proofs.lemmas.Bool.{false≢true, and_from}
use Rattle.std.proofs.lemmas.List.{take-append-le}
use Rattle.rows.specs.Database.{Database}
use Rattle.record_codec.specs.declared.records.Record.{Record}
use Rattle.record_codec.specs.Group.{GroupValue, AreNumbered}
use Rattle.record_codec.proofs.Logs.{part_is_numbered}
use Rattle.record_codec.proofs.Numbered.{take_numbered}
use Rattle.store_trait.specs.Operation.{loaded}
use Rattle.source_core.specs.Source.{Source, Open, IsSound}
use Rattle.source_core.specs.Calls.{cause, halted as halted_source}
use Rattle.log_file.specs.declared.fault.LogFault.TheVariants as log_file
use Rattle.log_file.specs.Head.{Head}
use Rattle.log_file.specs.Log.{Log}
use Rattle.log_file.specs.Flushed.{IsFlushedOf, kept_of}
use Rattle.log_file.specs.Calls.{ends as ends_of}
use Rattle.source_core.specs.declared.fault.SourceFault.{SourceFault}
use Rattle.source_core.specs.declared.fault.SourceFault.TheVariants as faults
use Rattle.replica_core.specs.Replica.{Replica}
use Rattle.world.specs.declared.events.Event.{Event}
use Rattle.world.specs.declared.events.Event.TheVariants as events
use Rattle.world.specs.declared.events.Reply.{Reply}
use Rattle.world.specs.declared.events.Reply.TheVariants as replies
use Rattle.std.specs.Result.{result_err, IsErrOf}
use Rattle.world.specs.Pair.{Pair, next, is_failure}
use Rattle.world.specs.Legal.{Setup, source_at, replica_at, Allowed}
use Rattle.world.specs.State.{World, Link, IsWire, IsReplica, WireIs, IsWorld, Stands, Goes}

-- the first records of a longer list are those of the list
pub take_longer : (log longer : List Record) → IsPrefix log longer → (n : ℕ) → n ≤ length log → take n longer ≡ take n log
take_longer log longer more n h = ap (λ l. take n l) (sym more.1) ∙ take-append-le n log more.0 h

-- whichever longer log is meant, the state says that the source is as it is
pub source_is : {D R : Type 0} (setup : Setup) (pair : Pair) (w : World D R) (log : List Record) → Stands setup pair w → IsPrefix w.source.log log → source_at setup log pair ≡ w.source
source_is setup pair w log st longer =
    let same : take pair.flushed log ≡ take pair.flushed w.source.log = take_longer w.source.log log longer pair.flushed (omega (arith, st.source.flushed)) in
    ap (λ (l : List Record). record (source_at setup log pair) { log = l }) same ∙ sym st.source.is

pub replica_is : {D R : Type 0} (contents : R → Database) (setup : Setup) (pair : Pair) (w : World D R) (log : List Record) → IsWorld contents w → Stands setup pair w → IsPrefix w.source.log log →
    replica_at setup log pair ≡ w.replica
replica_is contents setup pair w log h st longer =
    let within : pair.accepted ≤ length w.source.log = omega (arith, st.replica.accepted, h.wire.within, h.source.sound.synced_within) in
    let same : take pair.accepted log ≡ take pair.accepted w.source.log = take_longer w.source.log log longer pair.accepted within in
    ap (λ (l : List Record). record (replica_at setup log pair) { accepted = l }) same ∙ sym st.replica.is

-- an event that changes nothing
pub stays : {D R : Type 0} (contents : R → Database) (w : World D R) (event : Event) (reply : Reply) → IsWorld contents w → is_failure reply ≡ false →
    ((pair : Pair) → next pair event reply ≡ pair) →
    ((setup : Setup) (pair : Pair) (log : List Record) → Stands setup pair w → IsPrefix w.source.log log → AreNumbered 1 log → Allowed setup log pair event reply) → Goes contents w event reply w
stays {R} contents w event reply h none same allowed = record {
  world = h;
  grows = prefix_refl w.source.log;
  still = λ a b. record { quiet = none; same = refl };
  stands = λ setup pair st. subst (λ (p : Pair). Stands {R = R} setup p w) (sym (same pair)) st;
  allowed = allowed;
}

-- the state says that the source runs where it does, and that it is halted where it is
pub halted_as : {D R : Type 0} (setup : Setup) (pair : Pair) (w : World D R) (b : Bool) → Stands setup pair w → w.source.halted ≡ b → pair.halted ≡ b
halted_as setup pair w b st e = ap (λ (s : Source). s.halted) (sym st.source.is) ∙ e

-- of a source that runs, and of what is there, memory may be asked
pub asks_of : {D R : Type 0} (setup : Setup) (pair : Pair) (w : World D R) (b : Bool) → Stands setup pair w → w.source.halted ≡ false → b ≡ true → (not pair.halted && b) ≡ true
asks_of setup pair w b st runs is = and_from _ b (ap not (halted_as setup pair w false st runs)) is

-- a call that lacks memory was made of a source that runs
pub runs_if_lacking : {T : Type 0} (halts : Bool) (later : Option SourceFault) (answer : Result T SourceFault) →
    (IsSome (cause halts faults.Halted later) → result_err answer ≡ cause halts faults.Halted later) → IsErrOf answer faults.Memory → halts ≡ false
runs_if_lacking true later answer refused memory = absurd (other (sym (ap result_err memory) ∙ refused refl)) where
  other : Some faults.Memory ≡ Some faults.Halted → ⊥
  other e = cc e
runs_if_lacking false later answer refused memory = refl

-- the same world, with another source, or with another replica
abbrev pub with_source : {D R : Type 0} → World D R → Source → World D R
with_source w s = record w { source = s }

abbrev pub with_replica : {D R : Type 0} → World D R → Replica → World D R
with_replica w r = record w { replica = r }

-- the synced records of a source are numbered from 1
pub synced_numbered : (s : Source) → IsSound s → AreNumbered 1 (take s.synced s.log)
synced_numbered s sound = take_numbered 1 s.synced s.log (part_is_numbered s.tables (loaded s.base) [] s.log sound.legal)

-- ---- the log and its devices

-- a source stays sound if only its sessions, its queue, what is committed and whether it is halted are others
pub sound_with : (s : Source) (sessions : List (Option Open)) (queue : List ℕ) (committed : ℕ) (halts : Bool) → length sessions ≡ length s.sessions → committed ≤ s.synced → IsSound s →
    IsSound (record s { committed = committed; sessions = sessions; queue = queue; halted = halts })
sound_with s sessions queue committed halts many within h = record {
  sessions = many ∙ h.sessions;
  legal = h.legal;
  shaped = h.shaped;
  few = h.few;
  bound = h.bound;
  synced_within = h.synced_within;
  committed_within = within;
  owned = h.owned;
  grouped = h.grouped;
}

-- the wire is one with another state of its log, of the same head and groups, and with other devices
pub wire_with : {log accepted : List Record} {synced files spares n m : ℕ} {sizes : List ℕ} {was halts : Bool} {old new : Log} {waited unsynced : List GroupValue} →
    IsWire log synced sizes was accepted old waited files spares → IsFlushedOf log synced sizes (kept_of new) unsynced → new.groups ≡ old.groups → new.head ≡ old.head →
    new.finished ≡ old.finished → new.failed ≡ halts → (new.failed ≡ false → new.waiting ≡ None) → n + m ≡ 16 → IsWire log synced sizes halts accepted new unsynced n m
wire_with h flushed groups head goes failed ready places = record {
  flushed = flushed;
  on_log = rw groups h.on_log;
  versions = rw groups h.versions;
  failed = failed;
  ready = ready;
  goes = goes ∙ h.goes;
  form = ap (λ (b : Head). b.form) head ∙ h.form;
  places = places;
  front = h.front;
  within = h.within;
}

-- the replica is one still of a log of the same head
pub replica_with : {D R : Type 0} (contents : R → Database) (w : World D R) (head : Head) → head ≡ w.wire.log.head → IsWorld contents w →
    IsReplica w.source.tables w.source.base head.source w.replica.tables w.replica.base w.replica.source w.replica.stopped w.replica.preserve w.replica.commits
replica_with contents w head same h =
    let r = w.replica in
    subst (λ (b : Head). IsReplica w.source.tables w.source.base b.source r.tables r.base r.source r.stopped r.preserve r.commits) (sym same) h.replica

-- the log has the files, the groups and the head that it had
pub record HasSame {D : Type 0} (old new : Link D) : Type 0 where
  pub head : new.log.head ≡ old.log.head
  pub groups : new.log.groups ≡ old.log.groups
  pub goes : new.log.finished ≡ old.log.finished
  pub firsts : new.firsts ≡ old.firsts
  pub starts : new.starts ≡ old.starts
  pub unsynced : new.unsynced ≡ old.unsynced
  pub spares : length new.spare ≡ length old.spare

pub wire_is : {D : Type 0} {identifier : List ℕ} {unsynced synced : List (ℕ × ℕ)} {firsts starts : List ℕ} {old new : Link D} → HasSame old new →
    WireIs identifier unsynced synced firsts starts old → WireIs identifier unsynced synced firsts starts new
wire_is same is = record {
  head = same.head ∙ is.head;
  unsynced = ap (map ends_of) same.unsynced ∙ is.unsynced;
  synced = ap (map ends_of) same.groups ∙ is.synced;
  firsts = same.firsts ∙ is.firsts;
  starts = same.starts ∙ is.starts;
}

places_with : {D R : Type 0} (contents : R → Database) (w : World D R) (wire : Link D) → IsWorld contents w → HasSame w.wire wire → length wire.firsts + length wire.spare ≡ 16
places_with contents w wire h same = omega (arith, h.wire.places, ap (λ (l : List ℕ). length l) same.firsts, same.spares)

-- the log is called
abbrev pub CallsLog : Event → Type 0
CallsLog event = (event ≡ events.Sync → ⊥) → (event ≡ events.Rotate → ⊥) → ⊥

abbrev pub IsAllowed : {D R : Type 0} → World D R → Event → Reply → Type 0
IsAllowed w event reply = (setup : Setup) (pair : Pair) (log : List Record) → Stands setup pair w → IsPrefix w.source.log log → AreNumbered 1 log → Allowed setup log pair event reply

-- A device of the log failed: the source is halted, and the groups that wait wait on.
pub fails_goes : {D R : Type 0} (contents : R → Database) (w : World D R) (event : Event) (wire : Link D) → IsWorld contents w → HasSame w.wire wire → wire.log.failed ≡ true →
    IsFlushedOf w.source.log w.source.synced w.source.group_sizes (kept_of wire.log) wire.unsynced →
    ((pair : Pair) → next pair event (replies.Log log_file.Device) ≡ record pair { halted = true }) → CallsLog event → IsAllowed w event (replies.Log log_file.Device) →
    Goes contents w event (replies.Log log_file.Device) (record w { source = halted_source w.source; wire = wire })
fails_goes {D} {R} contents w event wire h same failed flushed halts calls allowed = record {
  world = record {
    source = record { sound = sound_with w.source w.source.sessions w.source.queue w.source.committed true refl h.source.sound.committed_within h.source.sound };
    wire = wire_with h.wire flushed same.groups same.head same.goes failed
        (λ runs. absurd (false≢true (sym runs ∙ failed))) (places_with contents w wire h same);
    replica = replica_with contents w wire.log.head same.head h;
    jobs = h.jobs;
    readers = h.readers;
  };
  grows = prefix_refl w.source.log;
  still = λ a b. absurd (calls a b);
  stands = λ setup pair st. subst (λ (p : Pair). Stands setup p (record w { source = halted_source w.source; wire = wire })) (sym (halts pair))
      (record { source = record { flushed = st.source.flushed; is = ap halted_source st.source.is }; wire = wire_is same st.wire; replica = st.replica });
  allowed = allowed;
}

-- Memory ran out for the log: only its devices may be others.
pub devices_go : {D R : Type 0} (contents : R → Database) (w : World D R) (event : Event) (wire : Link D) → IsWorld contents w → wire.log ≡ w.wire.log → wire.firsts ≡ w.wire.firsts →
    wire.starts ≡ w.wire.starts → wire.unsynced ≡ w.wire.unsynced → length wire.spare ≡ length w.wire.spare →
    ((pair : Pair) → next pair event (replies.Log log_file.Memory) ≡ pair) → CallsLog event → IsAllowed w event (replies.Log log_file.Memory) →
    Goes contents w event (replies.Log log_file.Memory) (record w { wire = wire })
devices_go {D} {R} contents w event wire h log firsts starts unsynced spares idle calls allowed =
    let same : HasSame w.wire wire = record {
      head = ap (λ (l : Log). l.head) log;
      groups = ap (λ (l : Log). l.groups) log;
      goes = ap (λ (l : Log). l.finished) log;
      firsts = firsts;
      starts = starts;
      unsynced = unsynced;
      spares = spares;
    } in
    let failed = ap (λ (l : Log). l.failed) log in
    let flushed : IsFlushedOf w.source.log w.source.synced w.source.group_sizes (kept_of wire.log) wire.unsynced =
    subst (λ (l : Log). IsFlushedOf w.source.log w.source.synced w.source.group_sizes (kept_of l) wire.unsynced) (sym log)
    (subst (λ (gs : List GroupValue). IsFlushedOf w.source.log w.source.synced w.source.group_sizes (kept_of w.wire.log) gs) (sym unsynced) h.wire.flushed) in
    record {
      world = record {
        source = h.source;
        wire = wire_with h.wire flushed same.groups same.head same.goes (failed ∙ h.wire.failed) (λ runs. ap (λ (l : Log). l.waiting) log ∙ h.wire.ready (sym failed ∙ runs))
            (places_with contents w wire h same);
        replica = replica_with contents w wire.log.head same.head h;
        jobs = h.jobs;
        readers = h.readers;
      };
      grows = prefix_refl w.source.log;
      still = λ a b. absurd (calls a b);
      stands = λ setup pair st.
          subst (λ (p : Pair). Stands setup p (record w { wire = wire })) (sym (idle pair)) (record { source = st.source; wire = wire_is same st.wire; replica = st.replica });
      allowed = allowed;
    }
