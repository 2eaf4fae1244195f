-- What is accepted and published if it is known before which record each number has.
use Rattle.std.proofs.Common.{◌≡◌, ◌∙◌, sym, ap, subst, refl, ℕ, ◌+◌, ◌⊎◌, inl, inr, Bool, true, List, [], ◌∷◌, ◌++◌, length, take, drop, Option, Some, None, Result, Ok, Err, arith, append_assoc}
use Rattle.std.proofs.Common.{slice_get}
use Rattle.std.specs.Prelude.{IsErrOf}
use Rattle.std.specs.List.{AllByRecursion}
use Rattle.std.specs.Option.{option_map_or}
use Rattle.std.proofs.lemmas.List.{take-append-drop, take_all}
use mathlib.Core.List.{IsPrefix}
use base.Growing.{prefix_trans}
use Rattle.schema.specs.declared.Table.{Table}
use Rattle.schema.proofs.Lists.{AllByRecursion-append, AllByRecursion-front}
use Rattle.rows.specs.Database.{Database, effect, writes}
use Rattle.store_trait.specs.Batch.{Entry, rows_in}
use Rattle.store_trait.specs.Operation.{loaded}
use Rattle.store_trait.specs.declared.Op.{Op}
use Rattle.store_trait.specs.declared.Op.TheVariants.{Load, Commit}
use Rattle.record_codec.specs.declared.records.Record.{Record}
use Rattle.relay.specs.declared.ReplicaFault.{ReplicaFault}
use Rattle.relay.specs.declared.ReplicaFault.TheVariants as faults
use Rattle.relay.specs.declared.Received.{Received}
use Rattle.relay.specs.declared.Received.TheVariants.{Accepted, Skipped}
use Rattle.relay.specs.Relay as relay
use Rattle.relay.proofs.Judged.{accepted_is_acceptable}
use Rattle.published.specs.History.{IsWithin}
use Rattle.replica_core.specs.Replica.{Replica, numbered_from, operations_in_order}
use Rattle.replica_core.specs.Calls.{relay_of, received, left_by_receive}
use Rattle.replica_core.specs.Wire.{Wire, left_by_answer, handed, HandsAll, HandsSome, Hands, Gathers, Takes}
use Rattle.replica_core.specs.declared.wire.WireFault.{WireFault}
use Rattle.replica_core.specs.declared.wire.WireFault.TheVariants as wire
use Rattle.replica_shared.specs.Names.{ReplicaNames, IsOfLog, IsInLog, IsKnownOver, IsKnown}
use Rattle.replica_shared.specs.Feeding.{AreEachInLog, AreInLog}
use Rattle.replica_shared.proofs.Commits.{prefix_next}

-- ---- what is published

-- the operations of records begin those of these records and more
numbered_longer : (ts : List Table) (db : Database) (gno : ℕ) (xs more : List Record) → IsPrefix (numbered_from ts db gno xs) (numbered_from ts db gno (xs ++ more))
numbered_longer ts db gno [] more = (numbered_from ts db gno more, refl)
numbered_longer ts db gno (x ∷ xs) more =
    elim (effect ts x.changes db) as (λ o.
    IsPrefix (option_map_or (λ left. Commit gno (rows_in (writes x.changes) left) ∷ numbered_from ts left (gno + 1) xs) o [])
    (option_map_or (λ left. Commit gno (rows_in (writes x.changes) left) ∷ numbered_from ts left (gno + 1) (xs ++ more)) o [])) [
      | None ↦ ([], refl)
      | Some left ↦ (let rest = numbered_longer ts left (gno + 1) xs more in (rest.0, ap (λ (l : List Op). Commit gno (rows_in (writes x.changes) left) ∷ l) rest.1))
    ]

-- so those of the first records of a beginning begin those of all
in_order_longer : (ts : List Table) (base : List Entry) (accepted log : List Record) (n : ℕ) → IsPrefix accepted log →
    IsPrefix (operations_in_order ts base accepted n) (operations_in_order ts base log (length log))
in_order_longer ts base accepted log n begins =
    let whole : take n accepted ++ (drop n accepted ++ begins.0) ≡ take (length log) log =
    sym (append_assoc (take n accepted) (drop n accepted) begins.0) ∙ ap (λ (l : List Record). l ++ begins.0) (take-append-drop n accepted) ∙ begins.1
    ∙ sym (take_all (length log) log (omega arith)) in
    let longer = numbered_longer ts (loaded base) 1 (take n accepted) (drop n accepted ++ begins.0) in
    (longer.0, ap (λ (l : List Op). Load base ∷ l) (longer.1 ∙ ap (numbered_from ts (loaded base) 1) whole))

-- a beginning of the operations of accepted records is one of all that may be published
pub within_known : (ts : List Table) (base : List Entry) (log : Option (List Record)) (preserve : Bool) (known : Option (List Op)) (accepted : List Record) (ops : List Op) (n : ℕ)
    → IsKnownOver ts base log preserve known → IsOfLog log accepted → (preserve ≡ true → IsPrefix ops (operations_in_order ts base accepted n)) → IsWithin known ops
within_known ts base None preserve known accepted ops n is of_log begins = subst (λ (k : Option (List Op)). IsWithin k ops) (sym is) tt
within_known ts base (Some log) preserve known accepted ops n is of_log begins =
    subst (λ (k : Option (List Op)). IsWithin k ops) (sym is.1)
    (prefix_trans ops (operations_in_order ts base accepted n) (operations_in_order ts base log (length log)) (begins is.0) (in_order_longer ts base accepted log n of_log))

-- ---- what is accepted

-- nothing is a beginning
pub none_of_log : (log : Option (List Record)) → IsOfLog log []
none_of_log None = tt
none_of_log (Some log) = (log, refl)

-- the load of the rows is a beginning of what may be published
pub load_is_known : (names : ReplicaNames) (preserve : Bool) (known : Option (List Op)) (base : List Entry) → IsKnown names preserve known → base ≡ names.base → IsWithin known (Load base ∷ [])
load_is_known names preserve known base is same =
    within_known names.tables names.base names.log preserve known [] (Load base ∷ []) 0 is (none_of_log names.log)
    (λ kept. ([], ap (λ (b : List Entry). Load b ∷ []) same))

-- the next record of the log
next_of_log : (log : Option (List Record)) (accepted : List Record) (new : Record) → IsOfLog log accepted → IsInLog log new → new.gno ≡ length accepted + 1 → IsOfLog log (accepted ++ new ∷ [])
next_of_log None accepted new begins there number = tt
next_of_log (Some log) accepted new begins there number =
    prefix_next accepted log new begins (ap (slice_get log) (omega (arith, number)) ∙ there.1)

-- one that is accepted runs
runs : (stopped : Option ℕ) (a : Result Received ReplicaFault) → option_map_or (λ gno. Err (faults.Stopped gno)) stopped a ≡ Ok Accepted → a ≡ Ok Accepted
runs None a is = is
runs (Some gno) a is = absurd cc

module _ (log : Option (List Record)) where
  -- a record of the log that is handed to a replica
  answered_of_log : (from : List ℕ) (r : Replica) (new : Record) (answer : Result Received ReplicaFault) → IsOfLog log r.accepted → IsInLog log new → received r from new ≡ answer
      → IsOfLog log (left_by_answer r new answer).accepted
  answered_of_log from r new (Ok Accepted) begins there is =
      let next = accepted_is_acceptable (relay_of r) from new (runs r.stopped (relay.received (relay_of r) from new) is) in
      next_of_log log r.accepted new begins there next.1.gno
  answered_of_log from r new (Ok Skipped) begins there is = begins
  answered_of_log from r new (Err fault) begins there is = begins

  -- one that is received
  pub received_of_log : (from : List ℕ) (r then : Replica) (new : Record) (answer : Received) → IsErrOf (Ok answer) faults.Memory ⊎ (Ok answer ≡ received r from new)
      → then ≡ left_by_receive r new answer → IsInLog log new → IsOfLog log r.accepted → IsOfLog log then.accepted
  received_of_log from r then new answer (inl lacks) left there begins = absurd (cc (lacks))
  received_of_log from r then new answer (inr told) left there begins =
      subst (λ (q : Replica). IsOfLog log q.accepted) (sym left) (answered_of_log from r new (Ok answer) begins there (sym told))

  -- records of the log that are handed on one after another
  handed_of_log : (from : List ℕ) (r : Replica) (records : List Record) → AllByRecursion (IsInLog log) records → IsOfLog log r.accepted → IsOfLog log (handed from r records).accepted
  handed_of_log from r [] there begins = begins
  handed_of_log from r (x ∷ records) there begins =
      handed_of_log from (left_by_answer r x (received r from x)) records there.1 (answered_of_log from r x (received r from x) begins there.0 refl)

  all_of_log : (from : List ℕ) (r then : Replica) (records : List Record) → HandsAll from r records then → AllByRecursion (IsInLog log) records → IsOfLog log r.accepted → IsOfLog log then.accepted
  all_of_log from r then records h there begins = subst (λ (q : Replica). IsOfLog log q.accepted) (sym h.left) (handed_of_log from r records there begins)

  some_of_log : (from : List ℕ) (r then : Replica) (records waiting : List Record) (fault : ReplicaFault) → HandsSome from r records waiting fault then → AllByRecursion (IsInLog log) records
      → IsOfLog log r.accepted → IsOfLog log then.accepted
  some_of_log from r then records waiting fault h there begins =
      all_of_log from r then h.gone h.hands
      (AllByRecursion-front (IsInLog log) h.gone waiting (subst (λ (l : List Record). AllByRecursion (IsInLog log) l) h.split there)) begins

-- those that waited
pub hands_of_log : (log : Option (List Record)) (old new : Wire) (r then : Replica) (answer : Result ℕ ReplicaFault) → Hands old r answer new then → AreEachInLog log old.waiting
    → IsOfLog log r.accepted → IsOfLog log then.accepted
hands_of_log None old new r then answer h there begins = tt
hands_of_log (Some log) old new r then (Ok count) h there begins = all_of_log (Some log) old.source r then old.waiting h.is.0 there begins
hands_of_log (Some log) old new r then (Err fault) h there begins = some_of_log (Some log) old.source r then old.waiting new.waiting fault h.is there begins

-- and those of a piece
pub takes_of_log : (log : Option (List Record)) (old new : Wire) (r then : Replica) (piece : List ℕ) (answer : Result ℕ WireFault) → Takes old r piece answer new then → AreInLog log old piece
    → IsOfLog log r.accepted → IsOfLog log then.accepted
takes_of_log None old new r then piece answer h there begins = tt
takes_of_log (Some log) old new r then piece (Ok count) h there begins =
    let is = h.is in
    all_of_log (Some log) old.source r then (old.waiting ++ is.added) is.hands
    (AllByRecursion-append (IsInLog (Some log)) old.waiting is.added there.0 (there.1 is.added new.rest is.splits)) begins
takes_of_log (Some log) old new r then piece (Err (wire.Replica fault)) h there begins =
    let is = h.is in
    some_of_log (Some log) old.source r then (old.waiting ++ is.added) new.waiting fault is.hands
    (AllByRecursion-append (IsInLog (Some log)) old.waiting is.added there.0 (there.1 is.added new.rest is.splits)) begins
takes_of_log (Some log) old new r then piece (Err (wire.Codec fault)) h there begins =
    let is = h.is in all_of_log (Some log) old.source r then old.waiting is.hands there.0 begins
takes_of_log (Some log) old new r then piece (Err (wire.Waiting fault)) h there begins =
    let is = h.is in some_of_log (Some log) old.source r then old.waiting new.waiting fault is.hands there.0 begins

-- what waits once the piece was gathered
pub gathered_in_log : (log : Option (List Record)) (old full : Wire) (piece : List ℕ) → AreInLog log old piece → Gathers old piece full → AreEachInLog log full.waiting
gathered_in_log None old full piece there g = tt
gathered_in_log (Some log) old full piece there g =
    subst (λ (l : List Record). AllByRecursion (IsInLog (Some log)) l) (sym g.adds.new_are)
    (AllByRecursion-append (IsInLog (Some log)) old.waiting g.adds.added there.0 (there.1 g.adds.added full.rest g.adds.splits))
