-- What is read at a replica whose log is known.
use mathlib.Core.List.{IsPrefix}
use Rattle.std.proofs.Common.{◌≡◌, sym, ◌∙◌, subst, refl, ◌≤◌, Bool, true, List, [], length, take, append-nil, Option, Some, None, arith}
use Rattle.std.specs.Option.{IfSome}
use Rattle.std.proofs.lemmas.List.{take_all}
use Rattle.schema.specs.declared.Table.{Table}
use Rattle.store_trait.specs.Batch.{Entry}
use Rattle.store_trait.specs.declared.Op.{Op}
use Rattle.store_trait.specs.Operation.{loaded, left_by}
use Rattle.record_codec.specs.declared.records.Record.{Record}
use Rattle.record_codec.specs.Log.{after, IsLegalLog}
use Rattle.published.specs.History.{IsHistory, IsWithin, commits_in}
use Rattle.published.proofs.Histories.{begun}
use Rattle.replica_core.specs.Replica.{Replica, operations_in_order}
use Rattle.replica_core.specs.Calls.{new_over}
use Rattle.replica_shared.specs.Names.{ReplicaNames, IsKnown, IsKnownOver}
use Rattle.log_feed.proofs.Follow.{shows}
use Rattle.replica_answers.specs.Followed.{known_over}
use Rattle.replica_answers.specs.Replica.{IsAsAfter}

seen_over : (ts : List Table) (base : List Entry) (log : Option (List Record)) (preserve : Bool) (known : Option (List Op)) (ops : List Op) → IsKnownOver ts base log preserve known →
    IsWithin known ops → 1 ≤ length ops → IfSome log (λ l. IsLegalLog ts (loaded base) l → after ts (loaded base) (take (commits_in ops) l) ≡ Some (left_by ops))
seen_over ts base None preserve known ops is within some = tt
seen_over ts base (Some log) preserve known ops is within some = λ legal.
    let r : Replica = record (new_over ts [] base 1 true) { accepted = log } in
    let whole : IsPrefix log (take (length log) log) = ([], append-nil log ∙ sym (take_all (length log) log (omega arith))) in
    let first : IsPrefix ops (operations_in_order ts base log (length log)) = subst (λ (k : Option (List Op)). IsWithin k ops) is.1 within in
    (shows ts base log (length log) r legal refl refl whole).seen ops (length log) (omega arith) first some

-- a history that is within what is known is as after the first records of the log
pub as_after : (names : ReplicaNames) (preserve : Bool) (known : Option (List Op)) (ops : List Op) → IsKnown names preserve known → IsWithin known ops → IsHistory true ops → IsAsAfter names ops
as_after names preserve known ops is within history = seen_over names.tables names.base names.log preserve known ops is within (begun true ops history)

-- what is known of a log that is kept in order
pub known_is : (ts : List Table) (base : List Entry) (log : Option (List Record)) → IsKnownOver ts base log true (known_over ts base log)
known_is ts base None = refl
known_is ts base (Some log) = (refl, refl)
