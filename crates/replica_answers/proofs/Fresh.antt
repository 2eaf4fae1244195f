-- A new replica that keeps the order of the log, and lets records go.
use Rattle.std.proofs.Common.{◌≡◌, ℕ, List, refl, sym, subst, true}
use Rattle.schema.specs.declared.Table.{Table}
use Rattle.store_trait.specs.Batch.{Entry}
use Rattle.replica_core.specs.Replica.{Replica}
use Rattle.replica_core.specs.Calls.{new_over, letting_go}
use Rattle.replica_shared.specs.Names.{replica_names, IsNewReplica}

pub is_new_in_order : (r : Replica) (ts : List Table) (source : List ℕ) (base : List Entry) (workers : ℕ) → r ≡ letting_go (new_over ts source base workers true)
    → IsNewReplica (replica_names r) true r
is_new_in_order r ts source base workers is = subst (λ (x : Replica). IsNewReplica (replica_names x) true x) (sym is) refl
