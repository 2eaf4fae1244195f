use Rattle.std.proofs.Common.{◌≡◌, ap, subst, ℕ, Bool, true, List, Option, Some}
use Rattle.std.specs.Option.{IfSome}
use Rattle.schema.specs.declared.Table.{Table}
use Rattle.store_trait.specs.Batch.{Entry}
use Rattle.tracker_trait.specs.Kind.{Kind}
use Rattle.source_core.specs.Source.{Source, new_source}
use Rattle.replica_core.specs.Replica.{Replica}
use Rattle.replica_core.specs.Calls.{new_over}
use Rattle.log_file.specs.Log.{IsNew}
use Rattle.log_set.specs.Set.{SetOn}
use Rattle.world.specs.Fresh.{IsFirstFile}
use Rattle.source_core.proofs.New.{new_is_new}
use Rattle.replica_shared.specs.Names.{replica_names, IsNewReplica}
use Rattle.replica_shared.proofs.Standing.{new_is_new as replica_is_new}
use Rattle.mtr.proofs.threads.lifecycle.new_cores.Goals as goal

-- a new source is the new one over what it has
source_again : {P : Type 0} (source : P → Source) (o : Option P) (p : P) (ts : List Table) (base : List Entry) (limit : ℕ) (kind : Kind) → IfSome o (λ x. source x ≡ new_source ts base limit kind) →
    o ≡ Some p → source p ≡ new_source (source p).tables (source p).base (source p).limit (source p).kind
source_again source o p ts base limit kind made is = new_is_new _ _ _ _ _ (subst (λ x. IfSome x (λ y. source y ≡ new_source ts base limit kind)) is made)

-- and so is a new replica
replica_again : {P : Type 0} (replica : P → Replica) (o : Option P) (p : P) (ts : List Table) (from : List ℕ) (base : List Entry) (workers : ℕ) (preserve : Bool) →
    IfSome o (λ x. replica x ≡ new_over ts from base workers preserve) → o ≡ Some p → IsNewReplica (replica_names (replica p)) (replica p).preserve (replica p)
replica_again replica o p ts from base workers preserve made is = replica_is_new _ _ _ _ _ _ (subst (λ x. IfSome x (λ y. replica y ≡ new_over ts from base workers preserve)) is made)

-- which keeps all records
keeps_all : {P : Type 0} (replica : P → Replica) (o : Option P) (p : P) (ts : List Table) (from : List ℕ) (base : List Entry) (workers : ℕ) (preserve : Bool) →
    IfSome o (λ x. replica x ≡ new_over ts from base workers preserve) → o ≡ Some p → (replica p).keeps ≡ true
keeps_all replica o p ts from base workers preserve made is = ap (λ (r : Replica). r.keeps) (subst (λ x. IfSome x (λ y. replica y ≡ new_over ts from base workers preserve)) is made)

-- and so is a log of a new first file
log_again : {P D : Type 0} (log : P → SetOn D) (seen : D → List ℕ) (may_leave : D → List ℕ → Type 0) (o : Option P) (p : P) → IfSome o (λ x. IsFirstFile seen may_leave (log x)) → o ≡ Some p →
    IsNew (log p).log
log_again log seen may_leave o p made is = (subst (λ x. IfSome x (λ y. IsFirstFile seen may_leave (log y))) is made).new

pub returns-in-Some-clause-source : goal.returns-in-Some-clause-source
returns-in-Some-clause-source g c = source_again (λ pair. pair.source) _ c.in-Some.cores _ _ _ _ c.in_ok-cores.ensures.source c.in-Some.is

pub returns-in-Some-clause-replica : goal.returns-in-Some-clause-replica
returns-in-Some-clause-replica g c = replica_again (λ pair. pair.replica) _ c.in-Some.cores _ _ _ _ _ c.in_ok-cores.ensures.replica c.in-Some.is

pub returns-in-Some-clause-keeps : goal.returns-in-Some-clause-keeps
returns-in-Some-clause-keeps g c = keeps_all (λ pair. pair.replica) _ c.in-Some.cores _ _ _ _ _ c.in_ok-cores.ensures.replica c.in-Some.is

pub returns-in-Some-clause-log : goal.returns-in-Some-clause-log
returns-in-Some-clause-log g c = log_again (λ pair. pair.log) _ _ _ c.in-Some.cores c.in_ok-cores.ensures.log c.in-Some.is
