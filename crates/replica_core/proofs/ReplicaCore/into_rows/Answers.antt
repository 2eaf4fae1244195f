use Rattle.std.proofs.Common.{subst}
use Rattle.rows.specs.Database.{NoValueTwice}
use Rattle.replica_core.specs.Replica.{Replica}
use Rattle.replica_core.proofs.Kept.{stands}
use Rattle.replica_core.proofs.Showing.{rows_apart}
use Rattle.replica_core.proofs.ReplicaCore.into_rows.Goals as goal

pub returns-clause-apart : goal.returns-clause-apart
returns-clause-apart g c =
    rw c.into_store.ensures
    (subst (λ (r : Replica). NoValueTwice r.tables (g.S.RowStore.contents c.self.inside.stored.store)) c.self.view_is
    (rows_apart _ _ (stands c.self.invariant.parts) c.self.invariant.parts.log.rows_are))
