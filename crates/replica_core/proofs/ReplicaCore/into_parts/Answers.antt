use Rattle.replica_core.proofs.Kept.{stands}
use Rattle.replica_core.proofs.Showing.{rows_apart}
use Rattle.replica_core.proofs.ReplicaCore.into_parts.Goals as goal

pub returns-clause-apart : goal.returns-clause-apart
returns-clause-apart g c =
    rw (c.into_parts-schema.ensures.tables, c.into_store.ensures) (rows_apart _ _ (stands c.self.invariant.parts) c.self.invariant.parts.log.rows_are)
