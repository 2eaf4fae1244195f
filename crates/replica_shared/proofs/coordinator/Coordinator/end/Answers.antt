use Rattle.replica_shared.proofs.coordinator.Coordinator.end.Goals as goal

pub returns-clause-together : goal.returns-clause-together
returns-clause-together g c = record { appended = c.self.inside.appended; stored = c.self.inside.status.stored; stand = c.self.invariant.stand }
