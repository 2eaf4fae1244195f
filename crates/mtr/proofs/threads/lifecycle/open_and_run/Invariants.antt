use Rattle.std.proofs.Common.{None}
use Rattle.replica_shared.specs.Names.{replica_names}
use Rattle.mtr.proofs.threads.lifecycle.open_and_run.Given as goal

-- the history of receipts that was just made, and the rows and the tables of the source
abbrev pub ghosts-run_named-J-SourceNaming : goal.ghosts-run_named-J-SourceNaming
ghosts-run_named-J-SourceNaming g a = record { book = a.receipts; base = a.cores.source.base; tables = a.cores.source.tables }

-- the tables, the source and the rows of the replica
abbrev pub ghosts-run_named-K-ReplicaNaming : goal.ghosts-run_named-K-ReplicaNaming
ghosts-run_named-K-ReplicaNaming g a = record { names = replica_names a.cores.replica }

-- the publication that just began, in the order that the replica keeps; nothing is known before
abbrev pub ghosts-run_named-K-Naming : goal.ghosts-run_named-K-Naming
ghosts-run_named-K-Naming g a = record { book = a.publication.book; preserve = a.cores.replica.preserve; known = None }
