use Rattle.std.proofs.Common.{None}
use Rattle.replica_shared.specs.Names.{replica_names}
use Rattle.embedding.proofs.open.Given as goal

-- the history of receipts that was just made, and the rows and the tables of the source
abbrev pub ghosts-run-J-SourceNaming : goal.ghosts-run-J-SourceNaming
ghosts-run-J-SourceNaming g a = record { book = a.receipts; base = a.pair.source.base; tables = a.pair.source.tables }

-- the tables, the source and the rows of the replica
abbrev pub ghosts-run-K-ReplicaNaming : goal.ghosts-run-K-ReplicaNaming
ghosts-run-K-ReplicaNaming g a = record { names = replica_names a.pair.replica }

-- the publication that just began, in the order that the replica keeps; nothing is known before
abbrev pub ghosts-run-K-Naming : goal.ghosts-run-K-Naming
ghosts-run-K-Naming g a = record { book = a.publication.book; preserve = a.pair.replica.preserve; known = None }
