use Rattle.std.proofs.Common.{None}
use Rattle.replica_shared.specs.Names.{replica_names}
use Rattle.tests_pair.proofs.tests.one_thread.over_source.Given as goal

-- the tables, the source, the rows and the order of the replica, and the publication that just began
abbrev pub ghosts-over_both-K-ReplicaNaming : goal.ghosts-over_both-K-ReplicaNaming
ghosts-over_both-K-ReplicaNaming g a = record { names = replica_names a.core }

abbrev pub ghosts-over_both-K-Naming : goal.ghosts-over_both-K-Naming
ghosts-over_both-K-Naming g a = record { book = a.publication.book; preserve = a.core.preserve; known = None }
