use Rattle.std.proofs.Common.{None}
use Rattle.replica_shared.specs.Names.{replica_names}
use Rattle.tests_threads.proofs.replicas.has_run.Given as goal

-- the tables, the source and the rows of the core
abbrev pub ghosts-run_over-J-ReplicaNaming : goal.ghosts-run_over-J-ReplicaNaming
ghosts-run_over-J-ReplicaNaming g a = record { names = replica_names a.core }

-- the publication that just began, and whether the core keeps the order of the log
abbrev pub ghosts-run_over-J-Naming : goal.ghosts-run_over-J-Naming
ghosts-run_over-J-Naming g a = record { book = a.beginning.book; preserve = a.core.preserve; known = None }
