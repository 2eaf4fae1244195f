use Rattle.std.proofs.Common.{true}
use Rattle.replica_shared.specs.Names.{replica_names}
use Rattle.replica_answers.specs.Followed.{log_in, known_over}
use Rattle.replica_answers.proofs.replicating.replica_over.Given as goal

-- the tables, the source and the rows of the replica, and the records of the wire
abbrev pub ghosts-run_core-K-ReplicaNaming : goal.ghosts-run_core-K-ReplicaNaming
ghosts-run_core-K-ReplicaNaming g a = record { names = record (replica_names a.core) { log = log_in (g.F.Read.remaining a.wire.input) } }

-- the publication that just began, in the order of the log
abbrev pub ghosts-run_core-K-Naming : goal.ghosts-run_core-K-Naming
ghosts-run_core-K-Naming g a = record {
  book = a.publication.book;
  preserve = true;
  known = known_over a.core.tables a.core.base (log_in (g.F.Read.remaining a.wire.input));
}
