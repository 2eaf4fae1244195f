use Rattle.std.proofs.Common.{None}
use Rattle.tests_threads.proofs.publishing.has_run.Given as goal

-- the publication that was just begun, and whether it is in the order of the log
abbrev pub ghosts-run_over : goal.ghosts-run_over
ghosts-run_over g a = record { book = a.beginning.book; preserve = a.preserve; known = None }
