use Rattle.tests_threads.proofs.sources.has_run.Given as goal

-- the history that was just made, and the rows of the core
abbrev pub ghosts-run_over : goal.ghosts-run_over
ghosts-run_over g a = record { book = a.beginning; base = a.core.base; tables = a.core.tables }
