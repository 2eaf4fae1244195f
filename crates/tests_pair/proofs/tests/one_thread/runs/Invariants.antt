use Rattle.tests_pair.proofs.tests.one_thread.runs.Given as goal

-- the history of receipts that was just made, and the rows and the tables of the source
abbrev pub ghosts-over_source : goal.ghosts-over_source
ghosts-over_source g a = record { book = a.receipts; base = a.core.base; tables = a.core.tables }
