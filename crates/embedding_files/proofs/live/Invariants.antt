use Rattle.embedding_files.proofs.live.Given as goal

-- the history of receipts that was just made, and the rows before the log and the tables of the source
abbrev pub ghosts-run : goal.ghosts-run
ghosts-run g a = record { book = a.receipts; base = a.opened.core.base; tables = a.opened.core.tables }
