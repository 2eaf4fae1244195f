use Rattle.std.proofs.Common.{◌∙◌, sym}
use Rattle.embedding_files.proofs.Holds.{holds_all}
use Rattle.embedding_files.proofs.opening.open_or_make.Goals as goal

pub returns-clause-log : goal.returns-clause-log
returns-clause-log g c =
    holds_all c.in_ok-log.log c.in_ok-core.core.log c.in_ok-log.ensures c.in_ok-refuse_old.ensures (sym (c.in_ok-core.ensures.log ∙ c.deref.ensures.value ∙ c.in_ok-records.ensures))
