use Rattle.std.proofs.lemmas.Bool.{false≢true}
use Rattle.gtid_set.proofs.Heads.{no_source}
use Rattle.gtid_set.proofs.reading.source_of.Goals as goal

pub returns-in-Err : goal.returns-in-Err
returns-in-Err c = no_source c.args.name.now c.requires (λ w. absurd (false≢true (c.in-Err.ensures.ok.1 w)))
