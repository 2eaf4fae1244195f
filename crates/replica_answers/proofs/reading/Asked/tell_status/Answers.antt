use Rattle.replica_answers.proofs.Told.{on_ok}
use Rattle.replica_answers.proofs.reading.Asked.tell_status.Goals as goal

pub returns : goal.returns
returns g c = on_ok c.writeln.result c.writeln.ensures.bytes (λ text. (c.status-counts.result, c.status-counts.ensures, text))
