use Rattle.replica_answers.proofs.WireRead.{reads_are_of_the_wire}
use Rattle.replica_answers.proofs.laws.reads_are_of_the_wire.Goals as goal

pub returns : goal.returns
returns c = reads_are_of_the_wire
