use Rattle.moved_numbers.proofs.Epochs.{epochs_agree, epoch_goes_on}
use Rattle.moved_numbers.proofs.laws.epochs.Goals as goal

pub returns-clause-agree : goal.returns-clause-agree
returns-clause-agree c = epochs_agree

pub returns-clause-goes_on : goal.returns-clause-goes_on
returns-clause-goes_on c = epoch_goes_on
