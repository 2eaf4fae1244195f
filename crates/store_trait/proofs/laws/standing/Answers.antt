use Rattle.store_trait.proofs.Values.{standing_fits, fits_stand}
use Rattle.store_trait.proofs.laws.standing.Goals as goal

pub returns-clause-fit : goal.returns-clause-fit
returns-clause-fit c = standing_fits

pub returns-clause-stand : goal.returns-clause-stand
returns-clause-stand c = fits_stand
