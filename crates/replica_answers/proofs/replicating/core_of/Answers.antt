use Rattle.store_trait.proofs.Values.{fits_apart, fits_of_tables}
use Rattle.replica_answers.proofs.replicating.core_of.Goals as goal

pub new-requires-clause-apart : goal.new-requires-clause-apart
new-requires-clause-apart g c = fits_apart _ _ c.in-Ok.ensures.fits

pub new-requires-clause-tables : goal.new-requires-clause-tables
new-requires-clause-tables g c = fits_of_tables _ _ c.in-Ok.ensures.fits
