use Rattle.store_trait.proofs.Values.{fits_apart, holder_is_first}
use Rattle.store_trait.proofs.laws.values.Goals as goal

pub returns-clause-apart : goal.returns-clause-apart
returns-clause-apart c = fits_apart

pub returns-clause-first : goal.returns-clause-first
returns-clause-first c = holder_is_first
