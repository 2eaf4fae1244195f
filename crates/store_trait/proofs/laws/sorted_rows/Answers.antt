use Rattle.store_trait.proofs.Sorting.{sorted_rows_rise, rising_rows_differ}
use Rattle.store_trait.proofs.laws.sorted_rows.Goals as goal

pub returns : goal.returns
returns c = record { rise = sorted_rows_rise; differ = rising_rows_differ }
