-- What steps do to a copy.
use Rattle.std.specs.Prelude.{◌≡◌, List, [], ◌∷◌, fold}
use Rattle.store_trait.specs.declared.Op.{Op}
use Rattle.store_trait.specs.Batch.{put_batch}
use Rattle.store_trait.specs.Operation.{batch_of, left_by}
use Rattle.published.specs.VersionValue.{VersionValue}
use Rattle.published.specs.declared.version.CopyStep.{CopyStep}
use Rattle.published.specs.declared.version.CopyStep.TheVariants.{Put, Note}

abbrev pub after_step : {J : Type 0} → VersionValue → CopyStep J → VersionValue
after_step held (Put op) = record held { rows = put_batch (batch_of op) held.rows }
after_step held (Note ops) = record held { by = ops }

-- the operations among the steps
abbrev pub puts_in : {J : Type 0} → List (CopyStep J) → List Op
puts_in [] = []
puts_in (Put op ∷ steps) = op ∷ puts_in steps
puts_in (Note ops ∷ steps) = puts_in steps

-- after the steps the rows are what the operations leave
abbrev pub Settles : {J : Type 0} → VersionValue → List (CopyStep J) → Type 0
Settles held steps = (fold after_step held steps).rows ≡ left_by (fold after_step held steps).by
