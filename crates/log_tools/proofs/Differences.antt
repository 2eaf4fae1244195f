-- The lines of rows that are not the same.
use Rattle.std.proofs.Common.{◌≡◌, refl, ℤ, Bool, true, false, List, [], Option}
use Rattle.std.specs.Bool.{Decides}
use Rattle.std.specs.FinMap.{get as row_of}
use Rattle.std.proofs.lemmas.Bool.Decides.{Decides-int_eq}
use Rattle.std.proofs.lemmas.Slice.Eq.{slice_eq-Decides}
use Rattle.executor.proofs.Comparing.{option_Decides}
use Rattle.rows.specs.Database.{Database}
use Rattle.store_trait.specs.Batch.{Entry}
use Rattle.log_tools.specs.Diff.{same_values, changed_line, difference_line}

same_is : (mine theirs : Option (List ℤ)) → Decides (same_values mine theirs) (mine ≡ theirs)
same_is mine theirs = option_Decides (λ x y. slice_eq-Decides Decides-int_eq x y _ refl) mine theirs

not_so : (b : Bool) → (b ≡ true → ⊥) → b ≡ false
not_so true differs = absurd (differs refl)
not_so false differs = refl

pub line_same : (theirs : Database) (e : Entry) → e.1 ≡ row_of theirs e.0 → changed_line theirs e ≡ []
line_same theirs e is = rw ((same_is e.1 (row_of theirs e.0)).1 is) refl

pub line_other : (theirs : Database) (e : Entry) → (e.1 ≡ row_of theirs e.0 → ⊥) → changed_line theirs e ≡ difference_line e.0 e.1 (row_of theirs e.0)
line_other theirs e other = rw (not_so (same_values e.1 (row_of theirs e.0)) (λ so. other ((same_is e.1 (row_of theirs e.0)).0 so))) refl
