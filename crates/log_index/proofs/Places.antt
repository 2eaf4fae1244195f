-- Entries by their places: the number of each, and the rows that it touches.
use Rattle.std.proofs.Common.{◌≡◌, ℕ, suc, ◌≤◌, List, [], ◌∷◌, length, map, Some, refl, arith}
use Rattle.std.specs.List.{AllByRecursion, slice_get}
use Rattle.std.proofs.lemmas.Option.{slice_get_within}
use Rattle.schema.specs.Rows.{Touched}
use Rattle.schema.specs.Covering.{Covers}
use Rattle.schema.proofs.Covers.{covers_at_end}
use Rattle.log_index.specs.declared.Entry.{Entry}
use Rattle.log_index.specs.Log.{IsNumbered, entry_place}

-- what is true at each place is true of each entry
each_place : (parent : ℕ) (log : List Entry) → ((i : ℕ) (entry : Entry) → slice_get log i ≡ Some entry → entry.sequence ≤ parent) → AllByRecursion (λ before. before.0 ≤ parent) (map entry_place log)
each_place parent [] at = tt
each_place parent (entry ∷ log) at = (at 0 entry refl, each_place parent log (λ i next is. at (suc i) next is))

-- the number of entries covers them all
pub length_covers : (log : List Entry) (rows : Touched) (parent : ℕ) → IsNumbered log → length log ≤ parent → Covers (map entry_place log) rows parent
length_covers log rows parent numbered long =
    covers_at_end (map entry_place log) rows parent
    (each_place parent log (λ i entry is. omega (arith, (numbered i entry is).number, slice_get_within log i entry is)))
