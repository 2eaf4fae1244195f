-- The rule of the history that all who publish and read share, and what a step that adds to it tells.
use Rattle.std.specs.Prelude.{ℕ, ◌≡◌, ◌≤◌, ◌==◌, true, List, [], ◌∷◌, ◌++◌, length}
use Rattle.std.specs.Bool.{OnTrue}
use Rattle.std.specs.List.{flat_map}
use Rattle.logbook.specs.Pages.{Cell, Step, View, Book, Named}
use Rattle.store_trait.specs.declared.Op.{Op}
use Rattle.published.specs.History.{commits_in}

-- the operations of all parts
abbrev pub operations_of : List (List Op) → List Op
operations_of parts = flat_map (λ part. part) parts

-- there is an operation at least, and the one word is the number of commits
pub record CountsCommits (cells : List Cell) (log : List (List Op)) : Type 0 where
  pub words : cells ≡ (commits_in (operations_of log), true) ∷ []
  pub begun : 1 ≤ length (operations_of log)

abbrev pub head_of : Book → Named
head_of b = record { tracked = true; key = 0; book = b }

-- where the number found was the one expected, the operations were added to all that had been seen
abbrev pub Adds : Step (List Op) → View (List Op) ℕ → ℕ → View (List Op) ℕ → Type 0
Adds s v found w = OnTrue (found == s.old) (operations_of w.0 ≡ operations_of v.0 ++ s.ask)
