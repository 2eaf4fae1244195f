-- The numbers of the commits that are appended, which may leave gaps.
use Rattle.std.specs.Prelude.{◌≡◌, ℕ, ◌+◌, ◌<◌, ◌≤◌, ◌⊎◌, List, [], ◌∷◌}
use Rattle.scheduler.specs.Gnos.{low_of}

-- the numbers, in rising order, and how many there is room for behind a gap
pub record Noted : Type 0 where
  pub gnos : List ℕ
  pub room : ℕ

-- rising numbers above the least, up to the most
abbrev pub RiseBetween : ℕ → ℕ → List ℕ → Type 0
RiseBetween least most [] = Unit {0}
RiseBetween least most (gno ∷ gnos) = (least < gno) × (gno ≤ most) × RiseBetween gno most gnos

-- the number may be added: it is the one behind the mark, or there is room
abbrev pub HasRoom : Noted → ℕ → Type 0
HasRoom noted gno = (gno ≡ low_of noted.gnos + 1) ⊎ (1 ≤ noted.room)
