-- Which parents cover what went before.
use Rattle.std.specs.Prelude.{◌≡◌, ℕ, ◌≤◌, true, List}
use Rattle.std.specs.List.{AllByRecursion}
use Rattle.schema.specs.Rows.{Touched, conflicts}

-- Each transaction before, as its sequence number and the rows that it touches, is numbered at most the parent
-- where it conflicts with these rows.
abbrev pub Covers : List (ℕ × Touched) → Touched → ℕ → Type 0
Covers past rows parent = AllByRecursion (λ before. conflicts before.1 rows ≡ true → before.0 ≤ parent) past
