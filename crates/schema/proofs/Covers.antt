-- Which parents cover.
use Rattle.std.proofs.Common.{◌≡◌, ◌∙◌, refl, ℕ, ◌≤◌, Bool, true, false, not, ◌||◌, nat_le, List, [], ◌∷◌, map}
use Rattle.std.specs.List.{AllByRecursion, list_all}
use Rattle.std.proofs.lemmas.Bool.{and_parts, leb-true, le-leb}
use Rattle.schema.specs.Rows.{Touched, SameRows, conflicts}
use Rattle.schema.specs.Covering.{Covers}
use Rattle.schema.proofs.Conflicts.{both_ways, by_sets}

-- what conflicts with rows conflicts with any other list of the same rows
with_same : (a rows others : Touched) → SameRows rows.writes others.writes → SameRows rows.refs others.refs → SameRows rows.marks others.marks → conflicts a rows ≡ conflicts a others
with_same a rows others writes refs marks = both_ways a rows ∙ by_sets rows others a writes refs marks ∙ both_ways others a

pub covers_by_sets : (past : List (ℕ × Touched)) (rows others : Touched) (parent : ℕ) → SameRows rows.writes others.writes → SameRows rows.refs others.refs → SameRows rows.marks others.marks →
    Covers past rows parent → Covers past others parent
covers_by_sets [] rows others parent writes refs marks all = tt
covers_by_sets (before ∷ past) rows others parent writes refs marks all =
    (λ h. all.0 (with_same before.1 rows others writes refs marks ∙ h), covers_by_sets past rows others parent writes refs marks all.1)

-- a parent that nothing is numbered above covers all rows
pub covers_at_end : (past : List (ℕ × Touched)) (rows : Touched) (parent : ℕ) → AllByRecursion (λ before. before.0 ≤ parent) past → Covers past rows parent
covers_at_end [] rows parent all = tt
covers_at_end (before ∷ past) rows parent all = (λ _. all.0, covers_at_end past rows parent all.1)

-- ---- the test of what has a place in a history

-- the test of one, by its number and what it touches
abbrev pub is_passed : {X : Type 0} → (X → ℕ × Touched) → Touched → ℕ → X → Bool
is_passed place rows parent x = nat_le (place x).0 parent || not (conflicts (place x).1 rows)

passed : (within conflict : Bool) → (within || not conflict) ≡ true → conflict ≡ true → within ≡ true
passed true conflict e h = refl
passed false true e h = e
passed false false e h = h

passes : (within conflict : Bool) → (conflict ≡ true → within ≡ true) → (within || not conflict) ≡ true
passes true conflict h = refl
passes false true h = h refl
passes false false h = refl

pub passed_covers : {X : Type 0} (place : X → ℕ × Touched) (log : List X) (rows : Touched) (parent : ℕ) → list_all (is_passed place rows parent) log ≡ true → Covers (map place log) rows parent
passed_covers place [] rows parent e = tt
passed_covers place (x ∷ log) rows parent e =
    let parts = and_parts (is_passed place rows parent x) (list_all (is_passed place rows parent) log) e in
    (λ h. leb-true (place x).0 parent (passed (nat_le (place x).0 parent) (conflicts (place x).1 rows) parts.0 h), passed_covers place log rows parent parts.1)

pub covers_passes : {X : Type 0} (place : X → ℕ × Touched) (log : List X) (rows : Touched) (parent : ℕ) → Covers (map place log) rows parent → list_all (is_passed place rows parent) log ≡ true
covers_passes place [] rows parent all = refl
covers_passes place (x ∷ log) rows parent all =
    rw (passes (nat_le (place x).0 parent) (conflicts (place x).1 rows) (λ h. le-leb (place x).0 parent (all.0 h))) (covers_passes place log rows parent all.1)
