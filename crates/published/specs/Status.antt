-- The rule of the status words: those who read them see what was stored, in turn, and none of it falls.
use Rattle.std.specs.Prelude.{◌≡◌, ℕ, ◌≤◌, true, false, List, [], ◌∷◌}
use mathlib.Core.Option.{some}
use mathlib.Core.List.{IsSuffix}
use lib.ListN.{get_elem?}
use Rattle.atomic_table.specs.Seated.{TableId}
use Rattle.published.specs.declared.counts.Counts.{Counts}
use Rattle.published.specs.declared.counts.Look.{Look}

abbrev pub counts_of : ℕ → ℕ → ℕ → Counts
counts_of received committed published = record { received = received; committed = committed; published = published }

-- no more is published than committed, and no more committed than received
abbrev pub InOrder : Counts → Type 0
InOrder c = (c.published ≤ c.committed) × (c.committed ≤ c.received)

-- none of the three numbers falls
abbrev pub NoneFalls : Counts → Counts → Type 0
NoneFalls before after = (before.received ≤ after.received) × (before.committed ≤ after.committed) × (before.published ≤ after.published)

-- of the counts that were stored, of which the last stands first, the last; all 0 where none were
abbrev pub latest : List Counts → Counts
latest [] = counts_of 0 0 0
latest (c ∷ stored) = c

-- all are in order, and none falls behind the one before
abbrev pub AreReports : List Counts → Type 0
AreReports [] = Unit {0}
AreReports (c ∷ stored) = InOrder c × NoneFalls (latest stored) c × AreReports stored

-- which words they are, and the counts that were stored, the last first, as far as one has stored or seen them
pub record Reported : Type 0 where
  pub cell : TableId
  pub stored : List Counts

-- The words are what was stored last. Each pass has seen all that was stored up to some time, and the one that
-- stores, of which there is one at most, all of it
pub record KeepsLatest (words : Counts) (views : List Look) : Type 0 where
  pub stored : List Counts
  pub reports : AreReports stored
  pub last : words ≡ latest stored
  pub writer : ℕ
  pub seen : (pass : ℕ) (v : Look) → get_elem? views pass ≡ some v → IsSuffix v.seen stored × (v.stores ≡ true → (pass ≡ writer) × (v.seen ≡ stored))

-- nothing was stored, and the pass is the one that stores
abbrev pub beginner : Look
beginner = record { seen = []; stores = true }

abbrev pub watching : Look → Look
watching v = record v { stores = false }

-- one more was stored
abbrev pub Stores : Look → Counts → Counts → Look → Type 0
Stores v x y w = (w.seen ≡ y ∷ v.seen) × (w.stores ≡ true)

-- What was found is the last of all that is then seen, which goes on from what was seen. There is no more of it
-- for the one who stores
pub record Finds (v : Look) (x y : Counts) (w : Look) : Type 0 where
  pub found : x ≡ latest w.seen
  pub later : IsSuffix v.seen w.seen
  pub reports : AreReports w.seen
  pub own : v.stores ≡ true → w.seen ≡ v.seen
  pub same : w.stores ≡ v.stores
