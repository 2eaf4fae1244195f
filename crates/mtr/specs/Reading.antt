-- What a reader of the replica saw.
use Rattle.std.specs.Prelude.{◌≡◌, ◌+◌, ◌≤◌, Bool, true, List, All}
use Rattle.std.specs.List.{AllPairs}
use Rattle.std.specs.FinMap.{get as row_of}
use mathlib.Core.List.{IsPrefix}
use Rattle.store_trait.specs.declared.Op.{Op}
use Rattle.store_trait.specs.Operation.{left_by}
use Rattle.scheduler.specs.Gnos.{low_of}
use Rattle.published.specs.History.{IsHistory, gnos_of, commits_in}
use Rattle.mtr.specs.declared.threads.reading.Shown.{Shown}

-- what a reader's seat knows, and all that it answered, in order
pub record Reading : Type 0 where
  pub known : List Op
  pub shown : List Shown

-- The answer is of a beginning of these operations: the row as they leave it, up to which number they have all commits, and how many
-- they have in all. In the order of the log they have no others.
pub record IsSeen (preserve : Bool) (known : List Op) (s : Shown) : Type 0 where
  pub seen : List Op
  pub begins : IsPrefix seen known
  pub history : IsHistory preserve seen
  pub mark : s.answer.upto ≡ low_of (gnos_of seen)
  pub count : s.answer.upto + s.answer.more ≡ commits_in seen
  pub upto : preserve ≡ true → s.answer.upto ≡ commits_in seen
  pub row : s.answer.row ≡ row_of (left_by seen) s.id

-- the later answer is of no fewer commits: neither of the first ones, without a gap, nor in all
abbrev pub IsNoFewer : Shown → Shown → Type 0
IsNoFewer before later = (before.answer.upto ≤ later.answer.upto) × (before.answer.upto + before.answer.more ≤ later.answer.upto + later.answer.more)

-- no answer is of fewer commits than one before it
abbrev pub NoneFalls : List Shown → Type 0
NoneFalls shown = AllPairs IsNoFewer shown

-- the answers of a seat that knows these operations
pub record AreSeen (preserve : Bool) (known : List Op) (shown : List Shown) : Type 0 where
  pub each : All (IsSeen preserve known) shown
  pub none_falls : NoneFalls shown

-- the answers of a seat that knows of all that was published in the end
pub record AreTold (preserve : Bool) (published : List Op) (shown : List Shown) : Type 0 where
  pub known : List Op
  pub learnt : IsPrefix published known
  pub seen : AreSeen preserve known shown
