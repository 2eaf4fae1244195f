-- Records that go, and what is kept.
use Rattle.std.specs.Prelude.{◌≡◌, ℕ, ◌≤◌, Bool, true, List, ◌++◌, length, max}
use Rattle.record_codec.specs.declared.records.Record.{Record}

-- All records are those before, and of the first ones at most so many more are gone.
pub record Go (upto : ℕ) (old_gone old_kept gone kept : List Record) : Type 0 where
  pub same : gone ++ kept ≡ old_gone ++ old_kept
  pub within : length gone ≤ max (length old_gone) upto

-- What is gone of a log, of which only this many of the first records may go: nothing if all are to be kept.
pub record MayBeGone (keeps : Bool) (gone within_ : ℕ) : Type 0 where
  pub within : gone ≤ within_
  pub none : keeps ≡ true → gone ≡ 0
