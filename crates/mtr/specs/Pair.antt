-- What the pair of a source and a replica answers, and what is printed of it.
use Rattle.std.specs.Prelude.{◌≡◌, ℕ, ℤ, Bool, List, [], ◌∷◌, ◌++◌, map, Option, Some, Ok, IsPermutation}
use Rattle.std.specs.FinMap.{empty}
use Rattle.std.specs.Io.KnownBytes.{Appends}
use Rattle.rows.specs.Database.{Database}
use Rattle.schema.specs.declared.RowId.{RowId}
use Rattle.schema.specs.declared.Table.{Table}
use Rattle.store_trait.specs.Batch.{Entry, put_batch, all_rows}
use Rattle.tracker_trait.specs.Kind.{Kind}
use Rattle.record_codec.specs.declared.records.Record.{Record}
use Rattle.world.specs.declared.events.Event.{Event}
use Rattle.world.specs.declared.events.Reply.{Reply}
use Rattle.world.specs.Laws.{IsOnlyAnswer}
use Rattle.world.specs.Legal.{Setup, AreLegal}
use Rattle.world.specs.Run.{HasRun}
use Rattle.world.specs.State.{World}
use Rattle.script_text.specs.Printing.{lines_of}
use Rattle.mtr.specs.Script.{Said, script_of}

-- the row is there
abbrev pub present : RowId × List ℤ → Entry
present row = (row.0, Some row.1)

-- the identifier of the program's source
abbrev pub source : List ℕ
source = 109 ∷ 116 ∷ 114 ∷ 0 ∷ 0 ∷ 0 ∷ 64 ∷ 0 ∷ 128 ∷ 0 ∷ 0 ∷ 0 ∷ 0 ∷ 0 ∷ 0 ∷ 1 ∷ []

-- what the pair begins with: this source, these tables, the rows that the batch loads, parents by a tracker of this kind, so many
-- workers, and whether the replica commits in the order of the log
abbrev pub setup_of : Kind → List Table → List Entry → ℕ → Bool → Setup
setup_of kind ts base workers preserve = record {
  identifier = source;
  tables = ts;
  base = all_rows (put_batch base empty);
  limit = 9223372036854775807;
  kind = kind;
  workers = workers;
  preserve = preserve;
}

-- The world is new: it has a tracker of this kind, so many workers, this order of commits, these tables, and these rows at the start, in
-- some order.
pub record BeginsWith {D R : Type 0} (contents : R → Database) (kind : Kind) (workers : ℕ) (preserve : Bool) (tables : List Table) (rows : List (RowId × List ℤ)) (w : World D R) : Type 0 where
  pub base : List Entry
  pub given : IsPermutation (map present rows) base
  pub starts : HasRun contents (setup_of kind tables base workers preserve) [] [] w

-- The world goes on by these events from whatever runs it came by, by the source's own log, and the lines of
-- the replies are appended, in order.
pub record GoesOn {D R : Type 0} (contents : R → Database) (old new : World D R) (events : List Event) (before printed : Option (List ℕ)) : Type 0 where
  pub replies : List Reply
  pub goes_on : (setup : Setup) (es : List Event) (rs : List Reply) → HasRun contents setup es rs old → HasRun contents setup (es ++ events) (rs ++ replies) new
  pub lines : Appends before printed (lines_of replies)

-- What a script prints: over a pair of this tracker, of so many workers and of this order of commits, which begins with its tables and
-- its rows, one reply to each of its events.
-- They are legal over one log that is legal over the rows. With the order of the log kept each read at the replica answers as the source's
-- database after one beginning of that log, else as after the records whose commits it shows, in log order. Their lines are appended, in order.
pub record Prints (kind : Kind) (workers : ℕ) (preserve : Bool) (script : Said) (before printed : Option (List ℕ)) : Type 0 where
  pub base : List Entry
  pub given : IsPermutation (map present script.base) base
  pub replies : List Reply
  pub log : List Record
  pub legal : AreLegal (setup_of kind script.tables base workers preserve) log script.events replies
  -- and no other replies are legal, but for want of memory and for the choice of a sync or a rotation that fails, whatever stores keep the rows
  pub only : IsOnlyAnswer (setup_of kind script.tables base workers preserve) script.events replies
  pub lines : Appends before printed (lines_of replies)

-- what a text prints that is a script
pub record PrintsText (kind : Kind) (workers : ℕ) (preserve : Bool) (text : List ℕ) (before printed : Option (List ℕ)) : Type 0 where
  pub script : Said
  pub says : script_of text ≡ Ok script
  pub prints : Prints kind workers preserve script before printed
