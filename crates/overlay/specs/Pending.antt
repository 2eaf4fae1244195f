-- What a transaction has pending: its changes, what they leave of the rows that they are of, their kin and their marks.
use Rattle.std.specs.Prelude.{ℕ, ℤ, ◌+◌, ◌<◌, ◌≤◌, Bool, List, [], ◌∷◌, ◌++◌, length, vec_capacity, Option}
use Rattle.std.specs.FinMap.{find, put}
use Rattle.indexmap.specs.IndexMap.{spare}
use Rattle.schema.specs.declared.Table.{Table}
use Rattle.schema.specs.declared.RowId.{RowId}
use Rattle.schema.specs.RowId.{row_cmp}
use Rattle.schema.specs.Rows.{Mark}
use Rattle.rows.specs.declared.Change.{Change}
use Rattle.rows.specs.declared.step.Step.{Step}
use Rattle.rows.specs.Step.{target, kin_of, marks_of}
use Rattle.rows.specs.Database.{Database, writes, kin, marks}
use Rattle.store_trait.specs.Batch.{Entry, put_batch, rows_in, in_order}
use Rattle.overlay.specs.declared.room.Lists.{Lists}
use Rattle.overlay.specs.Keys.{same_keys}

-- the changes in order; in the order of row ids, each row that they are of with what they leave of it; and the parent rows and the marks
-- of each change's row, before it and after it, in the order of the changes
pub record Pending : Type 0 where
  pub changes : List Change
  pub left : List Entry
  pub kin : List RowId
  pub marks : List Mark

abbrev pub none_pending : Pending
none_pending = record { changes = []; left = []; kin = []; marks = [] }

-- with one more change, and its step
abbrev pub pushed : Pending → Change → Step → Pending
pushed pending change step = record {
  changes = pending.changes ++ change ∷ [];
  left = put row_cmp (target change) step.left pending.left;
  kin = pending.kin ++ kin_of step;
  marks = pending.marks ++ marks_of step;
}

-- what the changes leave of a row, where one of them is of it
abbrev pub left_at : Pending → RowId → Option (Option (List ℤ))
left_at pending q = find row_cmp q pending.left

-- a database as the transaction sees it, with its own changes
abbrev pub seen : Pending → Database → Database
seen pending db = put_batch pending.left db

-- what is pending once these changes, applied to the one database, left the other
abbrev pub pending_of : List Table → List Change → Database → Database → Pending
pending_of ts changes db after =
    record { changes = changes; left = rows_in (writes changes) after; kin = kin ts changes db; marks = marks ts changes db }

-- whether two lists are one set of rows, or of marks
abbrev pub same_rows : List RowId → List RowId → Bool
same_rows xs ys = same_keys row_cmp xs ys

-- what is pending, with room for one more change and its row, and for this many kin and marks in all
pub record Room : Type 0 where
  pub pending : Pending
  pub kin : ℕ
  pub marks : ℕ

-- the kin and the marks of one more step find room there
pub record HasRoom (room : Room) (step : Step) : Type 0 where
  pub kin : length room.pending.kin + length (kin_of step) ≤ room.kin
  pub marks : length room.pending.marks + length (marks_of step) ≤ room.marks

-- ---- what the lists of a transaction hold

abbrev pub pending_in : Lists → Pending
pending_in lists = record {
  changes = lists.changes.items;
  left = in_order lists.left.entries;
  kin = lists.kin.items;
  marks = lists.marks.items;
}

abbrev pub room_in : Lists → Room
room_in lists = record { pending = pending_in lists; kin = vec_capacity lists.kin; marks = vec_capacity lists.marks }

-- one more change fits there
abbrev pub TakesChange : Lists → Type 0
TakesChange lists = length lists.changes.items < vec_capacity lists.changes

-- and one more row
abbrev pub TakesRow : Lists → Type 0
TakesRow lists = 0 < spare lists.left
