-- The maps follow the rows.
use Rattle.std.specs.Prelude.{◌≡◌, List, ◌+◌, ◌≤◌}
use Rattle.std.specs.Map.{keys_of}
use Rattle.std.specs.FinMap.{empty, len}
use Rattle.schema.specs.declared.Table.{Table}
use Rattle.schema.specs.declared.RowId.{RowId}
use Rattle.rows.specs.Database.{Database, NoValueTwice}
use Rattle.store_trait.specs.Batch.{Entry, IsRising, put_batch}
use Rattle.overlay.specs.Children.{child_count}
use Rattle.row_index.specs.Keys.{Keys, Indexes, marks_at, moved}
use Rattle.row_index.specs.Counts.{Counts, CountsChildren, Recounts, parents_at, parents_left, times_in}

-- of no rows nothing is said
abbrev pub NoneIndexed : Type 0
NoneIndexed = (ts : List Table) → Indexes ts empty empty

abbrev pub NoneCounted : Type 0
NoneCounted = (ts : List Table) → CountsChildren ts empty empty

-- behind a batch the moved keys say who has each mark then, where no value stands twice before it and behind it
abbrev pub KeysFollow : Type 0
KeysFollow = (ts : List Table) (db : Database) (batch : List Entry) (keys : Keys) →
    IsRising batch → NoValueTwice ts db → NoValueTwice ts (put_batch batch db) → Indexes ts db keys →
    Indexes ts (put_batch batch db) (moved ts (marks_at ts (keys_of batch) db) batch keys)

-- and so do counts that moved as the parents of its rows did
abbrev pub CountsFollow : Type 0
CountsFollow = (ts : List Table) (db : Database) (batch : List Entry) (before after : Counts) →
    IsRising batch → CountsChildren ts db before → Recounts (parents_at ts (keys_of batch) db) (parents_left ts batch) before after →
    CountsChildren ts (put_batch batch db) after

-- behind a batch each row has as many children more as its rows name it then, and as many fewer as they did
abbrev pub ChildrenMove : Type 0
ChildrenMove = (ts : List Table) (db : Database) (batch : List Entry) (row : RowId) → IsRising batch →
    child_count ts (put_batch batch db) row + times_in (parents_at ts (keys_of batch) db) row ≡ child_count ts db row + times_in (parents_left ts batch) row

-- the rows of a batch that name a row as their parent are counted among its children
abbrev pub OldAreCounted : Type 0
OldAreCounted = (ts : List Table) (db : Database) (batch : List Entry) (row : RowId) → IsRising batch →
    times_in (parents_at ts (keys_of batch) db) row ≤ child_count ts db row

-- no row has more children than there are rows
abbrev pub ChildrenAreRows : Type 0
ChildrenAreRows = (ts : List Table) (db : Database) (row : RowId) → child_count ts db row ≤ len db
