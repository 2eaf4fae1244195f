-- Rows with a gap of free places among them.
use Rattle.std.specs.Prelude.{◌≡◌, ℕ, ◌-◌, ◌≤◌, Bool, ◌&&◌, if◌then◌else◌, List, ◌++◌, length, is_some, is_none}
use Rattle.std.specs.List.{remove_range}
use Rattle.std.specs.FinMap.{get, remove}
use Rattle.schema.specs.declared.RowId.{RowId}
use Rattle.rows.specs.Database.{Database}
use Rattle.store_trait.specs.Batch.{Entry}
use Rattle.vector_store.specs.declared.put.Gap.{Gap}
use Rattle.vector_store.specs.Contents.{KeyedRow, contents_of, AreBefore, AreBehind, AreInOrder}

pub record IsGap (gap : Gap) (rows : List KeyedRow) : Type 0 where
  pub rises : gap.start ≤ gap.end
  pub within : gap.end ≤ length rows

-- the rows before the gap, and those behind it
abbrev pub around : Gap → List KeyedRow → List KeyedRow
around gap rows = remove_range rows gap.start gap.end

-- how many places are free
abbrev pub room_of : Gap → ℕ
room_of gap = gap.end - gap.start

-- the rows without the one of this id, those before it and those behind it
pub record IsParted (rows : List KeyedRow) (id : RowId) (front back : List KeyedRow) : Type 0 where
  pub order : AreInOrder (front ++ back)
  pub before : AreBefore front id
  pub behind : AreBehind id back
  pub removed : contents_of (front ++ back) ≡ remove (contents_of rows) id

abbrev pub count_of : Bool → ℕ
count_of b = if b then 1 else 0

-- the entry sets a row that is not there
abbrev pub is_new : Database → Entry → Bool
is_new db entry = is_some entry.1 && is_none (get db entry.0)
