-- The holders of marks, as they are handed out with a job.
use Rattle.std.specs.Prelude.{ℤ, IsTrue, List, Option, None, unwrap_or}
use Rattle.std.specs.FinMap.{find, is_sorted}
use Rattle.schema.specs.RowId.{row_cmp}
use Rattle.schema.specs.Rows.{Mark}

-- a mark, and the key of the row that has it, where one has
abbrev pub Holder : Type 0
Holder = Mark × Option ℤ

-- the marks strictly rise, so that none comes twice
abbrev pub AreHolders : List Holder → Type 0
AreHolders holders = IsTrue (is_sorted row_cmp holders)

-- the holder of a mark among these; none for a mark that is not there
abbrev pub held : List Holder → Mark → Option ℤ
held holders mark = unwrap_or (find row_cmp mark holders) None
