-- What follows from the definitions of logs.
use Rattle.std.specs.Prelude.{ℕ, ◌≤◌, List, length, map}
use Rattle.schema.specs.Rows.{Touched}
use Rattle.schema.specs.Covering.{Covers}
use Rattle.log_index.specs.declared.Entry.{Entry}
use Rattle.log_index.specs.Log.{IsNumbered, entry_place}

-- the number of entries of a log is a parent that covers all of them
abbrev pub LengthCovers : Type 0
LengthCovers = (log : List Entry) (rows : Touched) (parent : ℕ) → IsNumbered log → length log ≤ parent → Covers (map entry_place log) rows parent
