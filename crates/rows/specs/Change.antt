-- What a change does to the one row that it is of.
use Rattle.std.specs.Prelude.{ℤ, List, Option, Some, None, Result, Ok, Err}
use Rattle.std.specs.Option.{option_map, ok_or}
use Rattle.rows.specs.declared.Change.{Change}
use Rattle.rows.specs.declared.Change.TheVariants.{Insert, Update, Delete}
use Rattle.rows.specs.declared.ChangeFault.{ChangeFault}
use Rattle.rows.specs.declared.ChangeFault.TheVariants.{Present, Absent, Columns}
use Rattle.rows.specs.Naming.{assigned}

-- the row after the change, or why it does not fit
abbrev pub changed : Change → Option (List ℤ) → Result (Option (List ℤ)) ChangeFault
changed (Insert row columns) None = Ok (Some columns)
changed (Insert row columns) (Some there) = Err Present
changed (Update row named) None = Err Absent
changed (Update row named) (Some there) = ok_or (option_map (λ columns. Some columns) (assigned named there)) Columns
changed (Delete row) None = Err Absent
changed (Delete row) (Some there) = Ok None
