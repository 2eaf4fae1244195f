-- Changes that are run over the rows and the holders that were handed out, and what each database makes of them that agrees there.
use Rattle.std.specs.Prelude.{◌≡◌, true, List, Option, Some, option_to_list}
use Rattle.std.specs.Option.{option_map}
use Rattle.std.specs.FinMap.{get}
use Rattle.schema.specs.declared.Table.{Table}
use Rattle.schema.specs.Rows.{Mark, has_row}
use Rattle.rows.specs.declared.Change.{Change}
use Rattle.rows.specs.declared.step.Step.{Step}
use Rattle.rows.specs.Database.{Database, target, writes, apply, step_between, NoValueTwice}
use Rattle.rows.specs.Frame.{AgreeOn}
use Rattle.rows.specs.Given.{given_parent, given_parents, given_mark, given_marks}
use Rattle.rows.specs.Holders.{holder_of}
use Rattle.executor.specs.Held.{Holder, held}

-- A database of which the rows that the changes write, the parents that they give, and the holders of the values that they give
-- are the ones handed out. No two of its rows have one value.
pub record IsShown (ts : List Table) (changes : List Change) (rows : Database) (holders : List Holder) (db : Database) : Type 0 where
  pub apart : NoValueTwice ts db
  pub written : AgreeOn (writes changes) rows db
  pub parents : AgreeOn (given_parents ts changes) rows db
  pub values : (mark : Mark) → has_row (given_marks ts changes) mark ≡ true → holder_of ts db mark ≡ held holders mark

-- like `IsShown`, but for one change
pub record ShowsOne (ts : List Table) (change : Change) (rows : Database) (holders : List Holder) (db : Database) : Type 0 where
  pub apart : NoValueTwice ts db
  pub row : get rows (target change) ≡ get db (target change)
  pub parent : AgreeOn (option_to_list (given_parent ts change)) rows db
  pub holder : (mark : Mark) → given_mark ts change ≡ Some mark → holder_of ts db mark ≡ held holders mark

-- what a change does to its row in a database, where it applies there
abbrev pub step_there : List Table → Change → Database → Option Step
step_there ts change db = option_map (step_between ts change db) (apply ts change db)
