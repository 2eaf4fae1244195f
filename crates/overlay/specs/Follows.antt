-- What is pending of changes that apply one after another, what it shows, and how it goes on.
use Rattle.std.specs.Prelude.{◌≡◌, ℤ, true, List, Option, Some, Ok, unwrap_or}
use Rattle.std.specs.FinMap.{get}
use Rattle.schema.specs.declared.Table.{Table}
use Rattle.schema.specs.declared.RowId.{RowId}
use Rattle.rows.specs.declared.Change.{Change}
use Rattle.rows.specs.Change.{changed}
use Rattle.rows.specs.Step.{target, step_from}
use Rattle.rows.specs.Database.{Database, put_row, writes, apply, effect, step_between, kin, marks}
use Rattle.rows.specs.Effect.{parent_stands, value_stands}
use Rattle.rows.specs.Frame.{SameEffect}
use Rattle.store_trait.specs.Batch.{rows_in}
use Rattle.overlay.specs.Pending.{Pending, none_pending, pushed, left_at, seen}

-- the changes that are pending apply to db one after another and leave after, and what they leave is there, with their kin and marks
pub record Follows (ts : List Table) (db : Database) (pending : Pending) (after : Database) : Type 0 where
  pub applied : effect ts pending.changes db ≡ Some after
  pub left : pending.left ≡ rows_in (writes pending.changes) after
  pub kin : pending.kin ≡ kin ts pending.changes db
  pub marks : pending.marks ≡ marks ts pending.changes db

abbrev pub NoneFollows : Type 0
NoneFollows = (ts : List Table) (db : Database) → Follows ts db none_pending db

-- a change that fits the row that it is of, as the transaction sees it, and gives it a parent that is there and a value that no other
-- row has, if any, with its step
abbrev pub StepFollows : Type 0
StepFollows = (ts : List Table) (db : Database) (pending : Pending) (after : Database) (change : Change) (left : Option (List ℤ)) →
    Follows ts db pending after → changed change (get after (target change)) ≡ Ok left →
    parent_stands ts change after left ≡ true → value_stands ts change after left ≡ true →
    Follows ts db (pushed pending change (step_from ts change (get after (target change)) left)) (put_row after (target change) left)

-- a change that applies, with its step
abbrev pub PushedFollows : Type 0
PushedFollows = (ts : List Table) (db : Database) (pending : Pending) (after : Database) (change : Change) (next : Database) →
    Follows ts db pending after → apply ts change after ≡ Some next → Follows ts db (pushed pending change (step_between ts change after next)) next

-- a row is as the changes leave it, and else as it was
abbrev pub ShowsRows : Type 0
ShowsRows = (ts : List Table) (db : Database) (pending : Pending) (after : Database) →
    Follows ts db pending after → (q : RowId) → get after q ≡ unwrap_or (left_at pending q) (get db q)

-- what the transaction sees, and what its batch leaves
abbrev pub SeesAfter : Type 0
SeesAfter = (ts : List Table) (db : Database) (pending : Pending) (after : Database) → Follows ts db pending after → seen pending db ≡ after

-- changes that do the same to another database are seen over it with the same rows, kin and marks
abbrev pub MovesOver : Type 0
MovesOver = (ts : List Table) (db : Database) (pending : Pending) (after other : Database) →
    Follows ts db pending after → (same : SameEffect ts pending.changes db after other) → Follows ts other pending same.leaves
