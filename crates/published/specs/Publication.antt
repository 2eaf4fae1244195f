-- What contracts see of a publication that begins, and of its publisher.
use Rattle.std.specs.Prelude.{◌≡◌, ℕ, ◌-◌, ◌≤◌, Bool, Option, List, ◌++◌, length, drop}
use Rattle.logbook.specs.Pages.{Book}
use Rattle.rows.specs.Database.{Database}
use Rattle.store_trait.specs.Batch.{Entry}
use Rattle.store_trait.specs.declared.Op.{Op}
use Rattle.store_trait.specs.Operation.{left_by}
use Rattle.scheduler.specs.Gnos.{has_gno}
use Rattle.published.specs.History.{IsHistory, IsWithin, gnos_of, commits_in}

-- which publication it is, and the rows that are there at first
pub record Begun : Type 0 where
  pub book : Book
  pub base : List Entry

-- The operations that readers see, those that are appended behind them and not yet seen, and the history: what
-- readers may see. It is longer than what they see only where a `publish` was refused
pub record Publishing : Type 0 where
  pub published : List Op
  pub waiting : List Op
  pub history : List Op

-- what waits and is not in the history
abbrev pub unsaid : Publishing → List Op
unsaid p = drop (length p.history - length p.published) p.waiting

-- The shown rows are what the published operations left. What waits are commits behind these, whose numbers are noted with those of the
-- published ones. The history has the published operations, and of those that wait the first. If it is known what ever may be published, all
-- are a beginning of that
pub record IsTied (preserve : Bool) (known : Option (List Op)) (rows : Database) (p : Publishing) (gnos : List ℕ) : Type 0 where
  pub left : rows ≡ left_by p.published
  pub begun : 1 ≤ length p.published
  pub history : IsHistory preserve (p.published ++ p.waiting)
  pub has : (gno : ℕ) → has_gno gnos gno ≡ has_gno (gnos_of (p.published ++ p.waiting)) gno
  pub number : length gnos ≡ commits_in (p.published ++ p.waiting)
  pub whole : p.history ++ unsaid p ≡ p.published ++ p.waiting
  pub within : IsWithin known (p.published ++ p.waiting)
