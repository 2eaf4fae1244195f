-- What follows: the order in which records were committed does not tell what they left, and over a log that a source wrote each
-- gapped state is one that its rules allow.
use Rattle.std.specs.Prelude.{◌≡◌, ℕ, ◌+◌, ◌≤◌, true, false, List, [], ◌∷◌, ◌++◌, length, take, Some}
use Rattle.schema.specs.declared.Table.{Table}
use Rattle.schema.specs.Rows.{conflicts}
use Rattle.rows.specs.Database.{Database, ChildrenHaveParents, NoValueTwice}
use Rattle.store_trait.specs.Batch.{Entry, put_batch}
use Rattle.record_codec.specs.declared.records.Record.{Record}
use Rattle.record_codec.specs.Group.{AreNumbered}
use Rattle.record_codec.specs.Log.{after, touched, IsLegalLog}
use Rattle.executor.specs.declared.Outcome.TheVariants.{Output}
use Rattle.executor.specs.Job.{outcome_over}
use Rattle.executor.specs.Laws.{IsGood, LooksAlike}
use Rattle.relay.specs.Relay.{AreAcceptable}
use Rattle.scheduler.specs.Gnos.{has_gno, first_gnos, IsLow}
use Rattle.gapped.specs.Gapped.{chosen, gapped, AreChosen, IsClosed, records_at, AreCommits}

-- ---- records that were committed in any order

-- a gapped state, and what the records leave in the order of their commits: one database
pub record IsState (ts : List Table) (base : Database) (log : List Record) (gnos : List ℕ) : Type 0 where
  pub closed : IsClosed gnos log
  pub left : Database
  pub ran : after ts base (records_at log gnos) ≡ Some left
  pub rows : gapped ts base log gnos ≡ Some left
  pub apart : NoValueTwice ts left

-- whatever log was received: commits in any order leave what their records leave in log order
abbrev pub RanIsGapped : Type 0
RanIsGapped = (ts : List Table) (base : Database) (log : List Record) (gnos : List ℕ) → NoValueTwice ts base → AreNumbered 1 log →
    AreCommits ts base log gnos → IsState ts base log gnos

-- the first so many of the numbers are a beginning of the log
abbrev pub FirstAreChosen : Type 0
FirstAreChosen = (log : List Record) (n : ℕ) → AreNumbered 1 log → chosen (first_gnos n) log ≡ take n log

-- the records of a longer log are the same, where the numbers are of the shorter
abbrev pub LongerLog : Type 0
LongerLog = (log more : List Record) (gnos : List ℕ) → AreNumbered 1 (log ++ more) →
    ((gno : ℕ) → has_gno gnos gno ≡ true → gno ≤ length log) → chosen gnos (log ++ more) ≡ chosen gnos log

-- ---- records that wait

-- it is of the log, not chosen, and each earlier one is that conflicts with it
pub record Waits (log : List Record) (gnos : List ℕ) (rec : Record) : Type 0 where
  pub front : List Record
  pub rest : List Record
  pub split : log ≡ front ++ rec ∷ rest
  pub new : has_gno gnos rec.gno ≡ false
  pub chosen_ : AreChosen gnos front rec

-- whatever log was received: where the parent is at most the low-water mark, each earlier record that conflicts is chosen
abbrev pub EligibleWaits : Type 0
EligibleWaits = (ts : List Table) (log front rest : List Record) (rec : Record) (gnos : List ℕ) (low : ℕ) → AreAcceptable ts log →
    log ≡ front ++ rec ∷ rest → rec.parent ≤ low → IsLow gnos low → AreChosen gnos front rec

-- of two that wait neither conflicts with the other
abbrev pub WaitingApart : Type 0
WaitingApart = (log : List Record) (gnos : List ℕ) (one other : Record) → AreNumbered 1 log → Waits log gnos one → Waits log gnos other →
    (one.gno ≡ other.gno → ⊥) → conflicts (touched one) (touched other) ≡ false

-- so what the one leaves looks alike to the other
abbrev pub WaitingLooksAlike : Type 0
WaitingLooksAlike = (ts : List Table) (log : List Record) (gnos : List ℕ) (one other : Record) (db : Database) →
    NoValueTwice ts db → AreNumbered 1 log → Waits log gnos one → Waits log gnos other → (one.gno ≡ other.gno → ⊥) →
    (good : IsGood ts one db) → LooksAlike ts other db good.leaves

-- The commit of a record that waits, whose outcome over the working rows is an output: it is one more commit, the rows that are put
-- make the gapped state of the longer list, and the record left them.
pub record CommitsOne (ts : List Table) (base : Database) (log : List Record) (gnos : List ℕ) (rec : Record) (rows : Database)
    (left : List Entry) : Type 0 where
  pub are : AreCommits ts base log (gnos ++ rec.gno ∷ [])
  pub good : IsGood ts rec rows
  pub rows_are : gapped ts base log (gnos ++ rec.gno ∷ []) ≡ Some good.leaves
  pub put : put_batch left rows ≡ good.leaves

abbrev pub CommitLeaves : Type 0
CommitLeaves = (ts : List Table) (base : Database) (log : List Record) (gnos : List ℕ) (rec : Record) (rows : Database)
    (left : List Entry) → NoValueTwice ts base → AreNumbered 1 log → AreCommits ts base log gnos → Waits log gnos rec →
    gapped ts base log gnos ≡ Some rows → outcome_over ts rec rows ≡ Output left → CommitsOne ts base log gnos rec rows left

-- ---- logs that a source wrote

-- what a base of such a log has: each child row its parent, and no two rows of a table one value in its unique column
pub record IsFit (ts : List Table) (db : Database) : Type 0 where
  pub parents : ChildrenHaveParents ts db
  pub apart : NoValueTwice ts db

-- a gapped state that has so too
pub record IsLegalState (ts : List Table) (base : Database) (log : List Record) (gnos : List ℕ) : Type 0 where
  pub left : Database
  pub rows : gapped ts base log gnos ≡ Some left
  pub fit : IsFit ts left

abbrev pub LegalIsGapped : Type 0
LegalIsGapped = (ts : List Table) (base : Database) (log : List Record) (gnos : List ℕ) →
    IsFit ts base → IsLegalLog ts base log → IsClosed gnos log → IsLegalState ts base log gnos

-- over such a log a record that waits is good
abbrev pub WaitingIsGood : Type 0
WaitingIsGood = (ts : List Table) (base : Database) (log : List Record) (gnos : List ℕ) (rec : Record) (db : Database) →
    NoValueTwice ts base → IsLegalLog ts base log → IsClosed gnos log → Waits log gnos rec → gapped ts base log gnos ≡ Some db →
    IsGood ts rec db
