-- What the sessions of `threads` write, what their rows are in the end, when both sides came to the same, and what is printed.
use Rattle.std.specs.Prelude.{◌≡◌, ℕ, ℤ, pos, ◌+◌, ◌-◌, ◌*◌, ◌≤◌, nat_lt, nat_le, if◌then◌else◌, Bool, true, List, [], ◌∷◌, ◌++◌, All, length, take, codes, Option, Some, None, option_and_then}
use mathlib.Core.List.{IsPrefix}
use Rattle.std.specs.List.{list_all}
use Rattle.std.specs.FinMap.{get}
use Rattle.std.specs.Fmt.{decimal}
use Rattle.std.specs.Io.KnownBytes.{Appends}
use Rattle.store_trait.specs.declared.Op.{Op}
use Rattle.store_trait.specs.Operation.{loaded}
use Rattle.record_codec.specs.Log.{after}
use Rattle.source_core.specs.declared.transaction.Receipt.{Receipt}
use Rattle.source_core.specs.Source.{Source, IsSound as IsSoundSource}
use Rattle.source_shared.specs.Engine.{IsCommitted}
use Rattle.scheduler.specs.Gnos.{low_of}
use Rattle.gapped.specs.Gapped.{gapped, IsClosed}
use Rattle.replica_core.specs.Replica.{Replica, ran, operations, operations_in_order}
use Rattle.replica_core.specs.Sound.{IsSound as IsSoundReplica}
use Rattle.published.specs.History.{commits_in}
use Rattle.schema.specs.declared.RowId.{RowId}
use Rattle.rows.specs.declared.Change.{Change}
use Rattle.rows.specs.declared.Change.TheVariants.{Insert, Update}
use Rattle.mtr.specs.Reading.{NoneFalls, AreTold}
use Rattle.mtr.specs.declared.ending.Ending.{Ending}
use Rattle.mtr.specs.declared.ending.Ending.TheVariants as endings
use Rattle.mtr.specs.declared.options.Plan.{Plan}
use Rattle.mtr.specs.declared.threads.ended.Ended.{Ended}
use Rattle.mtr.specs.declared.threads.reading.Shown.{Shown}
use Rattle.mtr.specs.declared.threads.Verdict.{Verdict}
use Rattle.mtr.specs.declared.threads.Verdict.TheVariants as verdicts

-- the row of a session's transaction, both counted from 1
abbrev pub row_of : ℕ → ℕ → RowId
row_of session transaction = record { table = 1; key = pos (65536 * session + transaction) }

-- the transaction inserts its row: the session's number, and its own
abbrev pub inserted : ℕ → ℕ → Change
inserted session transaction = Insert (row_of session transaction) (pos session ∷ pos transaction ∷ [])

-- and, from the second on, sets column 1 of the row before to its own number; 2 is the mask of column 1 alone
abbrev pub set_before : ℕ → ℕ → Change
set_before session transaction = Update (row_of session (transaction - 1)) (record { mask = 2; values = pos transaction ∷ [] })

-- so after so many transactions each row has the number of the transaction behind its own, and the last row its own
abbrev pub row_left : ℕ → ℕ → ℕ → List ℤ
row_left session transaction transactions =
    pos session ∷ pos (if nat_lt transaction transactions then transaction + 1 else transaction) ∷ []

-- the greatest number of these receipts, 0 where there are none: the least that none of them passes
pub record IsLast (receipts : List Receipt) (last : ℕ) : Type 0 where
  pub all : All (λ (r : Receipt). r.gno ≤ last) receipts
  pub least : (bound : ℕ) → All (λ (r : Receipt). r.gno ≤ bound) receipts → last ≤ bound

-- no answer is of more commits
abbrev pub are_within : ℕ → List Shown → Bool
are_within most shown = list_all (λ (s : Shown). nat_le (s.answer.upto + s.answer.more) most) shown

-- What holds of both sides however they ended. The replica kept the order of the log or did not, as planned. The sessions' receipts are
-- those of committed records of the source, and what readers saw are beginnings of what the replica published: the operations of the
-- first records that it committed.
pub record IsEnded {S T : Type 0} (plan : Plan) (e : Ended S T) : Type 0 where
  pub order : e.replica.preserve ≡ plan.sides.preserve
  pub tables : e.replica.tables ≡ e.source.tables
  pub given : All (IsCommitted e.source) e.receipts.items
  pub shown : List Op
  pub are : shown ≡ operations e.replica.tables e.replica.base (ran e.replica) (commits_in shown)
  pub in_order : e.replica.preserve ≡ true → shown ≡ operations_in_order e.replica.tables e.replica.base e.replica.accepted (commits_in shown)
  pub within : commits_in shown ≤ length e.replica.commits
  pub counted : e.replica.published ≡ commits_in shown
  pub told : All (λ v. AreTold e.replica.preserve shown v.items) e.readings.items
  -- both keep all records
  pub keep : (e.source.keeps ≡ true) × (e.replica.keeps ≡ true)

-- a reader read a hundred times at least
abbrev pub has_read : List Shown → Bool
has_read shown = nat_le 100 (length shown)

-- as many workers did all that there was, and as many readers read as often as they are to, as planned; and each row of the sessions
-- was found as they left it
pub record TookPart {S T : Type 0} (plan : Plan) (e : Ended S T) : Type 0 where
  pub workers : e.counts.workers ≡ plan.sides.workers
  pub readers : length e.readings.items ≡ plan.seats
  pub reads : list_all (λ v. has_read v.items) e.readings.items ≡ true
  pub rows : e.counts.rows ≡ plan.sessions * plan.transactions

-- What was compared: all that was planned took part, both sides began with the same rows, and what the replica accepted is a
-- beginning of the source's log; it published as many commits as it told, and no reader saw more.
pub record Agree {S T : Type 0} (plan : Plan) (e : Ended S T) : Type 0 where
  pub took_part : TookPart plan e
  pub counted : e.replica.published ≡ e.published
  pub rows : loaded e.source.base ≡ loaded e.replica.base
  pub begins : IsPrefix e.replica.accepted e.source.log
  pub within : list_all (λ v. are_within e.published v.items) e.readings.items ≡ true

-- The answer is of so many commits, no more than these. In the order of the log it is the row as it is in the source's database after the
-- first so many records of its log. In any order it is the row as the records of these commits leave it, one after another in the order of
-- the source's log, and with each of them each earlier one is among them that conflicts with it.
pub record IsOfSource (s : Source) (r : Replica) (most : ℕ) (a : Shown) : Type 0 where
  pub within : a.answer.upto + a.answer.more ≤ most
  pub in_order : r.preserve ≡ true → (a.answer.more ≡ 0) × (a.answer.row ≡ option_and_then (λ db. get db a.id) (after s.tables (loaded s.base) (take a.answer.upto s.log)))
  pub mark : a.answer.upto ≡ low_of (take (a.answer.upto + a.answer.more) r.commits)
  pub closed : IsClosed (take (a.answer.upto + a.answer.more) r.commits) s.log
  pub row : a.answer.row ≡ option_and_then (λ db. get db a.id) (gapped s.tables (loaded s.base) s.log (take (a.answer.upto + a.answer.more) r.commits))

-- and so is each that a reader saw, and none shows fewer commits than one before it
pub record AreOfSource (s : Source) (r : Replica) (most : ℕ) (shown : List Shown) : Type 0 where
  pub each : All (IsOfSource s r most) shown
  pub none_falls : NoneFalls shown

-- Both sides came to the same. They are over one schema and began with the same rows, and what the replica accepted is a
-- beginning of the source's log, which is legal over these. The receipts are those of committed records, the greatest of them
-- this one; so many commits are published at the replica, which kept the order of the log or did not, as planned. Whatever its readers
-- saw, the source's database had: in the order of the log after its first records, in any order as the records of some commits leave it.
-- All workers and readers that were planned took part, and each row was found.
pub record AreEqual {S T : Type 0} (log published : ℕ) (plan : Plan) (e : Ended S T) : Type 0 where
  pub took_part : TookPart plan e
  pub order : e.replica.preserve ≡ plan.sides.preserve
  pub legal : IsSoundSource e.source
  pub sound : IsSoundReplica e.replica
  pub tables : e.replica.tables ≡ e.source.tables
  pub rows : loaded e.source.base ≡ loaded e.replica.base
  pub begins : IsPrefix e.replica.accepted e.source.log
  pub given : All (IsCommitted e.source) e.receipts.items
  pub last : IsLast e.receipts.items log
  pub committed : log ≤ e.source.committed
  pub counted : e.replica.published ≡ published
  pub answers : All (λ v. AreOfSource e.source e.replica published v.items) e.readings.items

-- a verdict of equal sides is of two that are, and the other of two that do not agree
abbrev pub Holds : {S T : Type 0} → Verdict → Plan → Ended S T → Type 0
Holds (verdicts.Equal log published) plan e = AreEqual log published plan e
Holds verdicts.Different plan e = ¬ Agree plan e

-- the verdict is that of these two sides; where a call was refused before they ended they count as different
abbrev pub IsVerdictOf : {S T : Type 0} → Verdict → Plan → Option (Ended S T) → Type 0
IsVerdictOf verdict plan None = verdict ≡ verdicts.Different
IsVerdictOf verdict plan (Some e) = IsEnded plan e × Holds verdict plan e

-- what is printed, and the ending with it
abbrev pub verdict_text : Verdict → List ℕ
verdict_text (verdicts.Equal log published) = codes "log " ++ decimal log ++ codes " published " ++ decimal published ++ codes " equal"
verdict_text verdicts.Different = codes "different"

abbrev pub ending_for : Verdict → Ending
ending_for (verdicts.Equal log published) = endings.Done
ending_for verdicts.Different = endings.Different

-- the line of the verdict of these two sides is printed
pub record PrintsVerdict {S T : Type 0} (plan : Plan) (ending : Ending) (ended : Option (Ended S T)) (before printed : Option (List ℕ)) : Type 0 where
  pub verdict : Verdict
  pub holds : IsVerdictOf verdict plan ended
  pub ends : ending ≡ ending_for verdict
  pub line : Appends before printed (verdict_text verdict ++ 10 ∷ [])
