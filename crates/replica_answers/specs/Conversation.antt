-- All that a replica says to one reader: answers, one after another.
use Rattle.std.specs.Prelude.{◌≡◌, ℕ, ◌≤◌, true, List, [], ◌∷◌, ◌++◌, codes, Option, Some, None, IfSome, Result, MatchResult}
use Rattle.std.specs.FinMap.{get}
use Rattle.std.specs.Fmt.{decimal}
use Rattle.std.specs.Io.KnownBytes.{Appends}
use Rattle.std.specs.List.{flat_map}
use mathlib.Core.List.{IsPrefix}
use Rattle.uuid.specs.Text.{hyphenated_text, lower}
use Rattle.schema.specs.declared.RowId.{RowId}
use Rattle.store_trait.specs.Batch.{Entry}
use Rattle.store_trait.specs.declared.Op.{Op}
use Rattle.store_trait.specs.declared.Op.TheVariants.{Load}
use Rattle.store_trait.specs.Operation.{loaded, left_by}
use Rattle.gtid_set.specs.Ids.{first_ids}
use Rattle.published.specs.declared.counts.Counts.{Counts}
use Rattle.published.specs.History.{IsHistory, commits_in}
use Rattle.published.specs.Status.{InOrder}
use Rattle.world.specs.declared.events.Reply.TheVariants.{Executed, Read, Replica as Refused}
use Rattle.script_text.specs.Printing.{line_of}
use Rattle.replica_shared.specs.Names.{ReplicaNames}
use Rattle.log_tools.specs.declared.ending.Stop.{Stop}
use Rattle.log_tools.specs.declared.ending.Stop.TheVariants as stops
use Rattle.log_tools.specs.Head.{source_line}
use Rattle.log_tools.specs.Restore.{BeginsLog}
use Rattle.replica_answers.specs.declared.reading.Waited.{Waited}
use Rattle.replica_answers.specs.declared.reading.Waited.TheVariants as waits
use Rattle.replica_answers.specs.Followed.{log_in}
use Rattle.replica_answers.specs.Replica.{IsAsAfter}

-- ---- answers, and their texts

-- What is answered: which lines there are; a row, as these operations leave it; the first ids of the source, so many; how many records
-- were received, are committed, and are published; what waiting for the commit of a number came to; that the wire is not closed.
pub data Answer : Type 0 where
  help : Answer
  read : RowId → List Op → Answer
  executed : ℕ → Answer
  status : Counts → Answer
  waited : ℕ → Waited → Answer
  not_closed : Answer

-- which lines there are
unfoldable pub help_text : List ℕ
help_text = codes "read TABLE KEY          the row after the published commits, and how many these are: 'COMMITS: V ..' or 'COMMITS: none'\n"
    ++ (codes "executed                the ids of the published commits\n"
    ++ (codes "status                  how many records were received, are committed, and are published\n"
    ++ (codes "wait N                  waits until the commit N is published, and says 'ok': a later read has it\n"
    ++ codes "promote PREFIX [ID]     makes a log over the rows, for a source, once the wire is closed; then the replica ends\n")))

-- how far the replica is
abbrev pub status_text : Counts → List ℕ
status_text c = codes "received " ++ (decimal c.received ++ (codes " committed " ++ (decimal c.committed ++ (codes " published " ++ (decimal c.published ++ 10 ∷ [])))))

-- what waiting came to: the refusal, if the replica stopped
abbrev pub waited_text : Waited → List ℕ
waited_text waits.Published = codes "ok\n"
waited_text waits.Never = codes "wire closed\n"
waited_text (waits.Stopped fault) = line_of (Refused fault)

-- an answer of a replica of this source
abbrev pub answer_text : List ℕ → Answer → List ℕ
answer_text source help = help_text
answer_text source (read id ops) = line_of (Read (commits_in ops) 0 (get (left_by ops) id))
answer_text source (executed count) = line_of (Executed (first_ids source count))
answer_text source (status counts) = status_text counts
answer_text source (waited gno came) = waited_text came
answer_text source not_closed = codes "wire open\n"

abbrev pub answers_text : List ℕ → List Answer → List ℕ
answers_text source answers = flat_map (answer_text source) answers

-- ---- what is true of them

-- A commit that was waited for is published, and the reader knows of it.
abbrev pub IsWaited : ℕ → Waited → List Op → Type 0
IsWaited gno waits.Published seen = gno ≤ commits_in seen
IsWaited gno waits.Never seen = Unit {0}
IsWaited gno (waits.Stopped fault) seen = Unit {0}

-- After an answer the reader has seen so much. A row is as one history of commits in log order leaves it, and is as after the first records
-- of the log, as far as these commits go, if the log is known.
abbrev pub IsTrueOf : ReplicaNames → Answer → List Op → Type 0
IsTrueOf names help seen = Unit {0}
IsTrueOf names (read id ops) seen = (ops ≡ seen) × IsHistory true ops × IsAsAfter names ops
IsTrueOf names (executed count) seen = Unit {0}
IsTrueOf names (status counts) seen = InOrder counts
IsTrueOf names (waited gno came) seen = IsWaited gno came seen
IsTrueOf names not_closed seen = Unit {0}

-- Each answer is true, and after it the reader has seen no less than before.
abbrev pub Follows : ReplicaNames → List Op → List Answer → List Op → Type 0
Follows names old [] new = new ≡ old
Follows names old (answer ∷ later) new = (seen : List Op) × IsPrefix old seen × IsTrueOf names answer seen × Follows names seen later new

-- Answers were told, and nothing else.
pub record TellsAll (names : ReplicaNames) (old new : List Op) (before printed : Option (List ℕ)) : Type 0 where
  pub answers : List Answer
  pub follows : Follows names old answers new
  pub text : Appends before printed (answers_text names.source answers)

-- The same to a new reader, who has seen the rows before the first commit.
abbrev pub Converses : ReplicaNames → Option (List ℕ) → Option (List ℕ) → Type 0
Converses names before printed = (seen : List Op) × TellsAll names (Load names.base ∷ []) seen before printed

-- It is so, if no stream failed and memory did not run out.
abbrev pub OrLost : Stop → Type 0 → Type 0
OrLost stops.Memory holds = Unit {0}
OrLost stops.Stream holds = Unit {0}
OrLost stop holds = holds

-- the same of a call: it is so, if the call did not stop for that
abbrev pub UnlessLost : {A : Type 0} → Result A Stop → Type 0 → Type 0
UnlessLost result holds = MatchResult result (λ done. holds) (λ stop. OrLost stop holds)

-- ---- the whole output

-- the log that was made of the replica, if one was: its identifier, and after how many records of which source it begins
abbrev pub promoted_text : List ℕ → ℕ → Option (List ℕ) → List ℕ
promoted_text source count None = []
promoted_text source count (Some identifier) =
    source_line identifier ++ (codes "after " ++ (decimal count ++ (codes " records of " ++ (hyphenated_text lower source ++ 10 ∷ []))))

-- a log was made or none, and that was told
abbrev pub TellsPromoted : List ℕ → ℕ → Option (List ℕ) → Option (List ℕ) → Type 0
TellsPromoted source count before printed = (identifier : Option (List ℕ)) × Appends before printed (promoted_text source count identifier)

-- The bytes of a wire are a head, which says the source, the tables and the rows of these names; and then the records of their log.
pub record IsOfWire (names : ReplicaNames) (bytes : List ℕ) : Type 0 where
  pub rows : List Entry
  pub left : Option (List ℕ)
  pub head : BeginsLog bytes names.source names.tables rows left
  pub loads : loaded names.base ≡ loaded rows
  pub log : names.log ≡ log_in left

-- All that a replica of these names wrote: what it told a new reader, and which log was made of it in the end, if one was.
pub record AnswersAs (names : ReplicaNames) (before printed : Option (List ℕ)) : Type 0 where
  pub told : Option (List ℕ)
  pub converses : Converses names before told
  pub count : ℕ
  pub promoted : TellsPromoted names.source count told printed

-- The same of a replica of a wire: the names are those that its bytes say, if they are known.
pub record Answers (bytes before printed : Option (List ℕ)) : Type 0 where
  pub names : ReplicaNames
  pub of_wire : IfSome bytes (IsOfWire names)
  pub answers : AnswersAs names before printed
