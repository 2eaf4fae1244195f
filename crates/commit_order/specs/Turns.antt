-- The turns of records that are to be committed.
use Rattle.std.specs.Prelude.{◌≡◌, ℕ, ◌+◌, Bool, true, ◌==◌, if◌then◌else◌, List, [], ◌∷◌, ◌++◌, slice_get, Option, Some}
use Rattle.std.specs.List.{position_or_len, remove}
use Rattle.executor.specs.Job.{Finished}
use Rattle.scheduler.specs.Gnos.{without}

-- The records that entered and did not leave.
pub record Line : Type 0 where
  -- whether results leave in the order of the log
  pub preserve : Bool
  -- the record whose turn is next in the order of the log, where that is kept: one more than left
  pub next : ℕ
  -- those that have no result, by their gnos, in the order in which they entered
  pub out : List ℕ
  -- and the results of the others, in the order in which they came
  pub done : List Finished

-- no record entered
abbrev pub no_turns : Bool → Line
no_turns preserve = record { preserve = preserve; next = 1; out = []; done = [] }

abbrev pub entered : Line → ℕ → Line
entered line gno = record line { out = line.out ++ gno ∷ [] }

abbrev pub with_result : Line → Finished → Line
with_result line result = record line { out = without result.job.gno line.out; done = line.done ++ result ∷ [] }

-- the place of the first result of this gno, or past all of them
abbrev pub first_of : List Finished → ℕ → ℕ
first_of done gno = position_or_len (λ (result : Finished). result.job.gno == gno) done

-- that of the result whose turn has come: in the order of the log the next one's, else the first
abbrev pub place_of : Line → ℕ
place_of line = if line.preserve then first_of line.done line.next else 0

abbrev pub turn : Line → Option Finished
turn line = slice_get line.done (place_of line)

-- without it
abbrev pub passed : Line → Line
passed line = record line { next = if line.preserve then line.next + 1 else line.next; done = remove line.done (place_of line) }

-- in the order of the log the turn is that of the next record
abbrev pub TurnIsNext : Type 0
TurnIsNext = (line : Line) (result : Finished) → line.preserve ≡ true → turn line ≡ Some result → result.job.gno ≡ line.next
