-- What follows from the definitions: one life of a program after another, over the same files.
use mathlib.Core.List.{IsPrefix}
use Rattle.std.specs.Prelude.{◌≡◌, ℕ, ◌≤◌, List, [], ◌∷◌, length, take, slice_get, Some}
use Rattle.std.specs.List.{AllByRecursion}
use Rattle.schema.specs.declared.Table.{Table}
use Rattle.rows.specs.Database.{Database}
use Rattle.record_codec.specs.declared.records.Record.{Record}
use Rattle.record_codec.specs.Group.{GroupValue}
use Rattle.record_codec.specs.Log.{after}
use Rattle.store_trait.specs.Fits.{Fits}
use Rattle.store_trait.specs.Operation.{loaded}
use Rattle.source_core.specs.Source.{Source, IsSound, committed_rows}
use Rattle.log_file.specs.Calls.{appended}
use Rattle.log_set.specs.Set.{SetOn}
use Rattle.log_set.specs.Crash.{ReadOrLeft, SetIsKept, LastMoves, SetRotates}
use Rattle.durable_source.specs.Durable.{Durable, HasLog}
use Rattle.durable_source.specs.Calls.{GroupWaits, SyncsGroup}
use Rattle.durable_source.specs.Crash.{FindsLog, LeftNow, LeftInSync, LeftInRotate}
use Rattle.durable_source.specs.Opening.{MayGoOn, HasGoneOn, LeftMeanwhile, FindsMeanwhile}

-- ---- what may stand in the files is found

-- between two calls
abbrev pub FoundNow : {D : Type 0} → (D → List ℕ) → (D → List ℕ → Type 0) → Type 0
FoundNow {D} seen may_leave = (s : Durable D) (contents : List (List ℕ)) → HasLog s → SetIsKept seen may_leave s.set → LeftNow seen may_leave s.set contents → FindsLog s contents

-- at any moment of a sync, as it is told there
abbrev pub FoundInSync : {D : Type 0} → (D → List ℕ) → (D → List ℕ → Type 0) → (D → ℕ) → (D → ℕ → List ℕ → Type 0) → Type 0
FoundInSync {D} seen may_leave moment left_since = (s : Durable D) (group : GroupValue) (now : SetOn D) (contents : List (List ℕ)) → HasLog s → slice_get s.unsynced 0 ≡ Some group
    → LastMoves seen moment left_since may_leave (appended group s.set.log) s.set now → LeftInSync seen may_leave moment left_since s.set now.device contents → FindsLog s contents

-- at any moment of a rotation, as it is told there
abbrev pub FoundInRotate : {D : Type 0} → (D → List ℕ) → (D → List ℕ → Type 0) → (D → ℕ) → (D → ℕ → List ℕ → Type 0) → Type 0
FoundInRotate {D} seen may_leave moment left_since = (s : Durable D) (given done made : D) (contents : List (List ℕ)) → HasLog s → SetRotates seen moment left_since may_leave s.set given done made
    → LeftInRotate seen may_leave moment left_since s.set given done made contents → FindsLog s contents

-- ---- the next life

-- What is read of the new devices, or may be left of them, may have stood in the files: so it is of devices over the same files, if nobody
-- else writes these. Who opens the files has to say it.
abbrev pub Reopens : {D : Type 0} → (D → List ℕ) → (D → List ℕ → Type 0) → (List (List ℕ) → Type 0) → List D → Type 0
Reopens seen may_leave Stood news = (contents : List (List ℕ)) → ReadOrLeft seen may_leave news contents → Stood contents

-- a life that another one may follow: what its rows at the start and the limit of the next one are asked for
pub record MayBeFollowed {D : Type 0} (limit : ℕ) (s : Durable D) : Type 0 where
  pub logged : HasLog s
  pub sound : IsSound s.source
  pub fits : Fits s.source.tables (loaded s.source.base)
  pub few : length s.source.log ≤ limit

-- The premise of opening, with the tables of a life, its rows at the start and its identifier: what is found has its synced records, and no more
-- than its log.
abbrev pub MayFollow : {D : Type 0} → (D → List ℕ) → (D → List ℕ → Type 0) → ℕ → Durable D → List D → Type 0
MayFollow seen may_leave limit s news =
    MayGoOn seen may_leave s.source.tables (loaded s.source.base) limit s.set.log.head.source (take s.source.synced s.source.log) s.source.log news

-- It is met after a life that ended between two calls, or was killed there,
abbrev pub OpenAfterNow : {D : Type 0} → (D → List ℕ) → (D → List ℕ → Type 0) → Type 0
OpenAfterNow {D} seen may_leave =
    (s : Durable D) (news : List D) (limit : ℕ) → MayBeFollowed limit s → SetIsKept seen may_leave s.set → Reopens seen may_leave (LeftNow seen may_leave s.set) news
    → MayFollow seen may_leave limit s news

-- or at any moment of a sync,
abbrev pub OpenAfterSync : {D : Type 0} → (D → List ℕ) → (D → List ℕ → Type 0) → (D → ℕ) → (D → ℕ → List ℕ → Type 0) → Type 0
OpenAfterSync {D} seen may_leave moment left_since =
    (s : Durable D) (group : GroupValue) (now : SetOn D) (news : List D) (limit : ℕ) → MayBeFollowed limit s → slice_get s.unsynced 0 ≡ Some group
    → LastMoves seen moment left_since may_leave (appended group s.set.log) s.set now → Reopens seen may_leave (LeftInSync seen may_leave moment left_since s.set now.device) news
    → MayFollow seen may_leave limit s news

-- or of a rotation;
abbrev pub OpenAfterRotate : {D : Type 0} → (D → List ℕ) → (D → List ℕ → Type 0) → (D → ℕ) → (D → ℕ → List ℕ → Type 0) → Type 0
OpenAfterRotate {D} seen may_leave moment left_since =
    (s : Durable D) (given done made : D) (news : List D) (limit : ℕ) → MayBeFollowed limit s → SetRotates seen moment left_since may_leave s.set given done made
    → Reopens seen may_leave (LeftInRotate seen may_leave moment left_since s.set given done made) news → MayFollow seen may_leave limit s news

-- and once more after an opening that was killed at any moment, or refused.
abbrev pub OpenAfterOpen : {D : Type 0} → (D → List ℕ) → (D → List ℕ → Type 0) → (D → ℕ) → (D → ℕ → List ℕ → Type 0) → Type 0
OpenAfterOpen {D} seen may_leave moment left_since =
    (ts : List Table) (rows : Database) (limit : ℕ) (identifier : List ℕ) (least most : List Record) (olds backs news : List D) → MayGoOn seen may_leave ts rows limit identifier least most olds
    → FindsMeanwhile moment left_since identifier least most olds backs → Reopens seen may_leave (LeftMeanwhile moment left_since olds backs) news
    → MayGoOn seen may_leave ts rows limit identifier least most news

-- ---- lives

-- A later state, of this life or of the next: it has the synced records of the earlier one, synced, and the same tables and rows at the start.
pub record IsLater (old new : Source) : Type 0 where
  pub synced_stay : IsPrefix (take old.synced old.log) (take new.synced new.log)
  pub tables : new.tables ≡ old.tables
  pub base : loaded new.base ≡ loaded old.base

-- So is what each call leaves: a flush that made a group,
abbrev pub FlushIsLater : Type 0
FlushIsLater = (old new : Source) (before now : List GroupValue) (told : ℕ × ℕ) → IsSound old → GroupWaits old before told new now → IsLater old new

-- a sync that put one on the log,
abbrev pub SyncIsLater : Type 0 → Type 0
SyncIsLater D = (old new : Durable D) (told : ℕ × ℕ) → HasLog old → SyncsGroup old told new → IsLater old.source new.source

-- and each other one, which leaves the log and what is synced of it.
abbrev pub RestIsLater : Type 0
RestIsLater = (old new : Source) → new.log ≡ old.log → new.synced ≡ old.synced → new.tables ≡ old.tables → new.base ≡ old.base → IsLater old new

-- a log that was opened, after a life, is later than it
abbrev pub GoneOnIsLater : Type 0 → Type 0
GoneOnIsLater D = (old made : Durable D) → HasGoneOn (take old.source.synced old.source.log) old.source.log made → made.source.synced ≡ length made.source.log →
    made.source.tables ≡ old.source.tables → loaded made.source.base ≡ loaded old.source.base → IsLater old.source made.source

-- states one after another, each later than the one before it
abbrev pub AreLives : Source → List Source → Type 0
AreLives s [] = Unit {0}
AreLives s (next ∷ later) = IsLater s next × AreLives next later

-- Told records stay: what was synced in a life, so also what was committed there, is in the log of each later one, at its place.
abbrev pub ToldStays : Type 0
ToldStays = (s : Source) (later : List Source) → AreLives s later → AllByRecursion (λ t. IsPrefix (take s.synced s.log) (take t.synced t.log)) later

-- One base: the committed rows of each life are what its committed records leave of the first life's rows at the start.
abbrev pub OneBase : Type 0
OneBase = (s : Source) (later : List Source) → AreLives s later → AllByRecursion (λ t. committed_rows t ≡ after s.tables (loaded s.base) (take t.committed t.log)) later

-- What a reader saw stays: the rows after the first so many synced records of a life are those after as many of each later one.
abbrev pub SeenStays : Type 0
SeenStays = (s : Source) (later : List Source) (upto : ℕ) → AreLives s later → upto ≤ s.synced → s.synced ≤ length s.log →
    AllByRecursion (λ t. after t.tables (loaded t.base) (take upto t.log) ≡ after s.tables (loaded s.base) (take upto s.log)) later
