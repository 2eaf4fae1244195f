-- How a world came to be.
use mathlib.Core.List.{IsPrefix}
use Rattle.std.specs.Prelude.{◌≡◌, ℕ, ◌+◌, true, false, List, [], ◌∷◌, length}
use Rattle.std.specs.List.{AllByRecursion}
use Rattle.rows.specs.Database.{Database}
use Rattle.store_trait.specs.Operation.{loaded, left_by}
use Rattle.record_codec.specs.declared.records.Record.{Record}
use Rattle.record_codec.specs.Log.{IsLegalLog}
use Rattle.record_codec.specs.Version.{current}
use Rattle.record_codec.specs.Spelling.{HasSpelling}
use Rattle.replica_core.specs.Replica.{operations, operations_in_order, ran}
use Rattle.world.specs.declared.events.Event.{Event}
use Rattle.world.specs.declared.events.Reply.{Reply}
use Rattle.world.specs.Put.{SomeFailed}
use Rattle.world.specs.Pair.{new_pair, pair_after}
use Rattle.world.specs.Legal.{Setup, AreLegal}
use Rattle.world.specs.State.{World, IsWorld, Stands, counts_of, IsCounted}

-- The world came by these events and replies from a new one.
pub record HasRun {D R : Type 0} (contents : R → Database) (setup : Setup) (events_ : List Event) (replies_ : List Reply) (w : World D R) : Type 0 where
  pub world : IsWorld contents w
  -- it is as the state behind them says
  pub stands : Stands setup (pair_after new_pair events_ replies_) w
  pub each : length replies_ ≡ length events_
  -- the replies are legal by the source's own log, and by each longer log that goes on legally from it with records that
  -- have spellings
  pub legal : AreLegal setup w.source.log events_ replies_
  pub onward : (log : List Record) → IsPrefix w.source.log log → IsLegalLog setup.tables (loaded setup.base) log → AllByRecursion (HasSpelling current) log → AreLegal setup log events_ replies_

-- What replies tell, in order, of the counts of the devices' failures, each of the counts as the one before it left them.
abbrev pub AreCounted : List ℕ → List Reply → List ℕ → Type 0
AreCounted before [] now = now ≡ before
AreCounted before (reply ∷ replies_) now = (between : List ℕ) × IsCounted before reply between × AreCounted between replies_ now

-- What the replies of a run tell of the log's devices: each of those that say that one failed comes of a failure of its own, and no
-- failure goes untold. Where the log failed meanwhile, a device failed by its count.
pub record TellFailures {D R : Type 0} (faults : D → ℕ) (replies_ : List Reply) (old new : World D R) : Type 0 where
  pub counted : AreCounted (counts_of faults old.wire) replies_ (counts_of faults new.wire)
  pub seen : old.wire.log.failed ≡ false → new.wire.log.failed ≡ true → SomeFailed (counts_of faults old.wire) (counts_of faults new.wire)

-- Readers have the rows that the operations of the published commits leave of an empty store. In the order of the log these are the
-- first records of the source's log, as many as readers are told.
pub record ShowsOperations {D R : Type 0} (contents : R → Database) (w : World D R) : Type 0 where
  pub all : contents w.shown.store ≡ left_by (operations w.replica.tables w.replica.base (ran w.replica) (w.shown.upto + w.shown.more))
  pub in_order : w.replica.preserve ≡ true →
      contents w.shown.store ≡ left_by (operations_in_order w.source.tables w.source.base w.source.log w.shown.upto)
