-- A world that nothing was done to.
use Rattle.std.specs.Prelude.{◌≡◌, ℕ, List, [], ◌∷◌, length}
use Rattle.rows.specs.Database.{Database}
use Rattle.source_core.specs.Source.{new_source}
use Rattle.source_core.specs.Calls.{letting_go}
use Rattle.replica_core.specs.Calls.{new_over, letting_go as replica_letting_go}
use Rattle.log_file.specs.Log.{IsNew}
use Rattle.log_set.specs.Set.{SetOn, IsNewSet}
use Rattle.log_set.specs.Crash.{SetIsKept}
use Rattle.world.specs.Legal.{Setup}
use Rattle.world.specs.State.{World}
use Rattle.store_trait.specs.Operation.{loaded}

-- a new log of one file, which what is read of its device and all that a crash may leave stand for
pub record IsFirstFile {D : Type 0} (seen : D → List ℕ) (may_leave : D → List ℕ → Type 0) (set : SetOn D) : Type 0 where
  pub new : IsNew set.log
  pub alone : IsNewSet set.log set
  pub kept : SetIsKept seen may_leave set

-- what the world began with
abbrev pub setup_of : {D R : Type 0} → World D R → Setup
setup_of w = record {
  identifier = w.wire.log.head.source;
  tables = w.source.tables;
  base = w.source.base;
  limit = w.source.limit;
  kind = w.source.kind;
  workers = w.replica.workers;
  preserve =
      w.replica.preserve;
}

-- a new log on the first of 16 devices, and a new source and a new replica over one schema and equal rows, which readers see; both let records go
pub record IsFresh {D R : Type 0} (contents : R → Database) (w : World D R) : Type 0 where
  pub source : w.source ≡ letting_go (new_source w.source.tables w.source.base w.source.limit w.source.kind)
  pub replica : w.replica ≡ replica_letting_go (new_over w.source.tables w.wire.log.head.source w.source.base w.replica.workers w.replica.preserve)
  pub jobs : w.jobs ≡ []
  pub log : IsNew w.wire.log
  pub firsts : w.wire.firsts ≡ 1 ∷ []
  pub starts : w.wire.starts ≡ 0 ∷ []
  pub spare : length w.wire.spare ≡ 15
  pub unsynced : w.wire.unsynced ≡ []
  pub order : w.shown.preserve ≡ w.replica.preserve
  pub upto : w.shown.upto ≡ 0
  pub more : w.shown.more ≡ 0
  pub gnos : w.shown.gnos ≡ []
  pub waiting : w.shown.waiting ≡ []
  pub rows : contents w.shown.store ≡ loaded w.source.base
