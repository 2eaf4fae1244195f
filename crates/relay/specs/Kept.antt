-- What a relay keeps: acceptable records, their ids, their last touches, and which of them stated each mark last.
use Rattle.std.specs.Prelude.{◌≡◌, ℕ, List, length}
use Rattle.gtid_set.specs.Ids.{Ids, first_ids}
use Rattle.schema.specs.declared.Table.{Table}
use Rattle.record_codec.specs.declared.records.Record.{Record}
use Rattle.relay.specs.Relay.{AreAcceptable}
use Rattle.relay.specs.Touches.{LastTouches, LastMarks, AreLastTouches, AreLastMarks}

pub record IsKept (ts : List Table) (source : List ℕ) (accepted : List Record) (ids : Ids) (touches : LastTouches) (marks : LastMarks) : Type 0 where
  pub acceptable : AreAcceptable ts accepted
  -- the ids are those of the source from 1 to the number of the records
  pub ids_are : ids ≡ first_ids source (length accepted)
  pub last : AreLastTouches accepted touches
  pub stated : AreLastMarks accepted marks
