-- Which records a parent covers, by the test of each record.
use Rattle.std.proofs.Common.{◌≡◌, ℕ, ◌+◌, List, map, Some, IsTrue, ◌↔◌}
use Rattle.std.specs.List.{slice_get}
use Rattle.schema.specs.Covering.{Covers}
use Rattle.record_codec.specs.declared.records.Record.{Record}
use Rattle.record_codec.specs.Log.{touched, place_of}
use Rattle.relay.specs.Relay.{is_covered}
use Rattle.schema.proofs.Covers.{passed_covers, covers_passes}

-- the test of a record's parent
pub covered_by_parent : (log : List Record) (new : Record) → IsTrue (is_covered log new) ↔ Covers (map place_of log) (touched new) new.parent
covered_by_parent log new = (passed_covers place_of log (touched new) new.parent, covers_passes place_of log (touched new) new.parent)

-- the records are numbered behind n
abbrev pub AreBehind : ℕ → List Record → Type 0
AreBehind n log = (i : ℕ) (r : Record) → slice_get log i ≡ Some r → r.sequence ≡ n + i + 1
