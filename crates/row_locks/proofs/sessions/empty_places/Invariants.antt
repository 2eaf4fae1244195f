use Rattle.std.proofs.Common.{◌≡◌, map, replicate}
use Rattle.std.specs.FinMap.{empty}
use Rattle.row_map.specs.RoomyMap.{RoomyMap}
use Rattle.row_locks.specs.declared.Mode.{Mode}
use Rattle.row_locks.proofs.sessions.empty_places.Given as goal

abbrev pub invariant-loop-place : goal.invariant-loop-place
invariant-loop-place l = map (λ (place : RoomyMap Mode). place.map) l.places.items ≡ replicate l._place empty
