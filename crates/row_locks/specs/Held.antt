-- What sessions hold, with the room for more.
use Rattle.std.specs.Prelude.{ℕ, ◌-◌, List, [], ◌∷◌, map, slice_index_or, refl}
use Rattle.std.specs.Coded.{Coded, code_by, coded×, coded_list, coded_ℕ}
use Rattle.std.specs.FinMap.{empty}
use Rattle.row_map.specs.RoomyMap.{RoomyMap, roomy_map_code}
use Rattle.row_locks.specs.declared.Mode.{Mode}
use Rattle.row_locks.specs.Mode.{coded_mode}
use Rattle.row_locks.specs.Locks.{Locks, no_locks}

-- what each session holds of rows, or of marks, where it has a place, and how many more of these can be counted without memory
pub record Side : Type 0 where
  pub places : List (RoomyMap Mode)
  pub spare : ℕ

abbrev pub side_code : Coded Side
side_code =
    code_by (List (RoomyMap Mode) × ℕ) (coded× (coded_list (roomy_map_code coded_mode)) coded_ℕ) (λ s. (s.places, s.spare)) (λ p. record { places = p.0; spare = p.1 }) (λ _. refl)

-- what each session holds: nothing before there are places
abbrev pub locks_of : List (RoomyMap Mode) → Locks
locks_of [] = no_locks
locks_of (place ∷ places) = map (λ held. held.map) (place ∷ places)

abbrev pub locks_in : Side → Locks
locks_in side = locks_of side.places

-- how many more the session can take without memory
abbrev pub room_of : Side → ℕ → ℕ
room_of side session = (slice_index_or side.places (session - 1) (record { map = empty; room = 0 })).room
