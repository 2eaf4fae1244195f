-- The places of the sessions, if there are any.
use Rattle.std.proofs.Common.{◌≡◌, ◌∙◌, sym, ap, ℕ, ◌-◌, ◌<◌, ◌≤◌, ◌||◌, arith, length, get_or, set, replicate, false, List, [], ◌∷◌, map}
use Rattle.std.specs.List.{list_any}
use Rattle.std.specs.FinMap.{empty}
use Rattle.std.proofs.lemmas.List.{get_or-map, length-map, length-replicate, map-set, set-get_or}
use Rattle.std.proofs.Math.ListN.{length-set}
use Rattle.schema.specs.declared.RowId.{RowId}
use Rattle.schema.specs.RowId.{row_cmp}
use Rattle.row_map.specs.RoomyMap.{RoomyMap}
use Rattle.row_locks.specs.declared.Mode.{Mode}
use Rattle.row_locks.specs.Locks.{Locks, no_locks, held_by, released, clashes_with, any_clashes, also_held, taken}
use Rattle.row_locks.specs.Held.{locks_of}
use Rattle.row_locks.specs.Tally.{Counts, count_at}
use Rattle.row_locks.specs.Tied.{IsTied, IsCounted, MovesAlike}
use Rattle.row_locks.proofs.Tied.{none_at, none_counted, counted_own, tied-none, tied-taken, tied-released}

-- ---- whether there are places

pub are_placed : (places : List (RoomyMap Mode)) → 1 ≤ length places → locks_of places ≡ map (λ held. held.map) places
are_placed [] some = absurd (omega (arith, some))
are_placed (place ∷ places) some = λ _. map (λ held. held.map) (place ∷ places)

pub none_placed : (places : List (RoomyMap Mode)) → length places ≡ 0 → locks_of places ≡ no_locks
none_placed [] none = λ _. no_locks
none_placed (place ∷ places) none = absurd (omega (arith, none))

-- where something is counted, there are places
pub some_counted : (places : List (RoomyMap Mode)) (counts : Counts) (n : ℕ) (row : RowId) (mode : Mode) → IsTied (locks_of places) counts
    → n ≡ count_at counts row mode → (n ≡ 0 → ⊥) → 1 ≤ length places
some_counted [] counts n row mode tied is some = absurd (some (omega (arith, is, tied.counted row mode, tied-none.counted row mode, none_counted row mode)))
some_counted (place ∷ places) counts n row mode tied is some = omega arith

-- places that were made hold nothing either
pub made_places : (places made : List (RoomyMap Mode)) → length places ≡ 0 → map (λ (held : RoomyMap Mode). held.map) made ≡ replicate 256 empty → locks_of made ≡ locks_of places
unfolding no_locks
made_places places made none are =
    let some : 1 ≤ length made = omega (arith, length-map made (λ (held : RoomyMap Mode). held.map), ap length are, length-replicate 256 (empty {X = Mode} {R = row_cmp})) in
    are_placed made some ∙ are ∙ sym (none_placed places none)

-- where there are none, there is nothing to be freed
pub nothing_freed : (places : List (RoomyMap Mode)) (session : ℕ) → length places ≡ 0 → locks_of places ≡ released (locks_of places) session
nothing_freed (place ∷ places) session none = absurd (omega (arith, none))
nothing_freed [] session none = sym (ap (set no_locks (session - 1)) (sym (none_at (session - 1))) ∙ set-get_or no_locks (session - 1) empty)

module _ {X : Type 0} (lock : X → RowId × Mode) where
  -- and there is room for no lock
  pub nothing_taken : (places : List (RoomyMap Mode)) (session : ℕ) (xs : List X) → length places ≡ 0 → length xs ≤ (get_or places (session - 1) (record { map = empty; room = 0 })).room →
      locks_of places ≡ taken (locks_of places) session (map lock xs)
  nothing_taken (place ∷ places) session xs none few = absurd (omega (arith, none))
  nothing_taken [] session [] none few = sym (set-get_or no_locks (session - 1) empty)
  nothing_taken [] session (x ∷ xs) none few = absurd (omega (arith, few))

  -- a list of locks clashes where one of them does
  pub clashes_each : (locks : Locks) (session : ℕ) (xs : List X) → any_clashes locks session (map lock xs) ≡ list_any (λ x. clashes_with locks session (lock x).0 (lock x).1) xs
  clashes_each locks session [] = λ _. false
  clashes_each locks session (x ∷ xs) = ap (λ b. clashes_with locks session (lock x).0 (lock x).1 || b) (clashes_each locks session xs)

-- ---- the place of a session

module _ (places : List (RoomyMap Mode)) (counts : Counts) (session : ℕ) (number : (1 ≤ session) × (session ≤ 256)) (tied : IsTied (locks_of places) counts) (some : 1 ≤ length places) where
  there : locks_of places ≡ map (λ held. held.map) places
  there = are_placed places some

  pub within : session - 1 < length places
  within = omega (arith, number, tied.places, ap length there, length-map places (λ (held : RoomyMap Mode). held.map))

  module _ (place : RoomyMap Mode) (is : place ≡ get_or places (session - 1) place) where
    -- what stands there is what the session holds
    pub own : place.map ≡ held_by (locks_of places) session
    own =
        ap (λ (held : RoomyMap Mode). held.map) is ∙ sym (get_or-map (λ (held : RoomyMap Mode). held.map) places (session - 1) place empty within)
        ∙ ap (λ locks. get_or locks (session - 1) empty) (sym there)

    -- which is counted
    pub counted_place : IsCounted place.map counts
    counted_place = rw own (counted_own (locks_of places) counts session number.0 number.1 tied)

    module _ (place' : RoomyMap Mode) where
      changed : locks_of (set places (session - 1) place') ≡ set (locks_of places) (session - 1) place'.map
      changed =
          are_placed (set places (session - 1) place') (omega (arith, within, length-set places (session - 1) place'))
          ∙ map-set (λ (held : RoomyMap Mode). held.map) places (session - 1) place' ∙ ap (λ locks. set locks (session - 1) place'.map) (sym there)

      -- room made there moves no rows
      pub place_kept : place'.map ≡ place.map → locks_of (set places (session - 1) place') ≡ locks_of places
      place_kept same = changed ∙ ap (set (locks_of places) (session - 1)) (same ∙ own) ∙ set-get_or (locks_of places) (session - 1) empty

      -- a list of locks was taken
      pub place_taken : (rows : List (RowId × Mode)) → place'.map ≡ also_held place.map rows → locks_of (set places (session - 1) place') ≡ taken (locks_of places) session rows
      place_taken rows took = changed ∙ ap (set (locks_of places) (session - 1)) (took ∙ ap (λ h. also_held h rows) own)

      -- all was let go
      pub place_freed : place'.map ≡ empty → locks_of (set places (session - 1) place') ≡ released (locks_of places) session
      place_freed none = changed ∙ ap (set (locks_of places) (session - 1)) none

      module _ (counts' : Counts) (moves : MovesAlike place.map counts place'.map counts') where
        pub place_taken_tied : (rows : List (RowId × Mode)) → place'.map ≡ also_held place.map rows → any_clashes (locks_of places) session rows ≡ false →
            IsTied (locks_of (set places (session - 1) place')) counts'
        place_taken_tied rows took clear =
            let moved : MovesAlike (held_by (locks_of places) session) counts (also_held (held_by (locks_of places) session) rows) counts' = rw (took, own) at moves in
            rw (place_taken rows took) (tied-taken (locks_of places) counts counts' session rows number.0 number.1 tied clear moved)

        pub place_freed_tied : place'.map ≡ empty → IsTied (locks_of (set places (session - 1) place')) counts'
        place_freed_tied none =
            let moved : MovesAlike (held_by (locks_of places) session) counts empty counts' = rw (none, own) at moves in
            rw (place_freed none) (tied-released (locks_of places) counts session number.0 number.1 tied counts' moved)
