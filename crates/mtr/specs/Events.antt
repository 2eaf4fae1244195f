-- The events of a script, as they are kept behind one another.
use Rattle.std.specs.Prelude.{◌≡◌, ℤ, Option, Some, None, List, [], ◌∷◌, take, drop, length, sum_by, All}
use Rattle.std.specs.List.{flat_map}
use Rattle.world.specs.declared.events.Event.{Event}
use Rattle.script_text.specs.declared.kept.KeptEvent.{KeptEvent}
use Rattle.script_text.specs.Kept.{IsWhole, width_of, event_of}

abbrev pub one_or_none : {A : Type 0} → Option A → List A
one_or_none None = []
one_or_none (Some x) = x ∷ []

-- the events in order, each with the next of the columns
abbrev pub events_of : List KeptEvent → List ℤ → List Event
events_of [] columns = []
events_of (kept ∷ rest) columns = event_of kept (take (width_of kept) columns) ∷ events_of rest (drop (width_of kept) columns)

-- the columns are those of all events
pub record AreWhole (kept : List KeptEvent) (columns : List ℤ) : Type 0 where
  pub each : All IsWhole kept
  pub width : sum_by width_of kept ≡ length columns

-- those of pieces that follow one another
abbrev pub events_in : List (List Event) → List Event
events_in pieces = flat_map (λ piece. piece) pieces
