-- Events as they are kept.
use Rattle.std.specs.Prelude.{◌≡◌, ◌≤◌, ℕ, ℤ, Option, Some, None, List, ◌++◌, length, count_ones}
use Rattle.rows.specs.declared.Change.TheVariants.{Insert, Update, Delete}
use Rattle.world.specs.declared.events.Event.{Event}
use Rattle.world.specs.declared.events.Event.TheVariants as events
use Rattle.script_text.specs.declared.kept.KeptEvent.{KeptEvent}
use Rattle.script_text.specs.declared.kept.KeptEvent.TheVariants as kepts

-- how many columns are kept of an event
abbrev pub width_of : KeptEvent → ℕ
width_of (kepts.Insert session table count key) = count
width_of (kepts.Update session table mask key) = count_ones mask
width_of _ = 0

-- an event may have so many columns
abbrev pub IsWhole : KeptEvent → Type 0
IsWhole (kepts.Insert session table count key) = (1 ≤ count) × (count ≤ 16)
IsWhole (kepts.Update session table mask key) = 1 ≤ mask
IsWhole _ = Unit {0}

-- it has none
abbrev pub IsBare : KeptEvent → Type 0
IsBare (kepts.Insert session table count key) = ⊥
IsBare (kepts.Update session table mask key) = ⊥
IsBare _ = Unit {0}

-- what is kept is this event, with these columns
abbrev pub event_of : KeptEvent → List ℤ → Event
event_of (kepts.Begin session) columns = events.Begin session
event_of (kepts.Insert session table count key) columns = events.Write session (Insert (record { table = table; key = key }) columns)
event_of (kepts.Update session table mask key) columns = events.Write session (Update (record { table = table; key = key }) (record { mask = mask; values = columns }))
event_of (kepts.Delete session table key) columns = events.Write session (Delete (record { table = table; key = key }))
event_of (kepts.See session table key) columns = events.See session (record { table = table; key = key })
event_of (kepts.Prepare session) columns = events.Prepare session
event_of (kepts.Queue session) columns = events.Queue session
event_of (kepts.Abort session) columns = events.Abort session
event_of kepts.Flush columns = events.Flush
event_of kepts.Sync columns = events.Sync
event_of kepts.Commit columns = events.Commit
event_of (kepts.Deliver gno) columns = events.Deliver gno
event_of kepts.Dispatch columns = events.Dispatch
event_of (kepts.Finish gno) columns = events.Finish gno
event_of kepts.Next columns = events.Next
event_of kepts.Publish columns = events.Publish
event_of kepts.Executed columns = events.Executed
event_of (kepts.Read table key) columns = events.Read (record { table = table; key = key })
event_of kepts.Rotate columns = events.Rotate
event_of kepts.Log columns = events.Log

-- where there is an event this is kept of it, and its own columns stand behind the others
abbrev pub Keeps : Option Event → Option KeptEvent → List ℤ → List ℤ → Type 0
Keeps event None old new = (event ≡ None) × (new ≡ old)
Keeps event (Some kept) old new = (own : List ℤ) × (event ≡ Some (event_of kept own)) × (new ≡ old ++ own) × IsWhole kept × (width_of kept ≡ length own)
