-- Which words make which event.
use Rattle.std.specs.Prelude.{◌^◌, ℕ, ◌==◌, if◌then◌else◌, List, length, codes, Option, Some, None, option_map}
use Rattle.std.specs.Str.{bytes_eq}
use Rattle.schema.specs.declared.RowId.{RowId}
use Rattle.rows.specs.declared.Change.{Change}
use Rattle.rows.specs.declared.Change.TheVariants.{Insert, Update, Delete}
use Rattle.world.specs.declared.events.Event.{Event}
use Rattle.world.specs.declared.events.Event.TheVariants as events
use Rattle.script_text.specs.Words.{Word, ◌>>=◌, alone, number_in, row_id_in, row_in, naming_in}

-- an event without parameters
abbrev pub bare : Event → List Word → Option Event
bare event words = if length words == 0 then Some event else None

-- a session and a row, to the end of the line
abbrev pub at_row : List Word → Option (ℕ × RowId)
at_row words = do
  session ← number_in (2 ^ 16) words
  id ← alone (row_id_in session.1)
  Some (session.0, id)

-- a session, a row, and the words behind them
unfoldable pub written_of : List Word → Option (ℕ × RowId × List Word)
written_of words = do
  session ← number_in (2 ^ 16) words
  id ← row_id_in session.1
  Some (session.0, id.0, id.1)

-- a write of columns that are read to the end of the line
unfoldable pub write_of : {T : Type 0} → (List Word → Option T) → (RowId → T → Change) → List Word → Option Event
write_of read change words = do
  at ← written_of words
  columns ← read at.2
  Some (events.Write at.0 (change at.1 columns))

-- an insert of all columns of a row
abbrev pub insert_of : List Word → Option Event
insert_of words = write_of row_in (λ id columns. Insert id columns) words

-- a change of the named columns of a row
abbrev pub set_of : List Word → Option Event
set_of words = write_of naming_in (λ id columns. Update id columns) words

-- a delete of a row
abbrev pub delete_of : List Word → Option Event
delete_of words = option_map (λ at. events.Write at.0 (Delete at.1)) (at_row words)

-- what a session sees of a row
abbrev pub see_of : List Word → Option Event
see_of words = option_map (λ at. events.See at.0 at.1) (at_row words)

-- a read of a row at the replica
abbrev pub read_of : List Word → Option Event
read_of words = option_map (λ id. events.Read id) (alone (row_id_in words))

-- an event of one session
abbrev pub session_event : (ℕ → Event) → List Word → Option Event
session_event event words = option_map event (alone (number_in (2 ^ 16) words))

-- an event of one record
abbrev pub gno_event : (ℕ → Event) → List Word → Option Event
gno_event event words = option_map event (alone (number_in (2 ^ 64) words))

-- the event of this name and the words behind it
unfoldable pub event_of : Word → List Word → Option Event
event_of name words =
    if bytes_eq name (codes "begin") then session_event (λ session. events.Begin session) words
    else if bytes_eq name (codes "insert") then insert_of words
    else if bytes_eq name (codes "set") then set_of words
    else if bytes_eq name (codes "delete") then delete_of words
    else if bytes_eq name (codes "see") then see_of words
    else if bytes_eq name (codes "prepare") then session_event (λ session. events.Prepare session) words
    else if bytes_eq name (codes "queue") then session_event (λ session. events.Queue session) words
    else if bytes_eq name (codes "abort") then session_event (λ session. events.Abort session) words
    else if bytes_eq name (codes "flush") then bare events.Flush words
    else if bytes_eq name (codes "sync") then bare events.Sync words
    else if bytes_eq name (codes "commit") then bare events.Commit words
    else if bytes_eq name (codes "deliver") then gno_event (λ gno. events.Deliver gno) words
    else if bytes_eq name (codes "dispatch") then bare events.Dispatch words
    else if bytes_eq name (codes "finish") then gno_event (λ gno. events.Finish gno) words
    else if bytes_eq name (codes "next") then bare events.Next words
    else if bytes_eq name (codes "publish") then bare events.Publish words
    else if bytes_eq name (codes "executed") then bare events.Executed words
    else if bytes_eq name (codes "read") then read_of words
    else if bytes_eq name (codes "rotate") then bare events.Rotate words
    else if bytes_eq name (codes "log") then bare events.Log words
    else None
