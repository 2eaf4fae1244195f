-- Scripts: in which order lines may come, and what a text says line by line.
use Rattle.std.specs.Prelude.{◌≡◌, ℕ, ◌+◌, ℤ, ◌==◌, ◌&&◌, if◌then◌else◌, List, [], ◌∷◌, ◌++◌, length, Option, Some, None, Result, Ok, Err}
use Rattle.std.specs.List.{slice_split}
use Rattle.std.specs.Option.{option_map_or}
use Rattle.schema.specs.declared.RowId.{RowId}
use Rattle.schema.specs.declared.Table.{Table}
use Rattle.world.specs.declared.events.Event.{Event}
use Rattle.mtr.specs.declared.ending.Stop.{Stop}
use Rattle.mtr.specs.declared.ending.Stop.TheVariants as stops
use Rattle.mtr.specs.declared.script.Script.{Script}
use Rattle.script_text.specs.Words.{◌>>=◌}
use Rattle.script_text.specs.Lines.{About, skipped, table, base, event, table_of, base_of, line_of}
use Rattle.script_text.specs.Command.{event_of}

-- a script as its lists
pub record Said : Type 0 where
  pub tables : List Table
  pub base : List (RowId × List ℤ)
  pub events : List Event

abbrev pub said : Script → Said
said script = record { tables = script.tables.items; base = script.base.items; events = script.events }

abbrev pub nothing : Said
nothing = record { tables = []; base = []; events = [] }

-- A line more, where the words behind its first are what that asks for; an event has to have that name. All tables come before the first row of the
-- base, and both before the first event.
unfoldable pub added : Said → About → Option Said
added s skipped = Some s
added s (table words) = do
  one ← table_of words
  if length s.base == 0 && length s.events == 0 then Some (record s { tables = s.tables ++ one ∷ [] }) else None
added s (base words) = do
  row ← base_of words
  if length s.events == 0 then Some (record s { base = s.base ++ row ∷ [] }) else None
added s (event name words) = do
  one ← event_of name words
  Some (record s { events = s.events ++ one ∷ [] })

-- what a line makes of what was said so far, where it may come behind that
abbrev pub said_with : Said → List ℕ → Option Said
said_with s line = line_of line >>= added s

-- the lines from this number on, behind what was said so far: all that is said, or the number of the first bad line
unfoldable pub said_by : Said → ℕ → List (List ℕ) → Result Said ℕ
said_by s n [] = Ok s
said_by s n (line ∷ rest) = option_map_or (λ more. said_by more (n + 1) rest) (said_with s line) (Err n)

-- what a text says; its lines end with LF, which is 10, and what stands behind the last LF is a line too
abbrev pub script_of : List ℕ → Result Said ℕ
script_of text = said_by nothing 1 (slice_split (λ b. b == 10) text)

-- a script is what the text says, and a bad line is its first; nothing is said where the reading stopped otherwise
abbrev pub Says : List ℕ → Result Script Stop → Type 0
Says text (Ok script) = script_of text ≡ Ok (said script)
Says text (Err (stops.BadCommand line)) = script_of text ≡ Err line
Says text (Err stops.Memory) = Unit {0}
Says text (Err stops.Stream) = Unit {0}
Says text (Err stops.BadBase) = ⊥
Says text (Err (stops.Schema fault)) = ⊥
Says text (Err stops.BadHexadecimal) = ⊥
Says text (Err (stops.Log fault)) = ⊥

-- and so is one that was filled with it
abbrev pub SaysIn : {A : Type 0} → List ℕ → Script → Result A Stop → Type 0
SaysIn text script (Ok done) = script_of text ≡ Ok (said script)
SaysIn text script (Err stop) = Says text (Err stop)

-- a fact of the text that was known, and of what is left of it
abbrev pub Knows : Option (List ℕ) → Option (List ℕ) → (List ℕ → List ℕ → Type 0) → Type 0
Knows None rest fact = Unit {0}
Knows (Some text) None fact = ⊥
Knows (Some text) (Some rest) fact = fact text rest
