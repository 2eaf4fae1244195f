-- The lines of a log: its source, each of its records, and that it is closed or finished.
use Rattle.std.specs.Prelude.{◌≡◌, ℕ, ℤ, if◌then◌else◌, Bool, List, [], ◌∷◌, ◌++◌, codes, Option}
use Rattle.std.specs.Io.KnownBytes.{Appends}
use Rattle.std.specs.List.{flat_map, filter, zip, range_with_len}
use Rattle.std.specs.Fmt.{decimal, signed_decimal}
use Rattle.schema.specs.declared.RowId.{RowId}
use Rattle.rows.specs.declared.Change.{Change}
use Rattle.rows.specs.declared.Change.TheVariants.{Insert, Update, Delete}
use Rattle.rows.specs.Naming.{NamedColumns, names_column}
use Rattle.schema.specs.declared.Flags.{Flags}
use Rattle.record_codec.specs.declared.records.Record.{Record}
use Rattle.log_file.specs.declared.form.Form.{Form}
use Rattle.log_file.specs.declared.form.Form.TheVariants.{One, Two, Three}
use Rattle.log_file.specs.Head.{Head}
use Rattle.log_file.specs.Log.{Log}
use Rattle.uuid.specs.Text.{hyphenated_text, lower}
use Rattle.script_text.specs.Printing.{stamp_text, columns_text}

-- `fk` where it is related by a foreign key, `keyless` where a key is missing, each behind a space
abbrev pub flags_text : Flags → List ℕ
flags_text flags = (if flags.fk then codes " fk" else []) ++ (if flags.missing_keys then codes " keyless" else [])

-- a row behind a space: ` TABLE:KEY`
abbrev pub ref_text : RowId → List ℕ
ref_text row = codes " " ++ (decimal row.table ++ (codes ":" ++ signed_decimal row.key))

-- a name and rows behind it, where there are some
abbrev pub rows_text : List ℕ → List RowId → List ℕ
rows_text name [] = []
rows_text name (row ∷ rows) = name ++ flat_map ref_text (row ∷ rows)

-- `TABLE KEY`
abbrev pub row_text : RowId → List ℕ
row_text row = decimal row.table ++ (codes " " ++ signed_decimal row.key)

-- a named column behind a space: ` COL=V`
abbrev pub pair_text : ℕ × ℤ → List ℕ
pair_text pair = codes " " ++ (decimal pair.0 ++ (codes "=" ++ signed_decimal pair.1))

-- the columns that are named, lowest first, each with its value
abbrev pub pairs_of : NamedColumns → List (ℕ × ℤ)
pairs_of named = zip (filter (names_column named.mask) (range_with_len 0 16)) named.values

abbrev pub change_text : Change → List ℕ
change_text (Insert row values) = (codes "insert " ++ row_text row) ++ columns_text values
change_text (Update row columns) = (codes "set " ++ row_text row) ++ flat_map pair_text (pairs_of columns)
change_text (Delete row) = codes "delete " ++ row_text row

-- a change behind those before it
abbrev pub further_text : Change → List ℕ
further_text change = codes "; " ++ change_text change

-- the changes, joined by `; `
abbrev pub changes_text : List Change → List ℕ
changes_text [] = []
changes_text (change ∷ changes) = change_text change ++ flat_map further_text changes

-- the line of a record: `GNO (SEQUENCE,PARENT)`, its flags, ` refs` and its refs, ` marks` and its marks, and its changes; 10 is LF
unfoldable pub record_line : Record → List ℕ
record_line r = (decimal r.gno ++ stamp_text (r.sequence, r.parent)) ++ (flags_text r.flags ++
    (rows_text (codes " refs") r.refs ++ (rows_text (codes " marks") r.marks ++ (codes " " ++ (changes_text r.changes ++ 10 ∷ [])))))

abbrev pub record_lines : List Record → List ℕ
record_lines records = flat_map record_line records

-- where the form says the gno of the first record, ` from ` and that gno
abbrev pub from_text : Form → ℕ → List ℕ
from_text One first = []
from_text Two first = []
from_text Three first = codes " from " ++ decimal first

-- a source's identifier in lower case
unfoldable pub owner_text : List ℕ → List ℕ
owner_text source = codes "source " ++ hyphenated_text lower source

-- the same, and where the records begin
unfoldable pub source_line : Head → List ℕ
source_line head = owner_text head.source ++ (from_text head.form head.first ++ 10 ∷ [])

-- how the log ends
abbrev pub end_line : Bool → List ℕ
end_line finished = if finished then codes "finished\n" else codes "closed\n"

-- the lines of a log, without what waits
abbrev pub log_lines : Log → List ℕ
log_lines log = source_line log.head ++ (record_lines log.records ++ end_line log.finished)

-- Lines come behind what is put together: a part of all that is written, the rest is put together.
abbrev pub GoOut : Option (List ℕ) → Option (List ℕ) → List ℕ → List ℕ → List ℕ → Type 0
GoOut before after old new lines = (written : List ℕ) × Appends before after written × (written ++ new ≡ old ++ lines)
