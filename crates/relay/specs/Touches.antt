-- Which records of a log touched a row last, and which stated a mark last.
use Rattle.std.specs.Prelude.{◌≡◌, ℕ, Bool, ◌&&◌, ◌||◌, if◌then◌else◌, nat_le, max, List, [], ◌∷◌, unwrap_or}
use Rattle.std.specs.List.{list_all}
use Rattle.std.specs.FinMap.{FinMap, get}
use Rattle.schema.specs.declared.RowId.{RowId}
use Rattle.schema.specs.RowId.{row_cmp}
use Rattle.schema.specs.Rows.{Mark, has_row}
use Rattle.rows.specs.Database.{writes}
use Rattle.record_codec.specs.declared.records.Record.{Record}
use Rattle.relay.specs.declared.touches.Touch.{Touch}

-- the number of the last of these records that passes the test, 0 where none does
abbrev pub last_of : (Record → Bool) → List Record → ℕ
last_of passes [] = 0
last_of passes (r ∷ log) = max (if passes r then r.sequence else 0) (last_of passes log)

-- the record writes the row, or it writes it or refers to it
abbrev pub writes_row : RowId → Record → Bool
writes_row q r = has_row (writes r.changes) q

abbrev pub touches_row : RowId → Record → Bool
touches_row q r = has_row (writes r.changes) q || has_row r.refs q

-- it states the mark
abbrev pub states_mark : Mark → Record → Bool
states_mark mark r = has_row r.marks mark

-- a row's last touches, for each row that was touched
abbrev pub LastTouches : Type 0
LastTouches = FinMap row_cmp Touch

-- the number of the last record that states it, for each mark that was stated
abbrev pub LastMarks : Type 0
LastMarks = FinMap row_cmp ℕ

abbrev pub untouched : Touch
untouched = record { written = 0; touched = 0 }

abbrev pub touch_at : LastTouches → RowId → Touch
touch_at touches row = unwrap_or (get touches row) untouched

abbrev pub written_at : LastTouches → RowId → ℕ
written_at touches row = let touch = touch_at touches row in touch.written

abbrev pub touched_at : LastTouches → RowId → ℕ
touched_at touches row = let touch = touch_at touches row in touch.touched

-- the number of the last record that states the mark, 0 where none does
abbrev pub stated_at : LastMarks → Mark → ℕ
stated_at marks mark = unwrap_or (get marks mark) 0

-- each row's touches are its last in these records
pub record AreLastTouches (log : List Record) (touches : LastTouches) : Type 0 where
  pub written : (q : RowId) → written_at touches q ≡ last_of (writes_row q) log
  pub touched : (q : RowId) → touched_at touches q ≡ last_of (touches_row q) log

-- and each mark's number is that of the last that states it
abbrev pub AreLastMarks : List Record → LastMarks → Type 0
AreLastMarks log marks = (mark : Mark) → stated_at marks mark ≡ last_of (states_mark mark) log

-- the record's parent is no lower than the last touch of each row that it writes, than the last write of each that it refers to, and
-- than the last record that states a mark of its own
abbrev pub is_behind : LastTouches → LastMarks → Record → Bool
is_behind touches marks new =
    list_all (λ row. nat_le (touched_at touches row) new.parent) (writes new.changes) && list_all (λ row. nat_le (written_at touches row) new.parent) new.refs
    && list_all (λ mark. nat_le (stated_at marks mark) new.parent) new.marks

-- the last touches once these rows are written, or referred to, by a record of this number
pub record NotesWrites (gno : ℕ) (old : LastTouches) (rows : List RowId) (new : LastTouches) : Type 0 where
  pub written : (q : RowId) → written_at new q ≡ (if has_row rows q then gno else written_at old q)
  pub touched : (q : RowId) → touched_at new q ≡ (if has_row rows q then gno else touched_at old q)

pub record NotesRefs (gno : ℕ) (old : LastTouches) (rows : List RowId) (new : LastTouches) : Type 0 where
  pub written : (q : RowId) → written_at new q ≡ written_at old q
  pub touched : (q : RowId) → touched_at new q ≡ (if has_row rows q then gno else touched_at old q)

-- the last touches once the record is noted
pub record Notes (old : LastTouches) (r : Record) (new : LastTouches) : Type 0 where
  pub written : (q : RowId) → written_at new q ≡ (if writes_row q r then r.gno else written_at old q)
  pub touched : (q : RowId) → touched_at new q ≡ (if touches_row q r then r.gno else touched_at old q)

-- the last records of marks once these are stated by a record of this number
abbrev pub NotesMarks : ℕ → LastMarks → List Mark → LastMarks → Type 0
NotesMarks gno old noted new = (mark : Mark) → stated_at new mark ≡ (if has_row noted mark then gno else stated_at old mark)
