-- The last touches and the last marks of a log, as a record is added, and as a parent is judged by them.
use Rattle.std.proofs.Common.{◌≡◌, ◌∙◌, sym, ap, refl, subst, ℕ, suc, ◌+◌, ◌≤◌, Bool, true, false, ◌&&◌, ◌||◌, cond, nat_le, max, List, [], ◌∷◌, ◌++◌, length, map, unwrap_or, arith}
use Rattle.std.specs.List.{list_all}
use Rattle.std.specs.FinMap.{empty, get-empty}
use Rattle.std.proofs.lemmas.List.{length_push}
use Rattle.std.proofs.lemmas.Bool.{or_left, or_right, leb-true, le-leb}
use Rattle.gtid_set.specs.Ids.{Ids, first_ids, no_ids}
use Rattle.schema.specs.declared.Table.{Table}
use Rattle.schema.specs.declared.RowId.{RowId}
use Rattle.schema.specs.RowId.{row_cmp, same_row}
use Rattle.schema.specs.Rows.{Mark, has_row, meets, conflicts}
use Rattle.schema.specs.Covering.{Covers}
use Rattle.rows.specs.Database.{writes}
use Rattle.rows.proofs.Apply.{row_is, same_row_itself}
use Rattle.record_codec.specs.declared.records.Record.{Record}
use Rattle.record_codec.specs.Log.{touched, place_of}
use Rattle.relay.specs.declared.touches.Touch.{Touch}
use Rattle.relay.specs.Relay.{is_covered, IsAcceptable}
use Rattle.relay.specs.Touches.{LastTouches, LastMarks, last_of, writes_row, touches_row, states_mark, written_at, touched_at, touch_at, untouched, stated_at, AreLastTouches, AreLastMarks, Notes}
use Rattle.relay.specs.Touches.{NotesMarks, is_behind}
use Rattle.relay.specs.Kept.{IsKept}
use Rattle.relay.proofs.Covered.{AreBehind}
use Rattle.schema.proofs.Covers.{passed_covers, covers_passes}
use Rattle.schema.proofs.Telling.{both_or_none}
use Rattle.relay.proofs.Referred.{holds_of, all_from}
use Rattle.relay.proofs.Acceptable.{next_is_acceptable, empty_is_acceptable, are_behind}

-- ---- one more record

last_of-push : (passes : Record → Bool) (log : List Record) (r : Record) → last_of passes (log ++ r ∷ []) ≡ max (last_of passes log) (cond (passes r) r.sequence 0)
last_of-push passes [] r = omega arith
last_of-push passes (x ∷ log) r =
    ap (max (cond (passes x) x.sequence 0)) (last_of-push passes log r) ∙ regrouped (cond (passes x) x.sequence 0) (last_of passes log) (cond (passes r) r.sequence 0)
  where
    regrouped : (a b c : ℕ) → max a (max b c) ≡ max (max a b) c
    regrouped a b c = omega arith

last_up_to : (passes : Record → Bool) (log : List Record) (n : ℕ) → AreBehind n log → last_of passes log ≤ n + length log
last_up_to passes [] n are = omega arith
last_up_to passes (r ∷ log) n are =
    let here : r.sequence ≡ n + 0 + 1 = are 0 r refl in
    let rest = last_up_to passes log (n + 1) (λ i q is. let at = are (suc i) q is in omega arith) in
    at_most (passes r) r.sequence (last_of passes log) (n + suc (length log)) (omega arith) (omega arith)
  where
    at_most : (b : Bool) (s l m : ℕ) → s ≤ m → l ≤ m → max (cond b s 0) l ≤ m
    at_most true s l m h k = omega arith
    at_most false s l m h k = omega arith

newest : (b : Bool) (gno sequence last : ℕ) → gno ≡ sequence → last ≤ sequence → cond b gno last ≡ max last (cond b sequence 0)
newest true gno sequence last same le = omega arith
newest false gno sequence last same le = omega arith

pub none_kept : (ts : List Table) (source : List ℕ) (ids : Ids) (touches : LastTouches) (marks : LastMarks) → ids ≡ no_ids → touches ≡ empty → marks ≡ empty →
    IsKept ts source [] ids touches marks
none_kept ts source ids touches marks no_id none no_mark = record {
  acceptable = empty_is_acceptable ts;
  ids_are = no_id;
  last = record { written = λ q. ap (λ (t : Touch). t.written) (nothing q); touched = λ q. ap (λ (t : Touch). t.touched) (nothing q) };
  stated = λ mark. ap (λ m. stated_at m mark) no_mark ∙ ap (λ o. unwrap_or o 0) (get-empty row_cmp mark);
}
  where
    nothing : (q : RowId) → touch_at touches q ≡ untouched
    nothing q = ap (λ m. touch_at m q) none ∙ ap (λ o. unwrap_or o untouched) (get-empty row_cmp q)

-- A record put behind those that are kept: it is the next, and what is left has it.
pub record Puts (ts : List Table) (source : List ℕ) (log : List Record) (ids : Ids) (touches : LastTouches) (marks : LastMarks) (r : Record) : Type 0 where
  pub kept : IsKept ts source log ids touches marks
  pub next : IsAcceptable ts log r
  pub left : List Record
  pub left_is : left ≡ log ++ r ∷ []
  pub with_next : Ids
  pub ids_are : with_next ≡ first_ids source r.gno
  pub now : LastTouches
  pub notes : Notes touches r now
  pub marks_now : LastMarks
  pub notes_marks : NotesMarks r.gno marks r.marks marks_now

pub one_more_kept : (ts : List Table) (source : List ℕ) (log : List Record) (ids : Ids) (touches : LastTouches) (marks : LastMarks) (r : Record) (put : Puts ts source log ids touches marks r) →
    IsKept ts source put.left put.with_next put.now put.marks_now
one_more_kept ts source log ids touches marks r put = subst (λ (l : List Record). IsKept ts source l put.with_next put.now put.marks_now) (sym put.left_is) (record {
  acceptable = next_is_acceptable ts log r put.kept.acceptable put.next;
  ids_are = put.ids_are ∙ ap (first_ids source) (put.next.gno ∙ sym (length_push log r));
  last = record {
    written = λ q. put.notes.written q ∙ ap (cond (writes_row q r) r.gno) (put.kept.last.written q) ∙ last_is (writes_row q);
    touched = λ q. put.notes.touched q ∙ ap (cond (touches_row q r) r.gno) (put.kept.last.touched q) ∙ last_is (touches_row q);
  };
  stated = λ mark. put.notes_marks mark ∙ ap (cond (states_mark mark r) r.gno) (put.kept.stated mark) ∙ last_is (states_mark mark);
})
  where
    last_is : (passes : Record → Bool) → cond (passes r) r.gno (last_of passes log) ≡ last_of passes (log ++ r ∷ [])
    last_is passes =
        newest (passes r) r.gno r.sequence (last_of passes log) (put.next.gno ∙ sym put.next.sequence)
        (let last = last_up_to passes log 0 (are_behind ts log put.kept.acceptable) in omega (arith, put.next.sequence))
        ∙ sym (last_of-push passes log r)

-- ---- a parent is judged

-- a row that two sets have in common
common : (xs ys : List RowId) → meets xs ys ≡ true → (q : RowId) × (has_row xs q ≡ true) × (has_row ys q ≡ true)
common [] ys h = absurd cc
common (x ∷ xs) ys h = at (has_row ys x) refl h (λ k. common xs ys k)
  where
    at : (b : Bool) → has_row ys x ≡ b → (b || meets xs ys) ≡ true → (meets xs ys ≡ true → (q : RowId) × (has_row xs q ≡ true) × (has_row ys q ≡ true)) →
        (q : RowId) × (has_row (x ∷ xs) q ≡ true) × (has_row ys q ≡ true)
    at true is h rest = (x, or_left (same_row x x) (has_row xs x) (same_row_itself x), is)
    at false is h rest = let r = rest h in (r.0, or_right (same_row r.0 x) (has_row xs r.0) r.1, r.2)

in_common : (xs ys : List RowId) (q : RowId) → has_row xs q ≡ true → has_row ys q ≡ true → meets xs ys ≡ true
in_common [] ys q h k = absurd cc
in_common (x ∷ xs) ys q h k = at (same_row q x) refl h (λ there. in_common xs ys q there k)
  where
    at : (b : Bool) → same_row q x ≡ b → (b || has_row xs q) ≡ true → (has_row xs q ≡ true → meets xs ys ≡ true) → meets (x ∷ xs) ys ≡ true
    at true same h rest = or_left (has_row ys x) (meets xs ys) (ap (has_row ys) (sym (row_is q x same)) ∙ k)
    at false other h rest = or_right (has_row ys x) (meets xs ys) (rest h)

-- no touch of the record's rows is above the number, and no record that states one of its marks
record Under (writes_ refs : List RowId) (marks : List Mark) (parent : ℕ) (log : List Record) : Type 0 where
  written : (q : RowId) → has_row writes_ q ≡ true → last_of (touches_row q) log ≤ parent
  referred : (q : RowId) → has_row refs q ≡ true → last_of (writes_row q) log ≤ parent
  stated : (mark : Mark) → has_row marks mark ≡ true → last_of (states_mark mark) log ≤ parent

first_under : (passes : Record → Bool) (r : Record) (log : List Record) (p : ℕ) → last_of passes (r ∷ log) ≤ p → passes r ≡ true → r.sequence ≤ p
first_under passes r log p le is = let here : cond (passes r) r.sequence 0 ≡ r.sequence = ap (λ b. cond b r.sequence 0) is in omega arith

rest_under : (passes : Record → Bool) (r : Record) (log : List Record) (p : ℕ) → last_of passes (r ∷ log) ≤ p → last_of passes log ≤ p
rest_under passes r log p le = omega arith

both_under : (b : Bool) (s l p : ℕ) → (b ≡ true → s ≤ p) → l ≤ p → max (cond b s 0) l ≤ p
both_under true s l p h k = let here = h refl in omega arith
both_under false s l p h k = omega arith

conflict_under : (r new : Record) (log : List Record) → Under (writes new.changes) new.refs new.marks new.parent (r ∷ log) → conflicts (touched r) (touched new) ≡ true → r.sequence ≤ new.parent
conflict_under r new log h conflict =
    by_kind (meets (writes r.changes) (writes new.changes)) (meets (writes r.changes) new.refs) (meets (writes new.changes) r.refs) (meets r.marks new.marks) refl refl refl refl conflict
  where
    by_kind : (ww wr rw mm : Bool) → meets (writes r.changes) (writes new.changes) ≡ ww → meets (writes r.changes) new.refs ≡ wr → meets (writes new.changes) r.refs ≡ rw →
        meets r.marks new.marks ≡ mm →
        (((ww || wr) || rw) || mm) ≡ true → r.sequence ≤ new.parent
    by_kind true wr rw mm is _ _ _ _ =
        let q = common (writes r.changes) (writes new.changes) is in
        first_under (touches_row q.0) r log new.parent (h.written q.0 q.2) (or_left (writes_row q.0 r) (has_row r.refs q.0) q.1)
    by_kind false true rw mm _ is _ _ _ =
        let q = common (writes r.changes) new.refs is in
        first_under (writes_row q.0) r log new.parent (h.referred q.0 q.2) q.1
    by_kind false false true mm _ _ is _ _ =
        let q = common (writes new.changes) r.refs is in
        first_under (touches_row q.0) r log new.parent (h.written q.0 q.1) (or_right (writes_row q.0 r) (has_row r.refs q.0) q.2)
    by_kind false false false true _ _ _ is _ =
        let mark = common r.marks new.marks is in
        first_under (states_mark mark.0) r log new.parent (h.stated mark.0 mark.2) mark.1
    by_kind false false false false _ _ _ _ e = absurd cc

under_covers : (log : List Record) (new : Record) → Under (writes new.changes) new.refs new.marks new.parent log → Covers (map place_of log) (touched new) new.parent
under_covers [] new h = tt
under_covers (r ∷ log) new h = (
  conflict_under r new log h,
  under_covers log new (record {
    written = λ q is. rest_under (touches_row q) r log new.parent (h.written q is);
    referred = λ q is. rest_under (writes_row q) r log new.parent (h.referred q is);
    stated = λ mark is. rest_under (states_mark mark) r log new.parent (h.stated mark is);
  }),
)

-- the records meet in a row
abbrev meet_by_rows : Record → Record → Bool
meet_by_rows r new = meets (writes r.changes) (writes new.changes) || meets (writes r.changes) new.refs || meets (writes new.changes) r.refs

covers_under : (log : List Record) (new : Record) → Covers (map place_of log) (touched new) new.parent → Under (writes new.changes) new.refs new.marks new.parent log
covers_under [] new h = record { written = λ q is. omega arith; referred = λ q is. omega arith; stated = λ mark is. omega arith }
covers_under (r ∷ log) new h =
    let rest = covers_under log new h.1 in
    record {
      written = λ q is. both_under (touches_row q r) r.sequence (last_of (touches_row q) log) new.parent (λ t. h.0 (touch q is (writes_row q r) refl t)) (rest.written q is);
      referred = λ q is. both_under (writes_row q r) r.sequence (last_of (writes_row q) log) new.parent
          (λ t. h.0 (by_rows (or_left _ (meets (writes new.changes) r.refs) (or_right (meets (writes r.changes) (writes new.changes)) (meets (writes r.changes) new.refs)
          (in_common (writes r.changes) new.refs q t is))))) (rest.referred q is);
      stated = λ mark is. both_under (states_mark mark r) r.sequence (last_of (states_mark mark) log) new.parent
          (λ t. h.0 (or_right (meet_by_rows r new) (meets r.marks new.marks) (in_common r.marks new.marks mark t is))) (rest.stated mark is);
    }
  where
    by_rows : meet_by_rows r new ≡ true → conflicts (touched r) (touched new) ≡ true
    by_rows is = or_left (meet_by_rows r new) (meets r.marks new.marks) is

    touch : (q : RowId) → has_row (writes new.changes) q ≡ true → (b : Bool) → writes_row q r ≡ b → (b || has_row r.refs q) ≡ true → conflicts (touched r) (touched new) ≡ true
    touch q is true wrote t =
        by_rows (or_left _ (meets (writes new.changes) r.refs) (or_left (meets (writes r.changes) (writes new.changes)) (meets (writes r.changes) new.refs)
        (in_common (writes r.changes) (writes new.changes) q wrote is)))
    touch q is false wrote t =
        by_rows (or_right (meets (writes r.changes) (writes new.changes) || meets (writes r.changes) new.refs) (meets (writes new.changes) r.refs) (in_common (writes new.changes) r.refs q is t))

-- what the test of all rows of a list says, and of all marks
all_le : (f : RowId → ℕ) (p : ℕ) (rows : List RowId) → list_all (λ row. nat_le (f row) p) rows ≡ true → (q : RowId) → has_row rows q ≡ true → f q ≤ p
all_le f p rows h q is = leb-true (f q) p (holds_of (λ row. nat_le (f row) p) rows q h is)

le_all : (f : RowId → ℕ) (p : ℕ) (rows : List RowId) → ((q : RowId) → has_row rows q ≡ true → f q ≤ p) → list_all (λ row. nat_le (f row) p) rows ≡ true
le_all f p rows h = all_from (λ row. nat_le (f row) p) rows (λ q is. le-leb (f q) p (h q is))

-- the three tests of a parent
record Passes (w r m : Bool) : Type 0 where
  written : w ≡ true
  referred : r ≡ true
  stated : m ≡ true

passes : (w r m : Bool) → (w && r && m) ≡ true → Passes w r m
passes true true true e = record { written = refl; referred = refl; stated = refl }
passes true true false e = absurd cc
passes true false m e = absurd cc
passes false r m e = absurd cc

by_passes : (w r m : Bool) → Passes w r m → (w && r && m) ≡ true
by_passes w r m p = rw (p.written, p.referred, p.stated)

-- a parent that is no lower than the last touches, and than the last records of the marks, covers the log
pub behind_covers : (log : List Record) (touches : LastTouches) (marks : LastMarks) (new : Record) → AreLastTouches log touches → AreLastMarks log marks →
    is_behind touches marks new ≡ is_covered log new
behind_covers log touches marks new last stated =
    let tests_written = list_all (λ row. nat_le (touched_at touches row) new.parent) (writes new.changes) in
    let tests_referred = list_all (λ row. nat_le (written_at touches row) new.parent) new.refs in
    let tests_stated = list_all (λ mark. nat_le (stated_at marks mark) new.parent) new.marks in
    both_or_none (is_behind touches marks new) (is_covered log new) (λ h.
    let parts = passes tests_written tests_referred tests_stated h in
    covers_passes place_of log (touched new) new.parent (under_covers log new (record {
      written = λ q is. subst (λ n. n ≤ new.parent) (last.touched q) (all_le (touched_at touches) new.parent (writes new.changes) parts.written q is);
      referred = λ q is. subst (λ n. n ≤ new.parent) (last.written q) (all_le (written_at touches) new.parent new.refs parts.referred q is);
      stated = λ mark is. subst (λ n. n ≤ new.parent) (stated mark) (all_le (stated_at marks) new.parent new.marks parts.stated mark is);
    })))
    (λ h.
    let under = covers_under log new (passed_covers place_of log (touched new) new.parent h) in
    by_passes tests_written tests_referred tests_stated (record {
      written = le_all (touched_at touches) new.parent (writes new.changes) (λ q is. subst (λ n. n ≤ new.parent) (sym (last.touched q)) (under.written q is));
      referred = le_all (written_at touches) new.parent new.refs (λ q is. subst (λ n. n ≤ new.parent) (sym (last.written q)) (under.referred q is));
      stated = le_all (stated_at marks) new.parent new.marks (λ mark is. subst (λ n. n ≤ new.parent) (sym (stated mark)) (under.stated mark is));
    }))
