-- The records of a flush are fixed by the log before them and by the transactions that are queued.
use Rattle.std.proofs.Common.{◌≡◌, ◌∙◌, sym, ap, subst, refl, Bool, true, false, ◌||◌, inl, inr, IsTrue, List, [], ◌∷◌, is_lt, Less, Equal, ℕ, ◌++◌, append_assoc}
use Rattle.std.specs.List.{AllByRecursion}
use Rattle.std.specs.Cmp.{tied_itself}
use Rattle.std.proofs.lemmas.Bool.{false≢true, and_parts, or_cases, or_left}
use Rattle.schema.specs.declared.RowId.{RowId}
use Rattle.schema.specs.RowId.{row_cmp, row_total, same_row}
use Rattle.schema.specs.Rows.{has_row, SameRows, Mark}
use Rattle.schema.proofs.Telling.{is_less}
use Rattle.rows.proofs.Apply.{row_is, same_row_itself}
use Rattle.store_trait.proofs.Batches.{less_apart}
use Rattle.record_codec.specs.Record.{is_rising}
use Rattle.std.proofs.lemmas.Option.{same_Some}
use Rattle.schema.specs.declared.Table.{Table}
use Rattle.rows.specs.declared.Change.{Change}
use Rattle.rows.specs.Database.{writes, kin, marks as marks_of}
use Rattle.store_trait.specs.Batch.{Entry}
use Rattle.store_trait.specs.Operation.{loaded}
use Rattle.record_codec.specs.declared.records.Record.{Record}
use Rattle.record_codec.specs.Version.{current}
use Rattle.record_codec.specs.Spelling.{HasSpelling}
use Rattle.schema.specs.Flags.{flags_of}
use Rattle.record_codec.specs.Log.{IsLegalNext, IsLegalLog}
use Rattle.log_index.specs.declared.Entry.{Entry as Seen}
use Rattle.log_index.specs.Footprint.{footprint_of}
use Rattle.tracker_trait.specs.Parent.{dependency_of}
use Rattle.source_core.specs.Source.{Source, Open, entry_of}
use Rattle.source_core.specs.Calls.{parent_of_phase, IsNextRecord, AreNextRecords}

-- each row of the list is greater
abbrev AreAbove : RowId → List RowId → Type 0
AreAbove a xs = AllByRecursion (λ y. row_cmp a y ≡ Less) xs

above_more : (a b : RowId) (xs : List RowId) → row_cmp a b ≡ Less → AreAbove b xs → AreAbove a xs
above_more a b [] less h = tt
above_more a b (x ∷ xs) less h = (row_total.trans a b x less h.0, above_more a b xs less h.1)

above_first : (a : RowId) (xs : List RowId) → IsTrue (is_rising (a ∷ xs)) → AreAbove a xs
above_first a [] h = tt
above_first a (b ∷ xs) h =
    let parts = and_parts (is_lt (row_cmp a b)) (is_rising (b ∷ xs)) h in
    let less = is_less (row_cmp a b) parts.0 in
    (less, above_more a b xs less (above_first b xs parts.1))

rising_rest : (a : RowId) (xs : List RowId) → IsTrue (is_rising (a ∷ xs)) → IsTrue (is_rising xs)
rising_rest a [] h = refl
rising_rest a (b ∷ xs) h = (and_parts (is_lt (row_cmp a b)) (is_rising (b ∷ xs)) h).1

not_there : (a : RowId) (xs : List RowId) → AreAbove a xs → has_row xs a ≡ false
not_there a [] h = refl
not_there a (x ∷ xs) h = ap (λ b. b || has_row xs a) (less_apart (row_cmp a x) (ap is_lt h.0)) ∙ not_there a xs h.1

less_than : (a q : RowId) (xs : List RowId) → AreAbove a xs → has_row xs q ≡ true → row_cmp a q ≡ Less
less_than a q [] h there = absurd (false≢true there)
less_than a q (x ∷ xs) h there =
    elim (or_cases (same_row q x) (has_row xs q) there) [
      | inl here ↦ ap (row_cmp a) (row_is q x here) ∙ h.0
      | inr later ↦ less_than a q xs h.1 later
    ]

not_below_itself : (a : RowId) → row_cmp a a ≡ Less → ⊥
not_below_itself a less = apart (sym (tied_itself row_total a) ∙ less) where
  apart : Equal ≡ Less → ⊥
  apart e = cc

-- each is the least of its list, and is in the other
same_first : (x y : RowId) (xs ys : List RowId) → AreAbove x xs → AreAbove y ys → has_row (y ∷ ys) x ≡ true → has_row (x ∷ xs) y ≡ true → x ≡ y
same_first x y xs ys above_x above_y x_there y_there =
    elim (or_cases (same_row x y) (has_row ys x) x_there) [
      | inl same ↦ row_is x y same
      | inr x_later ↦
          elim (or_cases (same_row y x) (has_row xs y) y_there) [
            | inl same ↦ sym (row_is y x same)
            | inr y_later ↦ absurd (not_below_itself x (row_total.trans x y x (less_than x y xs above_x y_later) (less_than y x ys above_y x_later)))
          ]
    ]

-- what is left without the first row of both
same_rest : (x : RowId) (xs ys : List RowId) → AreAbove x xs → AreAbove x ys → SameRows (x ∷ xs) (x ∷ ys) → SameRows xs ys
same_rest x xs ys above_xs above_ys same q = by (same_row q x) refl where
  by : (b : Bool) → same_row q x ≡ b → has_row xs q ≡ has_row ys q
  by true e =
      let is = row_is q x e in
      ap (has_row xs) is ∙ not_there x xs above_xs ∙ sym (ap (has_row ys) is ∙ not_there x ys above_ys)
  by false e = sym (ap (λ b. b || has_row xs q) e) ∙ same q ∙ ap (λ b. b || has_row ys q) e

has_first : (x : RowId) (xs : List RowId) → has_row (x ∷ xs) x ≡ true
has_first x xs = or_left (same_row x x) (has_row xs x) (same_row_itself x)

pub rising_is_one : (xs ys : List RowId) → IsTrue (is_rising xs) → IsTrue (is_rising ys) → SameRows xs ys → xs ≡ ys
rising_is_one [] [] h k same = refl
rising_is_one [] (y ∷ ys) h k same = absurd (false≢true (same y ∙ has_first y ys))
rising_is_one (x ∷ xs) [] h k same = absurd (false≢true (sym (same x) ∙ has_first x xs))
rising_is_one (x ∷ xs) (y ∷ ys) h k same =
    let above_x = above_first x xs h in
    let above_y = above_first y ys k in
    let first : x ≡ y = same_first x y xs ys above_x above_y (sym (same x) ∙ has_first x xs) (same y ∙ has_first y ys) in
    let behind_x : AreAbove x ys = subst (λ z. AreAbove z ys) (sym first) above_y in
    let rest : SameRows xs ys = same_rest x xs ys above_x behind_x (λ q. same q ∙ ap (λ z. has_row (z ∷ ys) q) (sym first)) in
    (λ i. first i ∷ rising_is_one xs ys (rising_rest x xs h) (rising_rest y ys k) rest i)

-- a log that a source over these rows may have
pub record MayStand (ts : List Table) (base : List Entry) (log : List Record) : Type 0 where
  pub legal : IsLegalLog ts (loaded base) log
  pub spelled : AllByRecursion (HasSpelling current) log

spelled_at : (front : List Record) (next : Record) (rest : List Record) → AllByRecursion (HasSpelling current) (front ++ next ∷ rest) → HasSpelling current next
spelled_at [] next rest all = all.0
spelled_at (r ∷ front) next rest all = spelled_at front next rest all.1

-- the next record behind one log, of one session
one_record : (s : Source) (front : List Record) (before : List Seen) (session : ℕ) (made other : Record) → IsLegalNext s.tables (loaded s.base) front made →
    IsLegalNext s.tables (loaded s.base) front other →
    HasSpelling current made → HasSpelling current other → IsNextRecord s before session made → IsNextRecord s before session other → made ≡ other
one_record s front before session made other a b spelled other_spelled m o =
    let t : m.t ≡ o.t = same_Some m.t o.t (sym m.is ∙ o.is) in
    let changes : made.changes ≡ other.changes = m.changes ∙ ap (λ (x : Open). x.changes) t ∙ sym o.changes in
    let db : a.before ≡ b.before = same_Some a.before b.before (sym a.is_before ∙ b.is_before) in
    let akin : kin s.tables made.changes a.before ≡ kin s.tables other.changes b.before = (λ i. kin s.tables (changes i) (db i)) in
    let rows : SameRows made.refs other.refs = λ q. a.refs q ∙ sym (subst (λ (l : List RowId). SameRows other.refs l) (sym akin) b.refs q) in
    let refs : made.refs ≡ other.refs = rising_is_one made.refs other.refs spelled.refs.rising other_spelled.refs.rising rows in
    let gno : made.gno ≡ other.gno = a.gno ∙ sym b.gno in
    let sequence : made.sequence ≡ other.sequence = a.sequence ∙ sym b.sequence in
    let flags : made.flags ≡ other.flags = a.flags ∙ ap (λ (c : List Change). flags_of s.tables (writes c)) changes ∙ sym b.flags in
    let alike : marks_of s.tables made.changes a.before ≡ marks_of s.tables other.changes b.before = (λ i. marks_of s.tables (changes i) (db i)) in
    let values : SameRows made.marks other.marks = λ q. a.marks q ∙ sym (subst (λ (l : List Mark). SameRows other.marks l) (sym alike) b.marks q) in
    let marks : made.marks ≡ other.marks = rising_is_one made.marks other.marks spelled.marks.rising other_spelled.marks.rising values in
    let parent : made.parent ≡ other.parent =
    m.parent
    ∙ (λ i. dependency_of s.kind s.tables before (footprint_of s.tables (writes (changes i)) (refs i) (marks i)) session (parent_of_phase (t i).phase))
    ∙ sym o.parent in
    (λ i. record { gno = gno i; sequence = sequence i; parent = parent i; flags = flags i; refs = refs i; marks = marks i; changes = changes i })

-- the next records behind one log, of one queue
pub one_group : (s : Source) (front : List Record) (before : List Seen) (sessions : List ℕ) (records others rest other_rest : List Record) →
    MayStand s.tables s.base (front ++ (records ++ rest)) → MayStand s.tables s.base (front ++ (others ++ other_rest)) → AreNextRecords s before sessions records →
    AreNextRecords s before sessions others → records ≡ others
one_group s front before [] [] [] rest other_rest left right m o = refl
one_group s front before [] [] (y ∷ others) rest other_rest left right m o = absurd o
one_group s front before [] (x ∷ records) others rest other_rest left right m o = absurd m
one_group s front before (session ∷ sessions) [] others rest other_rest left right m o = absurd m
one_group s front before (session ∷ sessions) (x ∷ records) [] rest other_rest left right m o = absurd o
one_group s front before (session ∷ sessions) (x ∷ records) (y ∷ others) rest other_rest left right m o =
    let same : x ≡ y =
    one_record s front before session x y (left.legal front x (records ++ rest) refl) (right.legal front y (others ++ other_rest) refl)
    (spelled_at front x (records ++ rest) left.spelled) (spelled_at front y (others ++ other_rest) right.spelled) m.0 o.0 in
    let next_left = subst (λ (l : List Record). MayStand s.tables s.base l) (sym (append_assoc front (x ∷ []) (records ++ rest))) left in
    let from_x = subst (λ (r : Record). MayStand s.tables s.base (front ++ r ∷ (others ++ other_rest))) (sym same) right in
    let next_right = subst (λ (l : List Record). MayStand s.tables s.base l) (sym (append_assoc front (x ∷ []) (others ++ other_rest))) from_x in
    let behind_x = subst (λ (r : Record). AreNextRecords s (before ++ entry_of s.tables r session ∷ []) sessions others) (sym same) o.1 in
    let more : records ≡ others = one_group s (front ++ x ∷ []) (before ++ entry_of s.tables x session ∷ []) sessions records others rest other_rest next_left next_right m.1 behind_x in
    (λ i. same i ∷ more i)
