-- What records that conflict have in common, and what one leaves alone that does not conflict with another.
use Rattle.std.proofs.Common.{◌≡◌, ◌∙◌, sym, true, false, true≢false, inl, inr, Bool, ◌||◌, List}
use Rattle.std.proofs.lemmas.Bool.{cases_Bool, or_parts}
use Rattle.schema.specs.declared.Table.{Table}
use Rattle.schema.specs.declared.RowId.{RowId}
use Rattle.schema.specs.Rows.{Mark, has_row, meets, conflicts}
use Rattle.schema.proofs.Conflicts.{meets_comm}
use Rattle.rows.specs.Database.{Database, writes, NoValueTwice}
use Rattle.rows.proofs.Effect.{changes_only_writes, changes_only_marks, values_stay_apart}
use Rattle.rows.proofs.Frame.{not_in_first}
use Rattle.rows.proofs.Holders.{holders_are_same}
use Rattle.record_codec.specs.declared.records.Record.{Record}
use Rattle.record_codec.specs.Log.{touched}
use Rattle.executor.specs.Job.{rows_of}
use Rattle.executor.specs.Laws.{IsGood, LooksAlike}
use Rattle.executor.proofs.Handed.{in_either}

-- ---- records that do not conflict

-- neither writes a row that the other writes or refers to, and they have no mark in common
record AreApart (a b : Record) : Type 0 where
  both_write : meets (writes a.changes) (writes b.changes) ≡ false
  one_writes : meets (writes a.changes) b.refs ≡ false
  other_writes : meets (writes b.changes) a.refs ≡ false
  values : meets a.marks b.marks ≡ false

are_apart : (a b : Record) → conflicts (touched a) (touched b) ≡ false → AreApart a b
are_apart a b none =
    let both = meets (writes a.changes) (writes b.changes) in
    let one = meets (writes a.changes) b.refs in
    let other = meets (writes b.changes) a.refs in
    let all = or_parts (both || one || other) (meets a.marks b.marks) none in
    let rows = or_parts (both || one) other all.0 in
    let first = or_parts both one rows.0 in
    record { both_write = first.0; one_writes = first.1; other_writes = rows.1; values = all.1 }

-- so the one writes no row that the other looks at
pub not_written : (a b : Record) (q : RowId) →
    conflicts (touched a) (touched b) ≡ false → has_row (rows_of b) q ≡ true → has_row (writes a.changes) q ≡ false
not_written a b q none is =
    let apart = are_apart a b none in
    elim (in_either (writes b.changes) b.refs q is) [
      | inl written ↦ not_in_first (writes a.changes) (writes b.changes) q apart.both_write written
      | inr stated ↦ not_in_first (writes a.changes) b.refs q apart.one_writes stated
    ]

-- refers to none that the other writes
not_referred : (a b : Record) (p : RowId) →
    conflicts (touched a) (touched b) ≡ false → has_row (writes b.changes) p ≡ true → has_row a.refs p ≡ false
not_referred a b p none is =
    not_in_first a.refs (writes b.changes) p (meets_comm a.refs (writes b.changes) ∙ (are_apart a b none).other_writes) is

-- and states no mark that the other states
not_stated : (a b : Record) (mark : Mark) →
    conflicts (touched a) (touched b) ≡ false → has_row b.marks mark ≡ true → has_row a.marks mark ≡ false
not_stated a b mark none is = not_in_first a.marks b.marks mark (are_apart a b none).values is

-- ---- records that conflict

-- two tests, where the one fails with the other
with_other : (test other : Bool) → (other ≡ false → test ≡ false) → test ≡ true → other ≡ true
with_other test other fails is =
    elim (cases_Bool other) [
      | inl both ↦ both
      | inr none ↦ absurd (true≢false (sym is ∙ fails none))
    ]

-- the one writes a row that the other looks at
pub conflict_by_row : (a b : Record) (q : RowId) →
    has_row (rows_of b) q ≡ true → has_row (writes a.changes) q ≡ true → conflicts (touched a) (touched b) ≡ true
conflict_by_row a b q looks =
    with_other (has_row (writes a.changes) q) (conflicts (touched a) (touched b)) (λ none. not_written a b q none looks)

-- it refers to one that the other writes
pub conflict_by_ref : (a b : Record) (p : RowId) →
    has_row (writes b.changes) p ≡ true → has_row a.refs p ≡ true → conflicts (touched a) (touched b) ≡ true
conflict_by_ref a b p written =
    with_other (has_row a.refs p) (conflicts (touched a) (touched b)) (λ none. not_referred a b p none written)

-- or both state a mark
pub conflict_by_mark : (a b : Record) (mark : Mark) →
    has_row b.marks mark ≡ true → has_row a.marks mark ≡ true → conflicts (touched a) (touched b) ≡ true
conflict_by_mark a b mark states =
    with_other (has_row a.marks mark) (conflicts (touched a) (touched b)) (λ none. not_stated a b mark none states)

-- ---- behind a record

-- what a good record leaves looks alike to one that it does not conflict with
pub alike_behind : (ts : List Table) (one other : Record) (db : Database) → NoValueTwice ts db →
    (good : IsGood ts one db) → conflicts (touched one) (touched other) ≡ false → LooksAlike ts other db good.leaves
alike_behind ts one other db apart good none =
    let apart_behind = values_stay_apart ts one.changes db good.leaves apart good.applies in
    record {
      rows = λ q is. sym (changes_only_writes ts one.changes db good.leaves q good.applies (not_written one other q none is));
      holders = (holders_are_same ts other.marks db good.leaves apart apart_behind).0
          (λ mark has q.
          sym (changes_only_marks ts one.changes db good.leaves mark q good.applies
          (sym (good.marks mark) ∙ not_stated one other mark none has)));
    }
