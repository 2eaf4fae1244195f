-- Marks: which rows have one, when columns are free for a row, and how many marks changes have.
use Rattle.std.proofs.Common.{◌≡◌, ◌∙◌, sym, ap, refl, inl, inr, arith, Bool, true, false, true≢false, cond, ◌≤◌, ◌*◌, ℕ, ℤ, List, [], ◌∷◌, ◌++◌, length, length-append, Option, Some, None, is_some}
use Rattle.std.specs.Prelude.{not, ◌||◌, slice_get, option_and_then, option_to_list, flat_map}
use Rattle.std.specs.Option.{option_map_or}
use Rattle.std.specs.List.{list_any, list_all}
use Rattle.std.specs.FinMap.{get, entries}
use Rattle.std.proofs.lemmas.Bool.{cases_Bool, and_from, and_parts, or_left}
use Rattle.std.proofs.lemmas.List.Folds.{list_all-append}
use Rattle.std.proofs.lemmas.Option.{option_and_then_some}
use Rattle.schema.specs.declared.Table.{Table}
use Rattle.schema.specs.declared.RowId.{RowId}
use Rattle.schema.specs.RowId.{same_row}
use Rattle.schema.specs.Rows.{Mark, has_row}
use Rattle.schema.specs.Schema.{unique_of}
use Rattle.schema.proofs.Lists.{made_of}
use Rattle.schema.proofs.RowMaps.{row_is, same_row_itself}
use Rattle.schema.proofs.Telling.{both_or_none}
use Rattle.rows.specs.declared.Change.{Change}
use Rattle.rows.specs.declared.step.Step.{Step}
use Rattle.rows.specs.Step.{marks_of}
use Rattle.rows.specs.Database.{Database, target, mark_of, mark_in, is_taken_by, is_free, apply, moves_value, step_between, steps, marks}
use Rattle.rows.specs.Holders.{FreeByRows, MarksAreFew, MarksAreOfUnique}
use Rattle.rows.proofs.Entries.{any_entry, entry_any}

-- ---- which rows have a mark

-- the one row of a list made of an option
pub one_listed : (o : Option RowId) (q : RowId) → has_row (option_to_list o) q ≡ true → o ≡ Some q
one_listed None q has = absurd (true≢false (sym has))
one_listed (Some p) q has = by (same_row q p) refl has
  where
    by : (b : Bool) → same_row q p ≡ b → (b || false) ≡ true → Some p ≡ Some q
    by true same h = ap Some (sym (row_is q p same))
    by false other h = absurd (true≢false (sym h))

pub listed : (o : Option RowId) (q : RowId) → o ≡ Some q → has_row (option_to_list o) q ≡ true
listed o q is = ap (λ (p : Option RowId). has_row (option_to_list p) q) is ∙ or_left _ _ (same_row_itself q)

-- the mark of this value in this table
abbrev value_in : ℕ → ℤ → Mark
value_in id value = record { table = id; key = value }

-- a mark that columns have is of their table
pub mark_table : (ts : List Table) (id : ℕ) (columns : List ℤ) (mark : Mark) → mark_of ts id columns ≡ Some mark → mark.table ≡ id
mark_table ts id columns mark is =
    let made = made_of (value_in id) (option_and_then (slice_get columns) (unique_of ts id)) mark is in
    ap (λ (m : Mark). m.table) (sym made.2)

-- a row that has a mark is there, with columns that have it
pub mark_there : (ts : List Table) (db : Database) (q : RowId) (mark : Mark) → has_row (mark_in ts db q) mark ≡ true →
    (columns : List ℤ) × (get db q ≡ Some columns) × (mark_of ts q.table columns ≡ Some mark)
mark_there ts db q mark has =
    option_and_then_some (mark_of ts q.table) (get db q) mark (one_listed (option_and_then (mark_of ts q.table) (get db q)) mark has) (λ columns there is. (columns, there, is))

pub there_marked : (ts : List Table) (db : Database) (q : RowId) (columns : List ℤ) (mark : Mark) → get db q ≡ Some columns → mark_of ts q.table columns ≡ Some mark →
    has_row (mark_in ts db q) mark ≡ true
there_marked ts db q columns mark there is = listed (option_and_then (mark_of ts q.table) (get db q)) mark (ap (option_and_then (mark_of ts q.table)) there ∙ is)

-- and it is of the mark's table
pub table_of_marked : (ts : List Table) (db : Database) (q : RowId) (mark : Mark) → has_row (mark_in ts db q) mark ≡ true → q.table ≡ mark.table
table_of_marked ts db q mark has = let there = mark_there ts db q mark has in sym (mark_table ts q.table there.0 mark there.2)

-- ---- when columns are free for a row

-- columns that have a mark
free_marked : (ts : List Table) (db : Database) (id : RowId) (columns : List ℤ) (mark : Mark) → mark_of ts id.table columns ≡ Some mark →
    is_free ts db id columns ≡ not (list_any (is_taken_by ts id mark) (entries db))
free_marked ts db id columns mark is = ap (λ o. option_map_or (λ (m : Mark). not (list_any (is_taken_by ts id m) (entries db))) o true) is

not_both : (b : Bool) → not b ≡ true → b ≡ true → ⊥
not_both b fails holds = cc

none_taken : (b : Bool) → b ≡ false → not b ≡ true
none_taken b none = ap not none

taken_there : (ts : List Table) (db : Database) (id q : RowId) (mark : Mark) → has_row (mark_in ts db q) mark ≡ true → same_row q id ≡ false → list_any (is_taken_by ts id mark) (entries db) ≡ true
taken_there ts db id q mark has other =
    let there = mark_there ts db q mark has in
    entry_any (is_taken_by ts id mark) db q there.0 there.1
    (and_from (not (same_row q id)) (has_row (option_to_list (mark_of ts q.table there.0)) mark) (none_taken (same_row q id) other) (listed (mark_of ts q.table there.0) mark there.2))

pub free_by_rows : FreeByRows
free_by_rows ts db id columns mark is = (
  λ free q has. elim (cases_Bool (same_row q id)) [
    | inl itself ↦ row_is q id itself
    | inr other ↦ absurd (not_both (list_any (is_taken_by ts id mark) (entries db)) (sym (free_marked ts db id columns mark is) ∙ free) (taken_there ts db id q mark has other))
  ],
  λ own. free_marked ts db id columns mark is ∙ elim (cases_Bool (list_any (is_taken_by ts id mark) (entries db))) [
    | inl taken ↦
        let by = any_entry (is_taken_by ts id mark) db taken in
        let parts = and_parts (not (same_row by.0 id)) (has_row (option_to_list (mark_of ts by.0.table by.1)) mark) by.3 in
        let itself : by.0 ≡ id = own by.0 (there_marked ts db by.0 by.1 mark by.2 (one_listed (mark_of ts by.0.table by.1) mark parts.1)) in
        absurd (not_both (same_row by.0 id) parts.0 (ap (same_row by.0) (sym itself) ∙ same_row_itself by.0))
    | inr none ↦ none_taken (list_any (is_taken_by ts id mark) (entries db)) none
  ],
)

-- columns are free in two databases alike, where the same rows have their mark
pub free_alike : (ts : List Table) (a b : Database) (id : RowId) (columns : List ℤ) →
    ((mark : Mark) → mark_of ts id.table columns ≡ Some mark → (q : RowId) → has_row (mark_in ts a q) mark ≡ has_row (mark_in ts b q) mark) →
    is_free ts a id columns ≡ is_free ts b id columns
free_alike ts a b id columns same = by (mark_of ts id.table columns) refl
  where
    free_in : Database → Option Mark → Bool
    free_in db o = option_map_or (λ (m : Mark). not (list_any (is_taken_by ts id m) (entries db))) o true

    along : (x y : Database) (mark : Mark) → mark_of ts id.table columns ≡ Some mark → ((q : RowId) → has_row (mark_in ts x q) mark ≡ has_row (mark_in ts y q) mark) →
        is_free ts x id columns ≡ true → is_free ts y id columns ≡ true
    along x y mark is alike free = (free_by_rows ts y id columns mark is).1 (λ q has. (free_by_rows ts x id columns mark is).0 free q (alike q ∙ has))

    by : (o : Option Mark) → mark_of ts id.table columns ≡ o → is_free ts a id columns ≡ is_free ts b id columns
    by None none = ap (free_in a) none ∙ sym (ap (free_in b) none)
    by (Some mark) is = both_or_none _ _ (along a b mark is (same mark is)) (along b a mark is (λ q. sym (same mark is q)))

-- ---- how many marks changes have, and of which tables

-- of what each step has two at most, changes have twice their number at most
pub few_of_steps : (f : Step → List RowId) → ((step : Step) → length (f step) ≤ 2) → (ts : List Table) (changes : List Change) (db : Database) →
    length (flat_map f (steps ts changes db)) ≤ 2 * length changes
few_of_steps f two ts [] db = omega arith
few_of_steps f two ts (change ∷ changes) db = by (few_of_steps f two ts changes) (apply ts change db)
  where
    by : ((next : Database) → length (flat_map f (steps ts changes next)) ≤ 2 * length changes) → (o : Option Database) →
        length (flat_map f (option_map_or (λ after. step_between ts change db after ∷ steps ts changes after) o [])) ≤ 2 * length (change ∷ changes)
    by behind None = omega arith
    by behind (Some after) =
        let step = step_between ts change db after in
        omega (arith, length-append (f step) (flat_map f (steps ts changes after)), two step, behind after)

pub two_listed : (o p : Option RowId) → length (option_to_list o ++ option_to_list p) ≤ 2
two_listed None None = omega arith
two_listed None (Some p) = omega arith
two_listed (Some o) None = omega arith
two_listed (Some o) (Some p) = omega arith

pub marks_are_few : MarksAreFew
marks_are_few = few_of_steps marks_of (λ step. two_listed step.gives_up step.takes)

-- columns that have a mark are of a table with a unique column
marked_of_unique : (ts : List Table) (id : ℕ) (columns : List ℤ) (mark : Mark) → mark_of ts id columns ≡ Some mark → is_some (unique_of ts mark.table) ≡ true
marked_of_unique ts id columns mark is =
    let made = made_of (value_in id) (option_and_then (slice_get columns) (unique_of ts id)) mark is in
    ap (λ (n : ℕ). is_some (unique_of ts n)) (mark_table ts id columns mark is)
    ∙ option_and_then_some (slice_get columns) (unique_of ts id) made.0 made.1 (λ column has _. ap is_some has)

pub marks_of_unique : MarksAreOfUnique
marks_of_unique ts [] db = refl
marks_of_unique ts (change ∷ changes) db = by (marks_of_unique ts changes) (apply ts change db)
  where
    unique : Mark → Bool
    unique mark = is_some (unique_of ts mark.table)

    row_has : (row : Option (List ℤ)) (o : Option Mark) → option_and_then (mark_of ts (target change).table) row ≡ o → list_all unique (option_to_list o) ≡ true
    row_has row None is = refl
    row_has row (Some mark) is =
        and_from (unique mark) true (option_and_then_some (mark_of ts (target change).table) row mark is (λ columns there has. marked_of_unique ts (target change).table columns mark has)) refl

    moved : (row : Option (List ℤ)) (b : Bool) → list_all unique (option_to_list (cond b (option_and_then (mark_of ts (target change).table) row) None)) ≡ true
    moved row true = row_has row (option_and_then (mark_of ts (target change).table) row) refl
    moved row false = refl

    both : (xs ys : List Mark) → list_all unique xs ≡ true → list_all unique ys ≡ true → list_all unique (xs ++ ys) ≡ true
    both xs ys x y = list_all-append unique xs ys ∙ and_from (list_all unique xs) (list_all unique ys) x y

    by : ((next : Database) → list_all unique (marks ts changes next) ≡ true) → (o : Option Database) →
        list_all unique (flat_map marks_of (option_map_or (λ after. step_between ts change db after ∷ steps ts changes after) o [])) ≡ true
    by behind None = refl
    by behind (Some after) =
        let step = step_between ts change db after in
        both (marks_of step) (marks ts changes after)
        (both (option_to_list step.gives_up) (option_to_list step.takes) (moved (get db (target change)) (moves_value ts change)) (moved (get after (target change)) (moves_value ts change)))
        (behind after)
