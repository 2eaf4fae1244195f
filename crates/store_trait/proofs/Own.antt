-- Rows that are each the first of their table with their value in a column.
use Rattle.std.proofs.Common.{◌≡◌, ◌∙◌, sym, ap, subst, refl, Bool, true, false, true≢false, cond, ℕ, ◌+◌, ◌<◌, ◌≤◌, ◌==◌, eqb-true, ℤ, ◌<ℤ◌, List, [], ◌∷◌, length, get_or, take, Option, Some, None}
use Rattle.std.proofs.Common.{◌⊎◌, inl, inr, ⊎_elim, arith}
use Rattle.std.specs.Prelude.{◌↔◌, IsTrue, slice_get, option_and_then}
use Rattle.std.specs.List.{AllByRecursion}
use Rattle.std.specs.FinMap.{get}
use Rattle.std.specs.Option.{option_eq}
use Rattle.std.specs.Ordering.{int_cmp, int_eq, MatchOrdering}
use Rattle.std.specs.declared.cmp.Ordering.{Ordering}
use Rattle.std.specs.declared.cmp.Ordering.TheVariants.{Less, Equal, Greater}
use Rattle.std.proofs.lemmas.Cmp.{int_ranked}
use Rattle.std.proofs.lemmas.Bool.Decides.{Decides-int_eq}
use Rattle.std.proofs.lemmas.Int.{ints}
use Rattle.std.proofs.lemmas.List.{take_more}
use Rattle.std.proofs.lemmas.Option.{none-some, same_Some, slice_get_past}
use Rattle.schema.specs.declared.Table.{Table}
use Rattle.schema.specs.declared.RowId.{RowId}
use Rattle.schema.specs.Rows.{has_row}
use Rattle.schema.specs.Schema.{table_at, unique_of}
use Rattle.schema.proofs.Lists.{AllByRecursion-append}
use Rattle.rows.specs.Database.{Database, mark_in, NoValueTwice}
use Rattle.rows.proofs.Marks.{there_marked, table_of_marked}
use Rattle.store_trait.specs.Contents.{row_at, IsAbove, NoneAbove, IsLeastAbove, HasValue, IsLeastWithValue, IsHolder}
use Rattle.store_trait.specs.Fits.{OwnInColumn, OwnInTable}
use Rattle.store_trait.proofs.Values.{value_of_marked, marked_of_value, no_unique_no_mark}

told_equal : (found : Option ℤ) (key : ℤ) → IsTrue (option_eq int_eq found (Some key)) ↔ (found ≡ Some key)
told_equal None key = (λ h. absurd (true≢false (sym h)), λ none. absurd (none-some key none))
told_equal (Some other) key =
    let decides = Decides-int_eq other key in
    (λ h. ap Some (decides.0 h), λ same. decides.1 (same_Some other key same))

module _ (db : Database) (table column : ℕ) where
  -- ---- one value

  -- a value has one first row
  pub one_first : (value key other : ℤ) → IsLeastWithValue db table column value key → IsLeastWithValue db table column value other → key ≡ other
  one_first value key other first first_too = by (int_cmp key other) (int_ranked key other _ refl)
    where
      by : (r : Ordering) → MatchOrdering r (key <ℤ other) (key ≡ other) (other <ℤ key) → key ≡ other
      by Less below = absurd (first_too.least key below first.has)
      by Equal same = same
      by Greater above = absurd (first.least other above first_too.has)

  -- which the holder is
  pub first_is_held : (value key : ℤ) (found : Option ℤ) → IsHolder db table column value found → IsLeastWithValue db table column value key → found ≡ Some key
  first_is_held value key None none first = absurd (none key first.has)
  first_is_held value key (Some other) held first = ap Some (one_first value other key held first)

  -- so what the holder tells of a row with this value
  pub own_told : (value key : ℤ) (columns : List ℤ) (found : Option ℤ) (b : Bool) → slice_get columns column ≡ Some value → IsHolder db table column value found →
      b ≡ option_eq int_eq found (Some key) →
      IsTrue b ↔ ((v : ℤ) → slice_get columns column ≡ Some v → IsLeastWithValue db table column v key)
  own_told value key columns found b at held told =
      let equal = told_equal found key in (
        λ yes v at_v. subst (λ w. IsLeastWithValue db table column w key) (same_Some value v (sym at ∙ at_v)) (subst (λ o. IsHolder db table column value o) (equal.0 (sym told ∙ yes)) held),
        λ own. told ∙ equal.1 (first_is_held value key found held (own value at)),
      )

  -- a row without the column has no value there
  pub none_told : (key : ℤ) (columns : List ℤ) → length columns ≤ column → (v : ℤ) → slice_get columns column ≡ Some v → IsLeastWithValue db table column v key
  none_told key columns short v at = absurd (none-some v (sym (slice_get_past columns column short) ∙ at))

  -- ---- row by row

  -- each row that has a value in the column is ahead, or is the first that has it
  abbrev pub OwnBehind : Option ℤ → Type 0
  OwnBehind bound = (value key : ℤ) → HasValue db table column value key → IsAbove bound key ⊎ IsLeastWithValue db table column value key

  -- the next row is passed, where it is the first that has its value
  pub own_passed : (bound : Option ℤ) (next : ℤ) (columns : List ℤ) → OwnBehind bound → IsLeastAbove db table bound next columns →
      ((value : ℤ) → slice_get columns column ≡ Some value → IsLeastWithValue db table column value next) → OwnBehind (Some next)
  own_passed bound next columns behind least own value key has =
      ⊎_elim (λ above. by above (int_cmp next key) (int_ranked next key _ refl)) inr (behind value key has)
    where
      by : IsAbove bound key → (r : Ordering) → MatchOrdering r (next <ℤ key) (next ≡ key) (key <ℤ next) → (next <ℤ key) ⊎ IsLeastWithValue db table column value key
      by above Less lt = inl lt
      by above Equal same =
          let alike : columns ≡ has.columns = same_Some columns has.columns (sym least.there ∙ ap (λ k. get db (row_at table k)) same ∙ has.there) in
          inr (subst (λ k. IsLeastWithValue db table column value k) same (own value (ap (λ (l : List ℤ). slice_get l column) alike ∙ has.value_there)))
      by above Greater gt = absurd (none-some has.columns (sym (least.least key above gt) ∙ has.there))

  -- where none is ahead, each row is the first that has its value
  pub all_own : (bound : Option ℤ) → OwnBehind bound → NoneAbove db table bound → OwnInColumn db table column
  all_own bound behind none value key has =
      ⊎_elim (λ above. absurd (none-some has.columns (sym (none key above) ∙ has.there))) (λ first. first) (behind value key has)

  -- and then the next row is
  pub own_here : (bound : Option ℤ) (next : ℤ) (columns : List ℤ) → IsLeastAbove db table bound next columns → OwnInColumn db table column → (value : ℤ) → slice_get columns column ≡ Some value →
      IsLeastWithValue db table column value next
  own_here bound next columns least own value is = own value next (record { columns = columns; there = least.there; value_there = is })

-- ---- table by table

-- a table that is found is one of those that were looked at
found_of_all : (P : Table → Type 0) (ts : List Table) (id : ℕ) (t : Table) → AllByRecursion P ts → table_at ts id ≡ Some t → P t × ((t.id == id) ≡ true)
found_of_all P [] id t all e = absurd cc
found_of_all P (x ∷ ts) id t all e = by (found_of_all P ts id t all.1) (x.id == id) refl e
  where
    by : (table_at ts id ≡ Some t → P t × ((t.id == id) ≡ true)) → (b : Bool) → (x.id == id) ≡ b → cond b (Some x) (table_at ts id) ≡ Some t → P t × ((t.id == id) ≡ true)
    by behind true is h = let same = same_Some x t h in (subst P same all.0, ap (λ (y : Table). y.id == id) (sym same) ∙ is)
    by behind false is h = behind h

module _ (ts : List Table) (db : Database) where
  -- one table more is looked at
  pub own_more : (xs : List Table) (i : ℕ) (d : Table) → i < length xs → AllByRecursion (λ (t : Table). OwnInTable ts db t.id) (take i xs) → OwnInTable ts db (get_or xs i d).id →
      AllByRecursion (λ (t : Table). OwnInTable ts db t.id) (take (i + 1) xs)
  own_more xs i d within all here =
      subst (λ (l : List Table). AllByRecursion (λ (t : Table). OwnInTable ts db t.id) l) (sym (take_more xs i d within))
      (AllByRecursion-append (λ (t : Table). OwnInTable ts db t.id) (take i xs) (get_or xs i d ∷ []) all (here, tt))

  own_at : AllByRecursion (λ (t : Table). OwnInTable ts db t.id) ts → (table : ℕ) → OwnInTable ts db table
  own_at all table column unique = by (table_at ts table) refl unique
    where
      by : (o : Option Table) → table_at ts table ≡ o → option_and_then (λ (t : Table). t.unique) o ≡ Some column → OwnInColumn db table column
      by None is h = absurd (none-some column h)
      by (Some t) is h =
          let found = found_of_all (λ (t : Table). OwnInTable ts db t.id) ts table t all is in
          subst (λ n. OwnInTable ts db n) (eqb-true t.id table found.1) found.0 column unique

  -- where the rows of each table are the first with their values, no two have one value
  pub apart_of_own : AllByRecursion (λ (t : Table). OwnInTable ts db t.id) ts → NoValueTwice ts db
  apart_of_own all p q mark of_p of_q = by (unique_of ts mark.table) refl
    where
      here : (r : RowId) → has_row (mark_in ts db r) mark ≡ true → r ≡ row_at mark.table r.key
      here r has = λ i. record { table = table_of_marked ts db r mark has i; key = r.key }

      marked : (r : RowId) → has_row (mark_in ts db r) mark ≡ true → has_row (mark_in ts db (row_at mark.table r.key)) mark ≡ true
      marked r has = subst (λ s. has_row (mark_in ts db s) mark ≡ true) (here r has) has

      by : (o : Option ℕ) → unique_of ts mark.table ≡ o → p ≡ q
      by None none = absurd (no_unique_no_mark ts db mark p.key none (marked p of_p))
      by (Some column) unique =
          let first : (r : RowId) → has_row (mark_in ts db r) mark ≡ true → IsLeastWithValue db mark.table column mark.key r.key =
          λ r has. own_at all mark.table column unique mark.key r.key (value_of_marked ts db mark column r.key unique (marked r has)) in
          here p of_p ∙ ap (row_at mark.table) (one_first db mark.table column mark.key p.key q.key (first p of_p) (first q of_q)) ∙ sym (here q of_q)

  -- and where no two have one value, each row is the first with its value
  pub own_of_apart : NoValueTwice ts db → (table : ℕ) → OwnInTable ts db table
  own_of_apart apart table column unique value key has = record {
    has = has;
    least = λ other below has_too.
        let same : row_at table other ≡ row_at table key = apart (row_at table other) (row_at table key) (row_at table value) (marked other has_too) (marked key has) in
        let equal : other ≡ key = ap (λ (r : RowId). r.key) same in
        omega (arith, ints);
  }
    where
      marked : (k : ℤ) → HasValue db table column value k → has_row (mark_in ts db (row_at table k)) (row_at table value) ≡ true
      marked k its = there_marked ts db (row_at table k) its.columns (row_at table value) its.there (marked_of_value ts db (row_at table value) column k unique its)
