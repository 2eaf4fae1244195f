-- The rows that a walk has visited, and how many are left.
use Rattle.std.proofs.Common.{◌≡◌, ◌∙◌, sym, ap, refl, subst, ℕ, ◌+◌, ◌-◌, ◌<◌, ℤ, Bool, true, false, cond, not, ◌&&◌, List, Option, Some, None, is_some, ◌⊎◌, inl, inr, ⊎_elim, arith, Ordering, Less}
use Rattle.std.proofs.Common.{Equal, Greater, true≢false, is_lt, is_eq}
use Rattle.std.specs.Ordering.{ordering_reverse}
use Rattle.std.specs.Cmp.{tied_itself}
use Rattle.std.specs.FinMap.{get, len, empty, remove, get-empty, get-remove, len-empty, len-remove, empty_of_len, same_map}
use Rattle.std.proofs.lemmas.Bool.{and_parts, and_from, and_right, not-true, not-false, false≢true, cases_lt}
use Rattle.std.proofs.lemmas.Option.{none-some, same_Some}
use Rattle.schema.specs.declared.Table.{Table}
use Rattle.schema.specs.declared.RowId.{RowId}
use Rattle.schema.specs.RowId.{row_cmp, row_total, exact_row, same_row}
use Rattle.schema.specs.Schema.{table_at}
use Rattle.schema.proofs.Telling.{is_less}
use Rattle.rows.specs.Database.{Database}
use Rattle.store_trait.specs.Fits.{RowStands, RowsStand, AreOfTables}
use Rattle.store_trait.specs.Walk.{IsListed, IsFirst, IsFirstOf, IsBehind, IsAhead, IsOfTables}
use Rattle.rows.proofs.Apply.{row_is}

-- ---- which rows are visited

-- whether the row is of a table of the list, and not behind the last one
abbrev pub is_visited : List Table → Option RowId → RowId → Bool
is_visited ts None q = false
is_visited ts (Some last) q = is_some (table_at ts q.table) && not (is_lt (row_cmp last q))

second_fails : (a b : Bool) → a ≡ true → (a && b) ≡ false → b ≡ false
second_fails true b h e = e
second_fails false b h e = absurd (false≢true h)

-- a row that is ahead is not visited
pub ahead_unvisited : (ts : List Table) (last : Option RowId) (q : RowId) → IsAhead ts last q → is_visited ts last q ≡ false
ahead_unvisited ts None q ahead = refl
ahead_unvisited ts (Some last) q ahead = and_right _ _ (ap (λ r. not (is_lt r)) ahead.1)

-- a row of the tables that is not visited is ahead
pub unvisited_ahead : (ts : List Table) (last : Option RowId) (q : RowId) → IsListed ts q.table → is_visited ts last q ≡ false → IsAhead ts last q
unvisited_ahead ts None q listed h = (listed, tt)
unvisited_ahead ts (Some last) q listed h =
    (listed, is_less (row_cmp last q) (not-false _ (second_fails (is_some (table_at ts q.table)) _ listed h)))

not_before : (r : Ordering) → is_lt r ≡ false → is_eq (ordering_reverse r) ≡ false → ordering_reverse r ≡ Less
not_before Less h k = absurd (true≢false h)
not_before Equal h k = absurd (true≢false k)
not_before Greater h k = refl

-- of two rows one is not behind, and so the other is, or is the same
up_to : (last q : RowId) → is_lt (row_cmp last q) ≡ false → same_row q last ≡ false → row_cmp q last ≡ Less
up_to last q h other =
    row_total.antisymm q last ∙ not_before (row_cmp last q) h (ap is_eq (sym (row_total.antisymm q last)) ∙ other)

turned : (last q id : RowId) (r : Ordering) → row_cmp last q ≡ r → is_lt r ≡ false → row_cmp last id ≡ Less → row_cmp q id ≡ Less
turned last q id Less is h less = absurd (true≢false h)
turned last q id Equal is h less = sym (row_total.congr last q id is) ∙ less
turned last q id Greater is h less = row_total.trans q last id (row_total.antisymm q last ∙ ap ordering_reverse is) less

-- a visited row is before one that is behind the last
pub visited_before : (ts : List Table) (last : Option RowId) (q id : RowId) → is_visited ts last q ≡ true → IsBehind last id → row_cmp q id ≡ Less
visited_before ts None q id visited behind = absurd (false≢true visited)
visited_before ts (Some last) q id visited behind =
    turned last q id (row_cmp last q) refl (not-true _ (and_parts (is_some (table_at ts q.table)) _ visited).1) behind

-- and is of a table of the list
visited_listed : (ts : List Table) (last : Option RowId) (q : RowId) → is_visited ts last q ≡ true → IsListed ts q.table
visited_listed ts None q visited = absurd (false≢true visited)
visited_listed ts (Some last) q visited = (and_parts (is_some (table_at ts q.table)) _ visited).0

-- what is visited stays so
pub stays_visited : (ts : List Table) (last : Option RowId) (q id : RowId) → is_visited ts last q ≡ true → IsBehind last id → is_visited ts (Some id) q ≡ true
stays_visited ts last q id visited behind =
    let less : row_cmp q id ≡ Less = visited_before ts last q id visited behind in
    and_from _ _ (visited_listed ts last q visited) (ap (λ r. not (is_lt r)) (row_total.antisymm id q ∙ ap ordering_reverse less))

-- the last row is visited
pub last_visited : (ts : List Table) (id : RowId) → IsListed ts id.table → is_visited ts (Some id) id ≡ true
last_visited ts id listed = and_from _ _ listed (ap (λ r. not (is_lt r)) (tied_itself row_total id))

-- what the next row adds: itself alone, of the rows that are there
pub visited_cases : (ts : List Table) (db : Database) (last : Option RowId) (id : RowId) (columns : List ℤ) (q : RowId) → IsFirst db (IsAhead ts last) id columns → is_visited ts (Some id) q ≡ true →
    (q ≡ id) ⊎ ((is_visited ts last q ≡ true) ⊎ (get db q ≡ None))
visited_cases ts db last id columns q first visited =
    let parts = and_parts (is_some (table_at ts q.table)) _ visited in
    elim (same_row q id) as (λ b. same_row q id ≡ b → (q ≡ id) ⊎ ((is_visited ts last q ≡ true) ⊎ (get db q ≡ None))) [
      | true ↦ λ same. inl (row_is q id same)
      | false ↦ λ other. inr (elim (is_visited ts last q) as (λ v. is_visited ts last q ≡ v → (v ≡ true) ⊎ (get db q ≡ None)) [
        | true ↦ λ _. inl refl
        | false ↦ λ un. inr (first.first q (unvisited_ahead ts last q parts.0 un) (up_to id q (not-true _ parts.1) other))
      ] refl)
    ] refl

-- what is chosen by whether a row is visited, once the next row is, where it matters for no absent row
pub choice_on : {A : Type 0} (ts : List Table) (db : Database) (last : Option RowId) (id : RowId) (columns : List ℤ) (q : RowId) (seen unseen : A) → IsFirst db (IsAhead ts last) id columns →
    (get db q ≡ None → seen ≡ unseen) → cond (same_row q id) seen (cond (is_visited ts last q) seen unseen) ≡ cond (is_visited ts (Some id) q) seen unseen
choice_on {A} ts db last id columns q seen unseen first alike =
    elim (same_row q id) as (λ b. same_row q id ≡ b → cond b seen (cond (is_visited ts last q) seen unseen) ≡ cond (is_visited ts (Some id) q) seen unseen) [
      | true ↦ λ same. sym (on_true (ap (is_visited ts (Some id)) (row_is q id same) ∙ last_visited ts id first.counted.0))
      | false ↦ λ other. elim (is_visited ts last q) as (λ b. is_visited ts last q ≡ b → cond b seen unseen ≡ cond (is_visited ts (Some id) q) seen unseen) [
        | true ↦ λ visited. sym (on_true (stays_visited ts last q id visited first.counted.1))
        | false ↦ λ un. elim (is_visited ts (Some id) q) as (λ b. is_visited ts (Some id) q ≡ b → unseen ≡ cond b seen unseen) [
          | true ↦ λ visited. sym (alike (absent other un (visited_cases ts db last id columns q first visited)))
          | false ↦ λ _. refl
        ] refl
      ] refl
    ] refl
  where
    on_true : is_visited ts (Some id) q ≡ true → cond (is_visited ts (Some id) q) seen unseen ≡ seen
    on_true visited = ap (λ b. cond b seen unseen) visited

    absent : same_row q id ≡ false → is_visited ts last q ≡ false → (q ≡ id) ⊎ ((is_visited ts last q ≡ true) ⊎ (get db q ≡ None)) → get db q ≡ None
    absent other un (inl same) = absurd (true≢false (sym (ap is_eq (tied_itself row_total q)) ∙ ap (same_row q) same ∙ other))
    absent other un (inr (inl visited)) = absurd (true≢false (sym visited ∙ un))
    absent other un (inr (inr none)) = none

-- ---- what is left

-- the database without the rows that are visited, of which there were so many
pub record Visits (ts : List Table) (db : Database) (last : Option RowId) (count : ℕ) : Type 0 where
  pub rest : Database
  pub size : len rest + count ≡ len db
  pub rows : (q : RowId) → get rest q ≡ cond (is_visited ts last q) None (get db q)
  pub listed : IsOfTables ts last

pub none_visited : (ts : List Table) (db : Database) → Visits ts db None 0
none_visited ts db = record { rest = db; size = omega arith; rows = λ q. refl; listed = tt }

some_rows : (db : Database) (id : RowId) (columns : List ℤ) → get db id ≡ Some columns → 0 < len db
some_rows db id columns there =
    ⊎_elim (λ some. some)
    (λ none. absurd (none-some columns (sym (ap (λ (m : Database). get m id) (empty_of_len db (omega arith)) ∙ get-empty row_cmp id) ∙ there)))
    (cases_lt 0 (len db))

module _ (ts : List Table) (db : Database) (last : Option RowId) (count : ℕ) (visits : Visits ts db last count) where
  -- the next row is visited too
  pub visit : (id : RowId) (columns : List ℤ) → IsFirst db (IsAhead ts last) id columns → Visits ts db (Some id) (count + 1)
  visit id columns first =
      let unvisited = ahead_unvisited ts last id first.counted in
      let there : get visits.rest id ≡ Some columns = visits.rows id ∙ ap (λ b. cond b None (get db id)) unvisited ∙ first.there in
      let some : 0 < len visits.rest = some_rows visits.rest id columns there in
      let less : len (remove visits.rest id) ≡ len visits.rest - 1 =
      len-remove row_total visits.rest id ∙ ap (λ b. cond b (len visits.rest - 1) (len visits.rest)) (ap is_some there) in
      let size : len visits.rest + count ≡ len db = visits.size in
      record {
        rest = remove visits.rest id;
        size = omega arith;
        rows = λ q. get-remove row_total visits.rest id q ∙ ap (cond (same_row q id) None) (visits.rows q) ∙ choice_on ts db last id columns q None (get db q) first sym;
        listed = first.counted.0;
      }

  -- where as many are visited as there are, each row is
  pub all_visited : count ≡ len db → (id : RowId) (columns : List ℤ) → get db id ≡ Some columns → is_visited ts last id ≡ true
  all_visited all id columns there =
      elim (is_visited ts last id) as (λ b. is_visited ts last id ≡ b → b ≡ true) [
        | true ↦ λ _. refl
        | false ↦ λ un.
            let left = some_rows visits.rest id columns (visits.rows id ∙ ap (λ b. cond b None (get db id)) un ∙ there) in
            let size : len visits.rest + count ≡ len db = visits.size in
            absurd (omega arith)
      ] refl

  -- so each is of a table of the list
  pub all_of_tables : count ≡ len db → AreOfTables ts db
  all_of_tables all id columns there = visited_listed ts last id (all_visited all id columns there)

  -- where fewer are visited than there are, and none is ahead, a row is of no table of the list
  pub none_ahead : count < len db → IsFirstOf db (IsAhead ts last) None → AreOfTables ts db → ⊥
  none_ahead fewer none of_tables =
      let nothing : visits.rest ≡ empty = same_map row_total exact_row visits.rest empty (λ q. visits.rows q ∙ gone q (get db q) refl ∙ sym (get-empty row_cmp q)) in
      let zero_left : len visits.rest ≡ 0 = ap len nothing ∙ len-empty row_cmp (List ℤ) in
      let size : len visits.rest + count ≡ len db = visits.size in
      omega arith
    where
      gone : (q : RowId) (o : Option (List ℤ)) → get db q ≡ o → cond (is_visited ts last q) None o ≡ None
      gone q None is = elim (is_visited ts last q) as (λ b. cond {A = Option (List ℤ)} b None None ≡ None) [ true ↦ refl | false ↦ refl ]
      gone q (Some columns) is =
          elim (is_visited ts last q) as (λ b. is_visited ts last q ≡ b → cond b None (Some columns) ≡ None) [
            | true ↦ λ _. refl
            | false ↦ λ un. sym is ∙ none q (unvisited_ahead ts last q (of_tables q columns is) un)
          ] refl

-- ---- the rows so far stand

-- rows that stand are of tables of the list
pub stand_of_tables : (ts : List Table) (db : Database) → RowsStand ts db → AreOfTables ts db
stand_of_tables ts db stand id columns there = ap is_some (stand id columns there).in_schema

pub record Standing (ts : List Table) (db : Database) (last : Option RowId) (count : ℕ) : Type 0 where
  pub visits : Visits ts db last count
  pub stand : (q : RowId) (columns : List ℤ) → is_visited ts last q ≡ true → get db q ≡ Some columns → RowStands ts db q columns

pub none_standing : (ts : List Table) (db : Database) → Standing ts db None 0
none_standing ts db = record { visits = none_visited ts db; stand = λ q columns visited. absurd (false≢true visited) }

module _ (ts : List Table) (db : Database) (last : Option RowId) (count : ℕ) (h : Standing ts db last count) where
  -- the next row stands too
  pub stands_on : (id : RowId) (columns : List ℤ) → IsFirst db (IsAhead ts last) id columns → RowStands ts db id columns → Standing ts db (Some id) (count + 1)
  stands_on id columns first here = record {
    visits = visit ts db last count h.visits id columns first;
    stand = λ q others visited there. by_cases q others there (visited_cases ts db last id columns q first visited);
  }
    where
      by_cases : (q : RowId) (others : List ℤ) → get db q ≡ Some others → (q ≡ id) ⊎ ((is_visited ts last q ≡ true) ⊎ (get db q ≡ None)) → RowStands ts db q others
      by_cases q others there (inl same) =
          let alike : columns ≡ others = same_Some columns others (sym first.there ∙ ap (get db) (sym same) ∙ there) in
          subst (λ (p : RowId × List ℤ). RowStands ts db p.0 p.1) (λ i. (sym same i, alike i)) here
      by_cases q others there (inr (inl visited)) = h.stand q others visited there
      by_cases q others there (inr (inr none)) = absurd (none-some others (sym none ∙ there))

  -- where as many stand as there are, each row does
  pub all_stand : count ≡ len db → RowsStand ts db
  all_stand all id columns there = h.stand id columns (all_visited ts db last count h.visits all id columns there) there
