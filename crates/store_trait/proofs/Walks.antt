-- The first row that counts, table by table.
use Rattle.std.proofs.Common.{◌≡◌, ◌∙◌, sym, ap, refl, subst, ℕ, ◌+◌, ◌≤◌, ◌<◌, ℤ, ◌<ℤ◌, List, Option, Some, None, is_some, ◌⊎◌, inl, inr, ⊎_elim, arith, Ordering, Less, Equal, Greater, true≢false}
use Rattle.std.proofs.Common.{nat_cmp, int_cmp, is_lt, Bool, cond, ◌==◌, lt-ltb}
use Rattle.std.specs.Ordering.{ordering_then, MatchOrdering}
use Rattle.std.specs.Cmp.{tied_itself, nat_cmp_total}
use Rattle.std.specs.FinMap.{get}
use Rattle.std.proofs.lemmas.Bool.{cases_lt}
use Rattle.std.proofs.lemmas.Cmp.{ranked, int_ranked}
use Rattle.std.proofs.lemmas.Int.{ints}
use Rattle.schema.specs.declared.Table.{Table}
use Rattle.schema.specs.declared.RowId.{RowId}
use Rattle.schema.specs.RowId.{row_cmp}
use Rattle.schema.specs.Schema.{table_at}
use Rattle.rows.specs.Database.{Database}
use Rattle.store_trait.specs.Contents.{row_at, NoneAbove}
use Rattle.store_trait.specs.Walk.{IsListed, IsNextTable, IsFirstOf, IsFromTable, IsAhead}

-- ---- the order of rows

not_less : {G : Type 0} → Equal ≡ Less → G
not_less e = absurd (true≢false (sym (ap is_lt e)))

over : {G : Type 0} → Greater ≡ Less → G
over e = absurd (true≢false (sym (ap is_lt e)))

less_parts : (r s : Ordering) (P Q R P' Q' R' : Type 0) → ordering_then r s ≡ Less → MatchOrdering r P Q R → MatchOrdering s P' Q' R' → P ⊎ (Q × P')
less_parts Less s P Q R P' Q' R' e p q = inl p
less_parts Equal Less P Q R P' Q' R' e p q = inr (p, q)
less_parts Equal Equal P Q R P' Q' R' e p q = not_less e
less_parts Equal Greater P Q R P' Q' R' e p q = over e
less_parts Greater s P Q R P' Q' R' e p q = over e

-- a lesser row is of a lesser table, or has a lesser key
pub lesser_row : (a b : RowId) → row_cmp a b ≡ Less → (a.table < b.table) ⊎ ((a.table ≡ b.table) × (a.key <ℤ b.key))
lesser_row a b less =
    less_parts (nat_cmp a.table b.table) (int_cmp a.key b.key) (a.table < b.table) (a.table ≡ b.table) (b.table < a.table) (a.key <ℤ b.key) (a.key ≡ b.key) (b.key <ℤ a.key) less
    (ranked a.table b.table _ refl) (int_ranked a.key b.key _ refl)

pub lesser_table : (a b : RowId) → a.table < b.table → row_cmp a b ≡ Less
lesser_table a b lt = ap (λ (t : Bool). ordering_then (cond t Less (cond (a.table == b.table) Equal Greater)) (int_cmp a.key b.key)) (lt-ltb a.table b.table lt)

is_below : (r : Ordering) (a b : ℤ) → MatchOrdering r (a <ℤ b) (a ≡ b) (b <ℤ a) → a <ℤ b → r ≡ Less
is_below Less a b p h = refl
is_below Equal a b p h = absurd (omega (arith, ints))
is_below Greater a b p h = absurd (omega (arith, ints))

pub lesser_key : (a b : RowId) → a.table ≡ b.table → a.key <ℤ b.key → row_cmp a b ≡ Less
lesser_key a b same lt =
    ap (λ t. ordering_then (nat_cmp a.table t) (int_cmp a.key b.key)) (sym same) ∙ ap (λ r. ordering_then r (int_cmp a.key b.key)) (tied_itself nat_cmp_total a.table)
    ∙ is_below (int_cmp a.key b.key) a.key b.key (int_ranked a.key b.key _ refl) lt

-- ---- the first row of the tables from an id on

-- the tables from the first id to the next have no row
pub record NoneBefore (db : Database) (ts : List Table) (first next : ℕ) : Type 0 where
  pub on : first ≤ next
  pub none : (id : RowId) → IsListed ts id.table → first ≤ id.table → id.table < next → get db id ≡ None

not_listed : (ts : List Table) (id : ℕ) → table_at ts id ≡ None → IsListed ts id → ⊥
not_listed ts id none listed = true≢false (sym listed ∙ ap is_some none)

module _ (db : Database) (ts : List Table) (first next : ℕ) where
  -- a row of a table before the next table
  none_to_table : (table : ℕ) → NoneBefore db ts first next → IsNextTable ts next (Some table) → (id : RowId) → IsListed ts id.table → first ≤ id.table → id.table < table → get db id ≡ None
  none_to_table table before is id listed from below =
      ⊎_elim (λ lt. before.none id listed from lt) (λ at. absurd (not_listed ts id.table (is.2 id.table at below) listed)) (cases_lt id.table next)

  -- the next table has no row
  pub none_here : (table : ℕ) → NoneBefore db ts first next → IsNextTable ts next (Some table) → NoneAbove db table None → NoneBefore db ts first (table + 1)
  none_here table before is empty = record {
    on = let from : next ≤ table = is.0 in let on : first ≤ next = before.on in omega arith;
    none = λ id listed from below. ⊎_elim
        (λ lt. none_to_table table before is id listed from lt)
        (λ at. let same : id.table ≡ table = omega arith in subst (λ t. get db (row_at t id.key) ≡ None) (sym same) (empty id.key tt))
        (cases_lt id.table table);
  }

-- ---- the first row behind another

-- where the last row's table has no more rows, it is the first of the tables behind
pub first_behind : (db : Database) (ts : List Table) (last : RowId) (found : Option (RowId × List ℤ)) → NoneAbove db last.table (Some last.key) →
    IsFirstOf db (IsFromTable ts (last.table + 1)) found → IsFirstOf db (IsAhead ts (Some last)) found
first_behind db ts last None no_more is = λ id counts. ⊎_elim
    (λ lt. is id (counts.0, omega arith))
    (λ at. subst (λ t. get db (row_at t id.key) ≡ None) at.0 (no_more id.key at.1))
    (lesser_row last id counts.1)
first_behind db ts last (Some found) no_more is = record {
  there = is.there;
  counted = let from : last.table + 1 ≤ found.0.table = is.counted.1 in (is.counted.0, lesser_table last found.0 (omega arith));
  first = λ other counts less. ⊎_elim
      (λ lt. is.first other (counts.0, omega arith) less)
      (λ at. subst (λ t. get db (row_at t other.key) ≡ None) at.0 (no_more other.key at.1))
      (lesser_row last other counts.1);
}
