-- Two transactions that write one row of a keyed table both have its digest, and two that have one mark both have that one's.
use Rattle.std.proofs.Common.{◌≡◌, ◌∙◌, sym, subst, ℕ, Bool, true, false, not, ◌&&◌, ◌||◌, ◌⊎◌, eqb, List, [], ◌∷◌, Option, Some, None, is_some, inl, inr, refl}
use Rattle.std.specs.List.{list_any, list_all}
use Rattle.std.specs.Option.{option_map_or}
use Rattle.std.proofs.lemmas.Bool.{or_cases, or_left, or_right, and_from, and_parts, eq-eqb, not-false, or_parts}
use Rattle.schema.specs.declared.Table.{Table}
use Rattle.schema.specs.declared.RowId.{RowId}
use Rattle.schema.specs.RowId.{same_row}
use Rattle.schema.specs.Rows.{Mark, Touched, has_row, meets, conflicts}
use Rattle.schema.specs.Schema.{table_at}
use Rattle.schema.specs.Flags.{misses_keys}
use Rattle.schema.proofs.RowMaps.{row_is, same_row_itself}
use Rattle.log_index.specs.declared.Footprint.{Footprint}
use Rattle.log_index.specs.Footprint.{touched}
use Rattle.write_set.specs.Digest.{digest_of, mark_digest, is_keyed, digests_of}
use Rattle.write_set.proofs.Rising.{just_the_digests}

-- a row that two lists have
record InBoth (xs ys : List RowId) : Type 0 where
  pub row : RowId
  pub first : has_row xs row ≡ true
  pub second : has_row ys row ≡ true

in_both : (xs ys : List RowId) → meets xs ys ≡ true → InBoth xs ys
in_both [] ys e = absurd cc
in_both (x ∷ xs) ys e = elim (or_cases (has_row ys x) (meets xs ys) e) [
  | inl there ↦ record { row = x; first = or_left (same_row x x) (has_row xs x) (same_row_itself x); second = there }
  | inr later ↦ let rest = in_both xs ys later in record { row = rest.row; first = or_right (same_row rest.row x) (has_row xs rest.row) rest.first; second = rest.second }
]

meets_none : (xs : List RowId) → meets xs [] ≡ false
meets_none [] = refl
meets_none (x ∷ xs) = meets_none xs

written_or_marked : (w x y m : Bool) → (x || y) ≡ false → (((w || x) || y) || m) ≡ true → (w ≡ true) ⊎ (m ≡ true)
written_or_marked true x y m none e = inl refl
written_or_marked false false false m none e = inr e
written_or_marked false false true m none e = absurd cc
written_or_marked false true y m none e = absurd cc

-- where neither refers to rows, a conflict is of rows that both write, or of marks
conflict_of_writes : (a b : Touched) → a.refs ≡ [] → b.refs ≡ [] → conflicts a b ≡ true → (meets a.writes b.writes ≡ true) ⊎ (meets a.marks b.marks ≡ true)
conflict_of_writes a b none_a none_b e =
    written_or_marked (meets a.writes b.writes) (meets a.writes b.refs) (meets b.writes a.refs) (meets a.marks b.marks)
    ((λ i. meets a.writes (none_b i) || meets b.writes (none_a i)) ∙ (λ i. meets_none a.writes i || meets_none b.writes i)) e

-- a row of a list whose tables are known, and none of them keyless, is in a keyed table
keyed : (o : Option Table) → is_some o ≡ true → option_map_or (λ t. not t.keyed) o false ≡ false → option_map_or (λ t. t.keyed) o false ≡ true
keyed None some e = absurd cc
keyed (Some table) some e = not-false table.keyed e

is_keyed_in : (ts : List Table) (rows : List RowId) (row : RowId) → list_all (λ r. is_some (table_at ts r.table)) rows ≡ true → misses_keys ts rows ≡ false →
    has_row rows row ≡ true → is_keyed ts row ≡ true
is_keyed_in ts [] row known none e = absurd cc
is_keyed_in ts (x ∷ rows) row known none e =
    let all = and_parts (is_some (table_at ts x.table)) (list_all (λ r. is_some (table_at ts r.table)) rows) known in
    let no = or_parts (option_map_or (λ t. not t.keyed) (table_at ts x.table) false) (misses_keys ts rows) none in
    elim (or_cases (same_row row x) (has_row rows row) e) [
      | inl here ↦ subst (λ r. is_keyed ts r ≡ true) (sym (row_is row x here)) (keyed (table_at ts x.table) all.0 no.0)
      | inr later ↦ is_keyed_in ts rows row all.1 no.1 later
    ]

-- the digest of a row that a transaction writes in a keyed table is one of its digests
digest_in : (ts : List Table) (t : Footprint) (row : RowId) → is_keyed ts row ≡ true → has_row t.writes row ≡ true → list_any (eqb (digest_of row)) (digests_of ts t) ≡ true
digest_in ts t row is e =
    just_the_digests ts t (digest_of row)
    ∙ or_left (list_any (λ r. is_keyed ts r && eqb (digest_of row) (digest_of r)) t.writes) (list_any (λ mark. eqb (digest_of row) (mark_digest mark)) t.marks) (among t.writes e)
  where
    among : (rows : List RowId) → has_row rows row ≡ true → list_any (λ r. is_keyed ts r && eqb (digest_of row) (digest_of r)) rows ≡ true
    among [] e = absurd cc
    among (x ∷ rows) e = elim (or_cases (same_row row x) (has_row rows row) e) [
      | inl here ↦ or_left (is_keyed ts x && eqb (digest_of row) (digest_of x)) (list_any (λ r. is_keyed ts r && eqb (digest_of row) (digest_of r)) rows)
          (subst (λ r. (is_keyed ts r && eqb (digest_of row) (digest_of r)) ≡ true) (row_is row x here)
          (and_from (is_keyed ts row) (eqb (digest_of row) (digest_of row)) is (eq-eqb (digest_of row) (digest_of row) refl)))
      | inr later ↦ or_right (is_keyed ts x && eqb (digest_of row) (digest_of x)) (list_any (λ r. is_keyed ts r && eqb (digest_of row) (digest_of r)) rows) (among rows later)
    ]

-- and so is the digest of a mark that it has
mark_digest_in : (ts : List Table) (t : Footprint) (mark : Mark) → has_row t.marks mark ≡ true → list_any (eqb (mark_digest mark)) (digests_of ts t) ≡ true
mark_digest_in ts t mark e =
    just_the_digests ts t (mark_digest mark)
    ∙ or_right (list_any (λ r. is_keyed ts r && eqb (mark_digest mark) (digest_of r)) t.writes) (list_any (λ m. eqb (mark_digest mark) (mark_digest m)) t.marks) (among t.marks e)
  where
    among : (marks : List Mark) → has_row marks mark ≡ true → list_any (λ m. eqb (mark_digest mark) (mark_digest m)) marks ≡ true
    among [] e = absurd cc
    among (x ∷ marks) e = elim (or_cases (same_row mark x) (has_row marks mark) e) [
      | inl here ↦ or_left (eqb (mark_digest mark) (mark_digest x)) (list_any (λ m. eqb (mark_digest mark) (mark_digest m)) marks)
          (subst (λ m. eqb (mark_digest mark) (mark_digest m) ≡ true) (row_is mark x here) (eq-eqb (mark_digest mark) (mark_digest mark) refl))
      | inr later ↦ or_right (eqb (mark_digest mark) (mark_digest x)) (list_any (λ m. eqb (mark_digest mark) (mark_digest m)) marks) (among marks later)
    ]

-- a digest that two transactions have
pub record Shared (ts : List Table) (a b : Footprint) : Type 0 where
  pub digest : ℕ
  pub first : list_any (eqb digest) (digests_of ts a) ≡ true
  pub second : list_any (eqb digest) (digests_of ts b) ≡ true

-- two transactions that conflict share a digest where neither refers to rows and one writes rows of keyed tables alone
pub shared_digest : (ts : List Table) (a b : Footprint) → a.refs ≡ [] → b.refs ≡ [] → list_all (λ r. is_some (table_at ts r.table)) b.writes ≡ true → misses_keys ts b.writes ≡ false →
    conflicts (touched a) (touched b) ≡ true → Shared ts a b
shared_digest ts a b none_a none_b known no_missing conflict = elim (conflict_of_writes (touched a) (touched b) none_a none_b conflict) [
  | inl written ↦
      let both = in_both a.writes b.writes written in
      let keyed = is_keyed_in ts b.writes both.row known no_missing both.second in
      record { digest = digest_of both.row; first = digest_in ts a both.row keyed both.first; second = digest_in ts b both.row keyed both.second }
  | inr marked ↦
      let both = in_both a.marks b.marks marked in
      record { digest = mark_digest both.row; first = mark_digest_in ts a both.row both.first; second = mark_digest_in ts b both.row both.second }
]
