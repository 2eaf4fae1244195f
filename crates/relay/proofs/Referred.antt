-- The refs and marks of a record, where these are exactly the parent rows that its changes look at and their marks.
use Rattle.std.proofs.Common.{◌≡◌, sym, ap, ◌∙◌, refl, ℕ, ◌<◌, ◌≤◌, ◌^◌, Bool, true, false, cond, ◌==◌, List, [], ◌∷◌, ◌++◌, ℤ, Option, Some, None, is_some, true≢false, inl, inr}
use Rattle.std.specs.Prelude.{slice_get, option_and_then, option_to_list, find, flat_map}
use Rattle.std.specs.List.{list_all, list_any}
use Rattle.std.specs.Option.{option_map, option_map_or}
use Rattle.std.specs.FinMap.{get}
use Rattle.std.proofs.lemmas.Bool.Decides.{Decides-eqb}
use Rattle.std.proofs.lemmas.Nat.Bits.{bit_at_above}
use Rattle.std.proofs.lemmas.Bool.{and_from, and_parts, or_cases, or_left, or_right}
use Rattle.std.proofs.lemmas.List.Folds.{list_all-append}
use Rattle.std.proofs.lemmas.Option.{option_and_then_some, same_Some}
use Rattle.schema.specs.declared.Table.{Table}
use Rattle.schema.specs.declared.RowId.{RowId}
use Rattle.schema.specs.RowId.{same_row}
use Rattle.schema.specs.Rows.{Mark, has_row, SameRows}
use Rattle.schema.specs.Schema.{link_of, unique_of}
use Rattle.schema.specs.Flags.{is_parent}
use Rattle.rows.specs.declared.Change.{Change}
use Rattle.rows.specs.Step.{kin_of}
use Rattle.rows.specs.Database.{Database, target, parent_of, parent_in, apply, step_between, steps, kin, marks}
use Rattle.rows.specs.Naming.{names_column}
use Rattle.rows.proofs.Apply.{row_is, same_row_itself}
use Rattle.rows.proofs.Marks.{marks_of_unique}
use Rattle.relay.specs.Form.{are_parents, are_unique}

-- ---- sets of rows

pub holds_of : (p : RowId → Bool) (rows : List RowId) (q : RowId) → list_all p rows ≡ true → has_row rows q ≡ true → p q ≡ true
holds_of p [] q all is = absurd (true≢false (sym is))
holds_of p (row ∷ rows) q all is =
    let parts = and_parts (p row) (list_all p rows) all in
    elim (or_cases (same_row q row) (has_row rows q) is) [
      | inl here ↦ ap p (row_is q row here) ∙ parts.0
      | inr there ↦ holds_of p rows q parts.1 there
    ]

pub all_from : (p : RowId → Bool) (rows : List RowId) → ((q : RowId) → has_row rows q ≡ true → p q ≡ true) → list_all p rows ≡ true
all_from p [] each = refl
all_from p (row ∷ rows) each =
    and_from (p row) (list_all p rows) (each row (or_left (same_row row row) (has_row rows row) (same_row_itself row)))
    (all_from p rows (λ q is. each q (or_right (same_row q row) (has_row rows q) is)))

-- ---- parent rows are of tables that are parents

-- the row of this table by its key
abbrev pub row_by : ℕ → ℤ → RowId
row_by table key = record { table = table; key = key }

abbrev is_child_of : ℕ → Table → Bool
is_child_of id t = option_map_or (λ link. link.1 == id) t.parent false

of_itself : (link : ℕ × ℕ) (o : Option (ℕ × ℕ)) → o ≡ Some link → option_map_or (λ l. l.1 == link.1) o false ≡ true
of_itself link o e = ap (λ (p : Option (ℕ × ℕ)). option_map_or (λ l. l.1 == link.1) p false) e ∙ (Decides-eqb link.1 link.1).1 refl

link_is_parent : (ts : List Table) (id : ℕ) (link : ℕ × ℕ) → option_and_then (λ (t : Table). t.parent) (find (λ t. t.id == id) ts) ≡ Some link → list_any (is_child_of link.1) ts ≡ true
link_is_parent [] id link is = cc
link_is_parent (t ∷ ts) id link is = by (t.id == id) (link_is_parent ts id link) is
  where
    by : (b : Bool) → (option_and_then (λ (t : Table). t.parent) (find (λ t. t.id == id) ts) ≡ Some link → list_any (is_child_of link.1) ts ≡ true) →
        option_and_then (λ (t : Table). t.parent) (cond b (Some t) (find (λ t. t.id == id) ts)) ≡ Some link → list_any (is_child_of link.1) (t ∷ ts) ≡ true
    by true behind e = or_left (is_child_of link.1 t) (list_any (is_child_of link.1) ts) (of_itself link t.parent e)
    by false behind e = or_right (is_child_of link.1 t) (list_any (is_child_of link.1) ts) (behind e)

-- the parent row that columns name is of a parent table
named_is_parent : (ts : List Table) (id : ℕ) (columns : List ℤ) (p : RowId) → parent_of ts id columns ≡ Some p → is_parent ts p.table ≡ true
named_is_parent ts id columns p is =
    option_and_then_some (λ (link : ℕ × ℕ). option_map (row_by link.1) (slice_get columns link.0)) (link_of ts id) p is (λ link at named.
    ap (is_parent ts) (sym (table_is link (slice_get columns link.0) named)) ∙ link_is_parent ts id link at)
  where
    table_is : (link : ℕ × ℕ) (o : Option ℤ) → option_map (row_by link.1) o ≡ Some p → link.1 ≡ p.table
    table_is link None e = cc
    table_is link (Some key) e = ap (λ (r : RowId). r.table) (same_Some (row_by link.1 key) p e)

one_of : (p : RowId → Bool) (o : Option RowId) → ((q : RowId) → o ≡ Some q → p q ≡ true) → list_all p (option_to_list o) ≡ true
one_of p None each = refl
one_of p (Some q) each = and_from (p q) true (each q refl) refl

parent_in_is_parent : (ts : List Table) (db : Database) (id : RowId) → are_parents ts (parent_in ts db id) ≡ true
parent_in_is_parent ts db id =
    one_of (λ row. is_parent ts row.table) (option_and_then (parent_of ts id.table) (get db id)) (λ q is.
    option_and_then_some (parent_of ts id.table) (get db id) q is (λ columns at named. named_is_parent ts id.table columns q named))

pub kin_are_parents : (ts : List Table) (changes : List Change) (db : Database) → are_parents ts (kin ts changes db) ≡ true
kin_are_parents ts [] db = refl
kin_are_parents ts (change ∷ changes) db =
    by (apply ts change db) (λ after. kin_are_parents ts changes after)
  where
    three : (xs ys zs : List RowId) → are_parents ts xs ≡ true → are_parents ts ys ≡ true → are_parents ts zs ≡ true → are_parents ts (xs ++ ys ++ zs) ≡ true
    three xs ys zs x y z =
        list_all-append (λ (row : RowId). is_parent ts row.table) (xs ++ ys) zs
        ∙ and_from (are_parents ts (xs ++ ys)) (are_parents ts zs) (list_all-append (λ (row : RowId). is_parent ts row.table) xs ys ∙ and_from (are_parents ts xs) (are_parents ts ys) x y) z

    by : (o : Option Database) → ((after : Database) → are_parents ts (kin ts changes after) ≡ true) →
        are_parents ts (flat_map kin_of (option_map_or (λ after. step_between ts change db after ∷ steps ts changes after) o [])) ≡ true
    by None behind = refl
    by (Some after) behind = three (parent_in ts db (target change)) (parent_in ts after (target change)) (kin ts changes after) (parent_in_is_parent ts db (target change))
        (parent_in_is_parent ts after (target change)) (behind after)

-- refs that are exactly the parent rows that changes look at are of parent tables
pub refs_are_parents : (ts : List Table) (changes : List Change) (db : Database) (refs : List RowId) → SameRows refs (kin ts changes db) → are_parents ts refs ≡ true
refs_are_parents ts changes db refs same =
    all_from (λ row. is_parent ts row.table) refs (λ q is.
    holds_of (λ row. is_parent ts row.table) (kin ts changes db) q (kin_are_parents ts changes db) (sym (same q) ∙ is))

-- marks that are exactly those of changes are of tables with a unique column
pub marks_are_unique : (ts : List Table) (changes : List Change) (db : Database) (stated : List Mark) → SameRows stated (marks ts changes db) → are_unique ts stated ≡ true
marks_are_unique ts changes db stated same =
    all_from (λ mark. is_some (unique_of ts mark.table)) stated (λ q is.
    holds_of (λ mark. is_some (unique_of ts mark.table)) (marks ts changes db) q (marks_of_unique ts changes db) (sym (same q) ∙ is))

-- no column past the bits of the mask is named
pub not_named : (mask c : ℕ) (o : Option ℤ) → mask < 2 ^ 16 → 16 ≤ c → None ≡ cond (names_column mask c) o None
not_named mask c o low above = ap (λ n. cond (n == 1) o None) (sym (bit_at_above mask 16 c low above))
