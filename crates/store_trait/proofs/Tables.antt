-- The least id of a list of tables that is at least a number.
use Rattle.std.proofs.Common.{◌≡◌, ◌∙◌, sym, ap, refl, ℕ, ◌≤◌, ◌<◌, min, true, false, cond, leb, nat_le, ◌==◌, List, [], ◌∷◌, map, filter, fold, Option, Some, None, is_some, ◌⊎◌, inl, inr, ⊎_elim}
use Rattle.std.proofs.Common.{arith, eq-eqb, ne_eqb, leb-true, leb-false}
use Rattle.std.specs.List.{reduce}
use Rattle.std.proofs.lemmas.Bool.{cond-true, cond-false}
use Rattle.schema.specs.declared.Table.{Table}
use Rattle.schema.specs.Schema.{table_at}
use Rattle.store_trait.specs.Walk.{IsListed, IsNextTable}

-- the ids that are at least the number
abbrev pub ids_from : ℕ → List Table → List ℕ
ids_from from ts = filter (λ id. nat_le from id) (map (λ t. t.id) ts)

-- a table of another id in front
table_at-other : (t : Table) (ts : List Table) (id : ℕ) → (t.id ≡ id → ⊥) → table_at (t ∷ ts) id ≡ table_at ts id
table_at-other t ts id other = cond-false _ _ _ (ne_eqb t.id id other)

listed_first : (t : Table) (ts : List Table) (id : ℕ) → t.id ≡ id → IsListed (t ∷ ts) id
listed_first t ts id same = ap is_some (cond-true _ (Some t) (table_at ts id) (eq-eqb t.id id same))

listed_behind : (t : Table) (ts : List Table) (id : ℕ) → IsListed ts id → IsListed (t ∷ ts) id
listed_behind t ts id listed = elim (t.id == id) as (λ b. is_some (cond b (Some t) (table_at ts id)) ≡ true) [ true ↦ refl | false ↦ listed ]

-- the least of a number and the ids
record IsLeast (ts : List Table) (from low least : ℕ) : Type 0 where
  below : least ≤ low
  one : (least ≡ low) ⊎ (IsListed ts least × (from ≤ least))
  none : (other : ℕ) → from ≤ other → other < least → table_at ts other ≡ None

module _ (from : ℕ) where
  least_skips : (t : Table) (ts : List Table) (low least : ℕ) → t.id < from → IsLeast ts from low least → IsLeast (t ∷ ts) from low least
  least_skips t ts low least skips h = record {
    below = h.below;
    one = ⊎_elim inl (λ w. inr (listed_behind t ts least w.0, w.1)) h.one;
    none = λ other at below. table_at-other t ts other (λ same. absurd (omega arith)) ∙ h.none other at below;
  }

  least_takes : (t : Table) (ts : List Table) (low least : ℕ) → from ≤ t.id → IsLeast ts from (min low t.id) least → IsLeast (t ∷ ts) from low least
  least_takes t ts low least takes h =
      let below : least ≤ min low t.id = h.below in
      record {
        below = omega arith;
        one = ⊎_elim (λ same. elim (leb low t.id) as (λ b. leb low t.id ≡ b → (least ≡ low) ⊎ (IsListed (t ∷ ts) least × (from ≤ least))) [
          | true ↦ λ e. let le = leb-true low t.id e in inl (omega arith)
          | false ↦ λ e. let lt = leb-false low t.id e in inr (listed_first t ts least (omega arith), omega arith)
        ] refl) (λ w. inr (listed_behind t ts least w.0, w.1)) h.one;
        none = λ other at under. table_at-other t ts other (λ same. absurd (omega arith)) ∙ h.none other at under;
      }

  least_of : (ts : List Table) (low : ℕ) → IsLeast ts from low (fold min low (ids_from from ts))
  least_of [] low = record { below = omega arith; one = inl refl; none = λ _ _ _. refl }
  least_of (t ∷ ts) low =
      let ids = ids_from from ts in
      elim (leb from t.id) as (λ b. leb from t.id ≡ b → IsLeast (t ∷ ts) from low (fold min low (cond b (t.id ∷ ids) ids))) [
        | true ↦ λ e. least_takes t ts low _ (leb-true from t.id e) (least_of ts (min low t.id))
        | false ↦ λ e. least_skips t ts low _ (leb-false from t.id e) (least_of ts low)
      ] refl

  next_skips : (t : Table) (ts : List Table) (next : Option ℕ) → t.id < from → IsNextTable ts from next → IsNextTable (t ∷ ts) from next
  next_skips t ts None skips h = λ id at. table_at-other t ts id (λ same. absurd (omega arith)) ∙ h id at
  next_skips t ts (Some id) skips h = (h.0, listed_behind t ts id h.1, λ other at below. table_at-other t ts other (λ same. absurd (omega arith)) ∙ h.2 other at below)

  next_takes : (t : Table) (ts : List Table) (least : ℕ) → from ≤ t.id → IsLeast ts from t.id least → IsNextTable (t ∷ ts) from (Some least)
  next_takes t ts least takes h =
      let below : least ≤ t.id = h.below in
      let one : (from ≤ least) × IsListed (t ∷ ts) least = ⊎_elim (λ same. (omega arith, listed_first t ts least (sym same))) (λ w. (w.1, listed_behind t ts least w.0)) h.one in
      (one.0, one.1, λ other at under. table_at-other t ts other (λ same. absurd (omega arith)) ∙ h.none other at under)

  pub next_table_is : (ts : List Table) → IsNextTable ts from (reduce min (ids_from from ts))
  next_table_is [] = λ _ _. refl
  next_table_is (t ∷ ts) =
      let ids = ids_from from ts in
      elim (leb from t.id) as (λ b. leb from t.id ≡ b → IsNextTable (t ∷ ts) from (reduce min (cond b (t.id ∷ ids) ids))) [
        | true ↦ λ e. next_takes t ts _ (leb-true from t.id e) (least_of ts t.id)
        | false ↦ λ e. next_skips t ts _ (leb-false from t.id e) (next_table_is ts)
      ] refl
