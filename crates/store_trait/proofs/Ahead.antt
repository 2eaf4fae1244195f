-- How many rows of one table are ahead of a walk, in the order of keys.
use Rattle.std.proofs.Common.{◌≡◌, ◌∙◌, sym, ap, refl, Bool, true, false, true≢false, ◌&&◌, cond, ◌==◌, eq-eqb, ℕ, ◌+◌, ◌<◌, ◌≤◌, ℤ, List, [], ◌∷◌, Option, Some, None, arith}
use Rattle.std.specs.FinMap.{find, entries, get-entries}
use Rattle.std.proofs.lemmas.Bool.{and_parts, and_from, and_right}
use Rattle.std.proofs.lemmas.Int.{ints}
use Rattle.std.proofs.lemmas.Option.{same_Some}
use lib.Signed.{lt_z}
use Rattle.schema.specs.declared.RowId.{RowId}
use Rattle.schema.specs.RowId.{row_cmp, same_row}
use Rattle.rows.specs.Database.{Database}
use Rattle.rows.proofs.Apply.{row_is}
use Rattle.store_trait.specs.Contents.{row_at, IsAbove, IsLeastAbove}
use Rattle.store_trait.proofs.Batches.{holds}

abbrev counted : {X : Type 0} → (X → Bool) → List X → ℕ
counted test [] = 0
counted test (x ∷ xs) = cond (test x) 1 0 + counted test xs

abbrev is_above : Option ℤ → ℤ → Bool
is_above None key = true
is_above (Some bound) key = lt_z bound key

abbrev is_ahead : ℕ → Option ℤ → RowId × List ℤ → Bool
is_ahead table bound e = (e.0.table == table) && is_above bound e.0.key

abbrev pub rows_ahead : Database → ℕ → Option ℤ → ℕ
rows_ahead db table bound = counted (is_ahead table bound) (entries db)

one_or_none : (p q : Bool) → (q ≡ true → p ≡ true) → cond {A = ℕ} q 1 0 ≤ cond {A = ℕ} p 1 0
one_or_none true true h = omega arith
one_or_none true false h = omega arith
one_or_none false true h = absurd (true≢false (sym (h refl)))
one_or_none false false h = omega arith

no_more : {X : Type 0} (p q : X → Bool) (xs : List X) → ((x : X) → q x ≡ true → p x ≡ true) → counted q xs ≤ counted p xs
no_more p q [] h = omega arith
no_more p q (x ∷ xs) h = omega (arith, one_or_none (p x) (q x) (h x), no_more p q xs h)

-- a row that was ahead, and is no more, makes them fewer
fewer : (p q : RowId × List ℤ → Bool) (es : List (RowId × List ℤ)) (id : RowId) (x : List ℤ) → find row_cmp id es ≡ Some x → p (id, x) ≡ true → q (id, x) ≡ false →
    ((e : RowId × List ℤ) → q e ≡ true → p e ≡ true) → counted q es < counted p es
fewer p q [] id x is was now h = absurd cc
fewer p q (e ∷ es) id x is was now h = by (fewer p q es id x) (same_row id e.0) refl is
  where
    by : (find row_cmp id es ≡ Some x → p (id, x) ≡ true → q (id, x) ≡ false → ((e : RowId × List ℤ) → q e ≡ true → p e ≡ true) → counted q es < counted p es) → (b : Bool) → same_row id e.0 ≡ b →
        cond b (Some e.1) (find row_cmp id es) ≡ Some x → counted q (e ∷ es) < counted p (e ∷ es)
    by behind true same here =
        let its : (g : RowId × List ℤ → Bool) → g e ≡ g (id, x) = λ g. (λ i. g (sym (row_is id e.0 same) i, same_Some e.1 x here i)) in
        let one : ◌≡◌ {A = ℕ} (cond (p e) 1 0) 1 = ap (λ (b : Bool). cond {A = ℕ} b 1 0) (its p ∙ was) in
        let none : ◌≡◌ {A = ℕ} (cond (q e) 1 0) 0 = ap (λ (b : Bool). cond {A = ℕ} b 1 0) (its q ∙ now) in
        omega (arith, one, none, no_more p q es h)
    by behind false other there =
        let rest = behind there was now h in
        omega (arith, one_or_none (p e) (q e) (h e), rest)

above_from : (bound : Option ℤ) (key : ℤ) → IsAbove bound key → is_above bound key ≡ true
above_from None key h = refl
above_from (Some bound) key h = holds (lt_z bound key) h.lt

not_itself : (key : ℤ) → lt_z key key ≡ false
not_itself key = grind (arith, ints)

further : (bound : Option ℤ) (key other : ℤ) → IsAbove bound key → lt_z key other ≡ true → is_above bound other ≡ true
further None key other h lt = refl
further (Some bound) key other h lt = grind (arith, ints)

-- what is behind the next row is less than what was ahead of it
pub ahead_falls : (db : Database) (table : ℕ) (bound : Option ℤ) (key : ℤ) (columns : List ℤ) → IsLeastAbove db table bound key columns → rows_ahead db table (Some key) < rows_ahead db table bound
ahead_falls db table bound key columns least =
    fewer (is_ahead table bound) (is_ahead table (Some key)) (entries db) (row_at table key) columns (sym (get-entries db (row_at table key)) ∙ least.there)
    (and_from _ _ (eq-eqb table table refl) (above_from bound key least.above))
    (and_right _ _ (not_itself key))
    (λ e h. (
    let parts = and_parts (e.0.table == table) (lt_z key e.0.key) h in
    and_from _ _ parts.0 (further bound key e.0.key least.above parts.1)
    ))
