-- The steps in which a batch is put.
use Rattle.std.proofs.Common.{◌≡◌, ◌∙◌, sym, ap, refl, subst, ℕ, zero, suc, ◌+◌, ◌<◌, ℤ, Bool, true, false, cond, List, [], ◌∷◌, ◌++◌, length, get_or, take, drop, Option, Some, None, is_some, IsSome}
use Rattle.std.proofs.Common.{IfSome, unwrap_or, FitsSigned, w64, arith, add-one, drop-cons, is_eq, is_lt}
use Rattle.std.specs.List.{AllByRecursion}
use Rattle.std.specs.FinMap.{get, find, insert, remove, get-insert, get-remove, same_map, is_sorted}
use Rattle.std.specs.Cmp.{tied_itself, eq_by_cmp_equiv}
use Rattle.std.specs.FinMap.Entries.{below_all}
use Rattle.std.proofs.lemmas.Bool.{and_parts, cond-true, cond-false, false≢true}
use Rattle.std.proofs.lemmas.List.{take_more}
use Rattle.schema.specs.declared.RowId.{RowId}
use Rattle.schema.specs.RowId.{row_cmp, row_total, exact_row, same_row}
use Rattle.schema.proofs.Lists.{AllByRecursion-push}
use Rattle.rows.specs.Database.{Database}
use Rattle.store_trait.specs.Batch.{Entry, IsRising, put_row, put_batch}
use Rattle.rows.proofs.Apply.{get-put_row, row_is}
use Rattle.store_trait.proofs.Batches.{less_apart, get-put_batch}
use Rattle.btree_store.specs.Contents.{KeysFit}
use Rattle.btree_store.specs.Put.{reset, undo, AreSet}

-- ---- what is set and put back again

pub undo-append : (es : List Entry) (e : Entry) (db : Database) → undo (es ++ e ∷ []) db ≡ undo es (reset db e.0 e.1)
undo-append [] e db = refl
undo-append (first ∷ es) e db = ap (λ (m : Database). reset m first.0 first.1) (undo-append es e db)

-- an absent row that is put in and taken out
remove-insert : (db : Database) (id : RowId) (columns : List ℤ) → get db id ≡ None → remove (insert db id columns) id ≡ db
remove-insert db id columns absent = same_map row_total exact_row (remove (insert db id columns) id) db (λ q.
    get-remove row_total (insert db id columns) id q ∙ ap (cond (same_row q id) None) (get-insert row_total db id columns q) ∙ at q (same_row q id) refl)
  where
    at : (q : RowId) (b : Bool) → same_row q id ≡ b → cond b None (cond b (Some columns) (get db q)) ≡ get db q
    at q true same = sym absent ∙ ap (get db) (sym (row_is q id same))
    at q false other = refl

-- a row that is set, and set to what it was
insert-back : (db : Database) (id : RowId) (columns old : List ℤ) → get db id ≡ Some old → insert (insert db id columns) id old ≡ db
insert-back db id columns old there = same_map row_total exact_row (insert (insert db id columns) id old) db (λ q.
    get-insert row_total (insert db id columns) id old q ∙ ap (cond (same_row q id) (Some old)) (get-insert row_total db id columns q) ∙ at q (same_row q id) refl)
  where
    at : (q : RowId) (b : Bool) → same_row q id ≡ b → cond b (Some old) (cond b (Some columns) (get db q)) ≡ get db q
    at q true same = sym there ∙ ap (get db) (sym (row_is q id same))
    at q false other = refl

-- the row is there then
get-inserted : (db : Database) (id : RowId) (columns : List ℤ) → get (insert db id columns) id ≡ Some columns
get-inserted db id columns = get-insert row_total db id columns id ∙ cond-true _ _ _ (ap is_eq (tied_itself row_total id))

pub reset-insert : (db : Database) (id : RowId) (columns : List ℤ) (old : Option (List ℤ)) → get db id ≡ old → reset (insert db id columns) id old ≡ db
reset-insert db id columns None was = remove-insert db id columns was
reset-insert db id columns (Some old) was = cond-true _ _ _ (ap is_some (get-inserted db id columns)) ∙ insert-back db id columns old was

-- what is set last is put back first
pub undo-insert : (es : List Entry) (id : RowId) (columns : List ℤ) (db : Database) (old : Option (List ℤ)) → get db id ≡ old → undo (es ++ (id, old) ∷ []) (insert db id columns) ≡ undo es db
undo-insert es id columns db old was = undo-append es (id, old) (insert db id columns) ∙ ap (undo es) (reset-insert db id columns old was)

-- a row that is set to what it is
pub put_row-there : (db : Database) (id : RowId) (columns : List ℤ) → get db id ≡ Some columns → put_row db id (Some columns) ≡ db
put_row-there db id columns there = same_map row_total exact_row (insert db id columns) db (λ q. get-insert row_total db id columns q ∙ at q (same_row q id) refl)
  where
    at : (q : RowId) (b : Bool) → same_row q id ≡ b → cond b (Some columns) (get db q) ≡ get db q
    at q true same = sym there ∙ ap (get db) (sym (row_is q id same))
    at q false other = refl

-- ---- rows are set

abbrev AreApart : RowId → List Entry → Type 0
AreApart id es = AllByRecursion (λ e. same_row e.0 id ≡ false) es

AreSet-insert : (db : Database) (id : RowId) (columns : List ℤ) (es : List Entry) → AreApart id es → AreSet db es → AreSet (insert db id columns) es
AreSet-insert db id columns [] apart h = tt
AreSet-insert db id columns ((row, None) ∷ es) apart h = (tt, AreSet-insert db id columns es apart.1 h.1)
AreSet-insert db id columns ((row, Some left) ∷ es) apart h =
    (get-insert row_total db id columns row ∙ cond-false _ _ _ apart.0 ∙ h.0, AreSet-insert db id columns es apart.1 h.1)

AreSet-push : (db : Database) (es : List Entry) (e : Entry) → AreSet db es → IfSome e.1 (λ columns. get db e.0 ≡ Some columns) → AreSet db (es ++ e ∷ [])
AreSet-push db [] e h last = (last, tt)
AreSet-push db (f ∷ es) e h last = (h.0, AreSet-push db es e h.1 last)

-- each row of a batch is apart from those before it
below_at : (id : RowId) (es : List Entry) (i : ℕ) (d : Entry) → below_all row_cmp id es ≡ true → i < length es → is_lt (row_cmp id (get_or es i d).0) ≡ true
below_at id [] i d below within = absurd (omega arith)
below_at id (e ∷ es) zero d below within = (and_parts _ (below_all row_cmp id es) below).0
below_at id (e ∷ es) (suc i) d below within = below_at id es i d (and_parts (is_lt (row_cmp id e.0)) _ below).1 (omega arith)

apart_before : (es : List Entry) (i : ℕ) (d : Entry) → IsRising es → i < length es → AreApart (get_or es i d).0 (take i es)
apart_before [] i d rising within = absurd (omega arith)
apart_before (e ∷ es) zero d rising within = tt
apart_before (e ∷ es) (suc i) d rising within =
    let parts = and_parts (below_all row_cmp e.0 es) (is_sorted row_cmp es) rising in
    (less_apart (row_cmp e.0 (get_or es i d).0) (below_at e.0 es i d parts.0 (omega arith)), apart_before es i d parts.1 (omega arith))

-- a row of the batch is put whatever was there
put_batch-insert : (es : List Entry) (db : Database) (id : RowId) (columns : List ℤ) → IsRising es → IsSome (find row_cmp id es) → put_batch es (insert db id columns) ≡ put_batch es db
put_batch-insert es db id columns rising found = same_map row_total exact_row (put_batch es (insert db id columns)) (put_batch es db) (λ q.
    get-put_batch es (insert db id columns) q rising ∙ at q (same_row q id) refl ∙ sym (get-put_batch es db q rising))
  where
    whatever : (o : Option (Option (List ℤ))) (a b : Option (List ℤ)) → IsSome o → unwrap_or o a ≡ unwrap_or o b
    whatever None a b none = absurd (false≢true none)
    whatever (Some x) a b some = refl

    at : (q : RowId) (b : Bool) → same_row q id ≡ b → unwrap_or (find row_cmp q es) (get (insert db id columns) q) ≡ unwrap_or (find row_cmp q es) (get db q)
    at q true same = whatever (find row_cmp q es) _ _ (ap (λ r. is_some (find row_cmp r es)) (row_is q id same) ∙ found)
    at q false other = ap (unwrap_or (find row_cmp q es)) (get-insert row_total db id columns q ∙ cond-false _ _ _ other)

-- a row of the batch is found in it
found_at : (es : List Entry) (i : ℕ) (d : Entry) → i < length es → IsSome (find row_cmp (get_or es i d).0 es)
found_at [] i d within = absurd (omega arith)
found_at (e ∷ es) zero d within = ap is_some (cond-true _ (Some e.1) (find row_cmp e.0 es) (ap is_eq (tied_itself row_total e.0)))
found_at (e ∷ es) (suc i) d within =
    elim (same_row (get_or es i d).0 e.0) as (λ b. is_some (cond b (Some e.1) (find row_cmp (get_or es i d).0 es)) ≡ true) [
      | true ↦ refl
      | false ↦ found_at es i d (omega arith)
    ]

-- after i entries: what was set can be put back, the batch does the same, and the rows so far are set
pub record Filling (es : List Entry) (i : ℕ) (first now : Database) (before after : List Entry) : Type 0 where
  pub undone : undo after now ≡ undo before first
  pub same : put_batch es now ≡ put_batch es first
  pub set : AreSet now (take i es)

module _ (es : List Entry) (i : ℕ) (first now : Database) (before after : List Entry) (h : Filling es i first now before after) (within : i < length es) where
  -- an entry that removes its row
  pub filling_skips : (id : RowId) → (id, None) ≡ get_or es i (id, None) → Filling es (i + 1) first now before after
  filling_skips id is = record {
    undone = h.undone;
    same = h.same;
    set = rw (take_more es i (id, None) within, ← is) (AreSet-push now (take i es) (id, None) h.set tt);
  }

  -- an entry that sets its row
  pub filling_on : (id : RowId) (columns : List ℤ) (next : Database) (kept : List Entry) → IsRising es → (id, Some columns) ≡ get_or es i (id, Some columns) → undo kept next ≡ undo after now →
      next ≡ insert now id columns → Filling es (i + 1) first next before kept
  filling_on id columns next kept rising is undone put =
      let found : IsSome (find row_cmp id es) = ap (λ (e : Entry). is_some (find row_cmp e.0 es)) is ∙ found_at es i (id, Some columns) within in
      let apart : AreApart id (take i es) = subst (λ (e : Entry). AreApart e.0 (take i es)) (sym is) (apart_before es i (id, Some columns) rising within) in
      let set : AreSet (insert now id columns) (take i es ++ (id, Some columns) ∷ []) =
      AreSet-push (insert now id columns) (take i es) (id, Some columns) (AreSet-insert now id columns (take i es) apart h.set) (get-inserted now id columns)
      in
      record {
        undone = undone ∙ h.undone;
        same = ap (put_batch es) put ∙ put_batch-insert es now id columns rising found ∙ h.same;
        set = rw (take_more es i (id, Some columns) within, ← is, put) set;
      }

-- ---- rows are removed

-- after i entries: the rest of the batch leads to the same, and its rows are set
pub record Setting (es : List Entry) (i : ℕ) (first now : Database) : Type 0 where
  pub put : put_batch (drop i es) now ≡ put_batch es first
  pub set : AreSet now (drop i es)
  pub rising : IsRising (drop i es)
  pub keys : AllByRecursion (λ e. FitsSigned w64 e.0.key) (take i es)

-- a row before others leaves them set
AreSet-put_row : (db : Database) (id : RowId) (columns : Option (List ℤ)) (es : List Entry) → below_all row_cmp id es ≡ true → AreSet db es → AreSet (put_row db id columns) es
AreSet-put_row db id columns [] below h = tt
AreSet-put_row db id columns ((row, None) ∷ es) below h = (tt, AreSet-put_row db id columns es (and_parts (is_lt (row_cmp id row)) (below_all row_cmp id es) below).1 h.1)
AreSet-put_row db id columns ((row, Some left) ∷ es) below h =
    let parts = and_parts (is_lt (row_cmp id row)) (below_all row_cmp id es) below in
    let other : same_row row id ≡ false = (eq_by_cmp_equiv row_total).symm row id ∙ less_apart (row_cmp id row) parts.0 in
    (get-put_row db id row columns ∙ cond-false _ _ _ other ∙ h.0, AreSet-put_row db id columns es parts.1 h.1)

keys-push : (es : List Entry) (e : Entry) → AllByRecursion (λ (f : Entry). FitsSigned w64 f.0.key) es → FitsSigned w64 e.0.key → AllByRecursion (λ (f : Entry). FitsSigned w64 f.0.key) (es ++ e ∷ [])
keys-push es e h last = AllByRecursion-push (λ (f : Entry). FitsSigned w64 f.0.key) es e h last

module _ (es : List Entry) (i : ℕ) (first now : Database) (h : Setting es i first now) (within : i < length es) (id : RowId) (columns : Option (List ℤ))
    (is : (id, columns) ≡ get_or es i (id, columns)) where
  rest_is : drop i es ≡ (id, columns) ∷ drop (i + 1) es
  rest_is = drop-cons es i (id, columns) within ∙ rw (← is, add-one) refl

  -- the row of the next entry is set, where the entry sets it
  pub setting_next : IfSome columns (λ left. get now id ≡ Some left)
  setting_next = (subst (AreSet now) rest_is h.set).0

  -- the next entry
  pub setting_on : (next : Database) → next ≡ put_row now id columns → FitsSigned w64 id.key → Setting es (i + 1) first next
  setting_on next put key =
      let rest = drop (i + 1) es in
      let rises : IsRising ((id, columns) ∷ rest) = subst IsRising rest_is h.rising in
      let parts = and_parts (below_all row_cmp id rest) (is_sorted row_cmp rest) rises in
      let set : AreSet now ((id, columns) ∷ rest) = subst (AreSet now) rest_is h.set in
      record {
        put = ap (put_batch rest) put ∙ ap (λ l. put_batch l now) (sym rest_is) ∙ h.put;
        set = rw put (AreSet-put_row now id columns rest parts.0 set.1);
        rising = parts.1;
        keys = rw (take_more es i (id, columns) within, ← is) (keys-push (take i es) (id, columns) h.keys key);
      }

-- ---- keys

-- keys that fit before and in the batch fit behind it
pub KeysFit-put_batch : (es : List Entry) (db : Database) → AllByRecursion (λ (e : Entry). FitsSigned w64 e.0.key) es → KeysFit db → KeysFit (put_batch es db)
KeysFit-put_batch [] db keys h = h
KeysFit-put_batch (e ∷ es) db keys h = KeysFit-put_batch es (put_row db e.0 e.1) keys.1 (λ id columns there. at id columns there (same_row id e.0) refl)
  where
    at : (id : RowId) (columns : List ℤ) → get (put_row db e.0 e.1) id ≡ Some columns → (b : Bool) → same_row id e.0 ≡ b → FitsSigned w64 id.key
    at id columns there true same = subst (λ (r : RowId). FitsSigned w64 r.key) (sym (row_is id e.0 same)) keys.0
    at id columns there false other = h id columns (sym (cond-false _ _ _ other) ∙ sym (get-put_row db e.0 id e.1) ∙ there)
