-- A batch that is put from its last entry to its first.
use Rattle.std.proofs.Common.{◌≡◌, ◌∙◌, sym, ap, refl, subst, ℕ, ◌+◌, ◌<◌, ◌≤◌, Bool, true, false, cond, ◌&&◌, List, [], ◌∷◌, ◌++◌, length, take, drop, Option, Some, None, is_some, is_none, IsSome}
use Rattle.std.proofs.Common.{IsNone, unwrap_or, ℤ, Less, true≢false, arith, append_assoc, append-nil, length-take}
use Rattle.std.specs.List.{count_by}
use Rattle.std.specs.FinMap.{get, find}
use Rattle.std.specs.FinMap as map
use Rattle.std.proofs.lemmas.Bool.{and_from}
use Rattle.std.proofs.lemmas.List.{take-append-drop, drop-append-le}
use Rattle.std.proofs.lemmas.List.Sums.{sum_by_push}
use Rattle.schema.specs.declared.RowId.{RowId}
use Rattle.schema.specs.RowId.{row_cmp, row_total, exact_row, same_row}
use Rattle.rows.specs.Database.{Database, put_row}
use Rattle.rows.proofs.Apply.{get-put_row}
use Rattle.store_trait.specs.Batch.{Entry, IsRising, put_batch}
use Rattle.store_trait.proofs.Batches.{get-put_batch}
use Rattle.vector_store.specs.declared.put.Gap.{Gap}
use Rattle.vector_store.specs.Contents.{KeyedRow, contents_of, AreBehind, AreInOrder}
use Rattle.vector_store.specs.Gap.{IsGap, around, room_of, is_new, count_of}
use Rattle.vector_store.proofs.Order.{order_sorted, sorted_order, order_parts, order_behind, behind_join, find_first, find_behind, get_rows}

-- ---- batches

-- an entry before a batch, put behind it
put_batch-first : (e : Entry) (es : List Entry) (db : Database) → IsRising (e ∷ es) → IsRising es → put_row (put_batch es db) e.0 e.1 ≡ put_batch (e ∷ es) db
put_batch-first e es db rises rest = map.same_map row_total exact_row (put_row (put_batch es db) e.0 e.1) (put_batch (e ∷ es) db) (λ q.
    get-put_row (put_batch es db) e.0 q e.1 ∙ ap (cond (same_row q e.0) e.1) (get-put_batch es db q rest)
    ∙ over (same_row q e.0) e.1 (find row_cmp q es) (get db q) ∙ sym (get-put_batch (e ∷ es) db q rises))
  where
    over : (b : Bool) (put : Option (List ℤ)) (found : Option (Option (List ℤ))) (old : Option (List ℤ)) → cond b put (unwrap_or found old) ≡ unwrap_or (cond b (Some put) found) old
    over true put found old = refl
    over false put found old = refl

-- a row before all of a batch is as it was
get-put_batch_before : (es : List Entry) (db : Database) (id : RowId) → IsRising es → AreBehind id es → get (put_batch es db) id ≡ get db id
get-put_batch_before es db id rising behind = get-put_batch es db id rising ∙ ap (λ found. unwrap_or found (get db id)) (find_behind id es behind)

-- the entries that are still to come, and those that are done
pub record Halves (entries left : List Entry) : Type 0 where
  pub done : List Entry
  pub parts : entries ≡ left ++ done

pub all_left : (entries : List Entry) → Halves entries entries
all_left entries = record { done = []; parts = sym (append-nil entries) }

module _ (entries left before : List Entry) (e : Entry) (h : Halves entries left) (last : left ≡ before ++ e ∷ []) where
  pub one_less : Halves entries before
  one_less = record {
    done = e ∷ h.done;
    parts = h.parts ∙ ap (λ l. l ++ h.done) last ∙ append_assoc before (e ∷ []) h.done;
  }

  module _ (rising : IsRising entries) where
    in_order : AreInOrder (before ++ e ∷ h.done)
    in_order = subst (λ (l : List Entry). AreInOrder l) (h.parts ∙ ap (λ l. l ++ h.done) last ∙ append_assoc before (e ∷ []) h.done) (sorted_order entries rising)

    pub done_behind : AreBehind e.0 h.done
    done_behind = order_behind before h.done e in_order

    pub next_rises : IsRising (e ∷ h.done)
    next_rises = order_sorted (e ∷ h.done) (order_parts before (e ∷ h.done) in_order).1

    pub done_rises : IsRising h.done
    done_rises = order_sorted h.done (order_parts before (e ∷ h.done) in_order).1.1

-- ---- the new rows are counted

count_push : (p : Entry → Bool) (es : List Entry) (e : Entry) → count_by p (es ++ e ∷ []) ≡ count_by p es + count_of (p e)
count_push p es e = sum_by_push (λ x. cond (p x) 1 0) es e

-- the rows up to a place have not been looked at
pub record Counting (entries left : List Entry) (rows : List KeyedRow) (end count : ℕ) : Type 0 where
  pub halves : Halves entries left
  pub within : end ≤ length rows
  pub behind : (q : RowId) → AreBehind q halves.done → AreBehind q (drop end rows)
  pub counted : count + count_by (is_new (contents_of rows)) left ≡ count_by (is_new (contents_of rows)) entries

-- rows before a place, of rows before another
module _ (rows : List KeyedRow) (end : ℕ) (within : end ≤ length rows) (id : RowId) (behind : AreBehind id (drop end rows)) where
  get_front : get (contents_of rows) id ≡ get (contents_of (take end rows)) id
  get_front =
      get_rows rows id ∙ ap (find row_cmp id) (sym (take-append-drop end rows)) ∙ find_first id (take end rows) (drop end rows) behind ∙ sym (get_rows (take end rows) id)

  drop_front : (at : ℕ) → at ≤ end → drop at rows ≡ drop at (take end rows) ++ drop end rows
  drop_front at le = ap (drop at) (sym (take-append-drop end rows)) ∙ drop-append-le at (take end rows) (drop end rows) (omega (arith, length-take end rows))

module _ (entries left before : List Entry) (e : Entry) (rows : List KeyedRow) (end count : ℕ) (h : Counting entries left rows end count) (last : left ≡ before ++ e ∷ []) (rising : IsRising entries)
    (order : AreInOrder rows) where
  behind_end : AreBehind e.0 (drop end rows)
  behind_end = h.behind e.0 (done_behind entries left before e h.halves last rising)

  pub front_order : AreInOrder (take end rows)
  front_order = (order_parts (take end rows) (drop end rows) (subst (λ (l : List KeyedRow). AreInOrder l) (sym (take-append-drop end rows)) order)).0

  pub counting_on : (place : ℕ) (adds : Bool) → place ≤ length (take end rows) → ((q : RowId) → row_cmp q e.0 ≡ Less → AreBehind q (drop place (take end rows))) →
      adds ≡ (is_some e.1 && is_none (get (contents_of (take end rows)) e.0)) → Counting entries before rows place (count + count_of adds)
  unfolding one_less
  counting_on place adds within behind is =
      let n = length-take end rows in
      let is_here : adds ≡ is_new (contents_of rows) e = is ∙ ap (λ o. is_some e.1 && is_none o) (sym (get_front rows end h.within e.0 behind_end)) in
      record {
        halves = one_less entries left before e h.halves last;
        within = omega (arith, h.within);
        behind = λ q all. rw (drop_front rows end h.within e.0 behind_end place (omega (arith, h.within)))
            (behind_join q (drop place (take end rows)) (drop end rows) (behind q all.0) (h.behind q all.1));
        counted =
            let p = is_new (contents_of rows) in
            let counted : count + count_by p (before ++ e ∷ []) ≡ count_by p entries = ap (λ l. count + count_by p l) (sym last) ∙ h.counted in
            let pushed = count_push p before e in
            let same : count_of adds ≡ count_of (p e) = ap count_of is_here in
            omega arith;
      }

-- ---- the rows are merged

-- what is done is put, and the gap has a place for each new row that is still to come
pub record Merging (entries left : List Entry) (first : Database) (gap : Gap) (rows : List KeyedRow) : Type 0 where
  pub halves : Halves entries left
  pub is_gap : IsGap gap rows
  pub order : AreInOrder (around gap rows)
  pub put : contents_of (around gap rows) ≡ put_batch halves.done first
  pub behind : (q : RowId) → AreBehind q halves.done → AreBehind q (drop gap.end rows)
  pub room : count_by (is_new first) left ≤ room_of gap

pub none_merged : (entries : List Entry) (gap : Gap) (rows : List KeyedRow) → IsGap gap rows → AreInOrder (around gap rows) → drop gap.end rows ≡ [] →
    room_of gap ≡ count_by (is_new (contents_of (around gap rows))) entries → Merging entries entries (contents_of (around gap rows)) gap rows
unfolding all_left
none_merged entries gap rows is_gap order last room = record {
  halves = all_left entries;
  is_gap = is_gap;
  order = order;
  put = refl;
  behind = λ q none. rw last tt;
  room = omega arith;
}

none_is : {X : Type 0} (o : Option X) → is_some o ≡ false → is_none o ≡ true
none_is None h = refl
none_is (Some x) h = absurd (true≢false h)

module _ (entries left before : List Entry) (e : Entry) (first : Database) (gap : Gap) (rows : List KeyedRow) (h : Merging entries left first gap rows) (last : left ≡ before ++ e ∷ [])
    (rising : IsRising entries) where
  pub next_behind : AreBehind e.0 (drop gap.end rows)
  next_behind = h.behind e.0 (done_behind entries left before e h.halves last rising)

  -- the entry's row is as it was
  same_there : get (contents_of (around gap rows)) e.0 ≡ get first e.0
  same_there =
      ap (λ db. get db e.0) h.put ∙ get-put_batch_before h.halves.done first e.0 (done_rises entries left before e h.halves last rising) (done_behind entries left before e h.halves last rising)

  counts : count_by (is_new first) before + count_of (is_new first e) ≤ room_of gap
  counts = omega (arith, h.room, ap (count_by (is_new first)) last, count_push (is_new first) before e)

  pub next_room : IsSome e.1 → IsNone (get (contents_of (around gap rows)) e.0) → 0 < room_of gap
  next_room some none =
      let new : is_new first e ≡ true = and_from (is_some e.1) (is_none (get first e.0)) some (none_is (get first e.0) (ap is_some (sym same_there) ∙ none)) in
      omega (arith, counts, ap count_of new)

  pub merging_on : (next : Gap) (left_rows : List KeyedRow) → IsGap next left_rows → AreInOrder (around next left_rows) →
      contents_of (around next left_rows) ≡ put_row (contents_of (around gap rows)) e.0 e.1 → ((q : RowId) → row_cmp q e.0 ≡ Less → AreBehind q (drop next.end left_rows)) →
      room_of next + count_of (is_some e.1) ≡ room_of gap + count_of (is_some (get (contents_of (around gap rows)) e.0)) → Merging entries before first next left_rows
  unfolding one_less
  merging_on next left_rows is_gap order put behind room = record {
    halves = one_less entries left before e h.halves last;
    is_gap = is_gap;
    order = order;
    put = put ∙ ap (λ db. put_row db e.0 e.1) h.put
        ∙ put_batch-first e h.halves.done first (next_rises entries left before e h.halves last rising) (done_rises entries left before e h.halves last rising);
    behind = λ q all. behind q all.0;
    room = room_on (is_some e.1) (get first e.0) (count_by (is_new first) before) (room_of gap) (room_of next) counts (room ∙ ap (λ o. room_of gap + count_of (is_some o)) same_there);
  }
    where
      room_on : (set : Bool) (o : Option (List ℤ)) (n old new : ℕ) → n + count_of (set && is_none o) ≤ old → new + count_of set ≡ old + count_of (is_some o) → n ≤ new
      room_on true None n old new fits is = omega arith
      room_on true (Some x) n old new fits is = omega arith
      room_on false None n old new fits is = omega arith
      room_on false (Some x) n old new fits is = omega arith
