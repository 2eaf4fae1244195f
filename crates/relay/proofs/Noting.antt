-- The maps of last touches and of last marks as finite maps, and as rows and marks are noted in them.
use Rattle.std.proofs.Common.{◌≡◌, ◌∙◌, sym, ap, refl, ℕ, ◌+◌, ◌<◌, Bool, true, false, ◌||◌, cond, List, [], ◌∷◌, ◌++◌, length, take, get_or, Option, Some}
use Rattle.std.proofs.Common.{unwrap_or}
use Rattle.std.specs.FinMap.{get, insert, get-insert}
use Rattle.std.proofs.lemmas.List.{take_more, map_push}
use Rattle.schema.specs.declared.RowId.{RowId}
use Rattle.schema.specs.RowId.{same_row, row_total}
use Rattle.schema.specs.Rows.{Mark, has_row}
use Rattle.rows.specs.declared.Change.{Change}
use Rattle.rows.specs.Database.{target, writes}
use Rattle.rows.proofs.Apply.{row_is}
use Rattle.relay.specs.declared.touches.Touch.{Touch}
use Rattle.relay.specs.Touches.{LastTouches, LastMarks, untouched, touch_at, written_at, touched_at, stated_at, NotesWrites, NotesRefs, NotesMarks}

-- ---- a row is noted

touch_at-insert : (touches : LastTouches) (row : RowId) (touch : Touch) (q : RowId) → touch_at (insert touches row touch) q ≡ cond (same_row q row) touch (touch_at touches q)
touch_at-insert touches row touch q = ap (λ o. unwrap_or o untouched) (get-insert row_total touches row touch q) ∙ over (same_row q row) (get touches q)
  where
    over : (b : Bool) (o : Option Touch) → unwrap_or (cond b (Some touch) o) untouched ≡ cond b touch (unwrap_or o untouched)
    over true o = refl
    over false o = refl

has_row-push : (rows : List RowId) (row q : RowId) → has_row (rows ++ row ∷ []) q ≡ (same_row q row || has_row rows q)
has_row-push [] row q = refl
has_row-push (x ∷ rows) row q = ap (λ b. same_row q x || b) (has_row-push rows row q) ∙ swapped (same_row q x) (same_row q row) (has_row rows q)
  where
    swapped : (a b c : Bool) → (a || (b || c)) ≡ (b || (a || c))
    swapped true true c = refl
    swapped true false c = refl
    swapped false b c = refl

joined : (a b : Bool) (new old : ℕ) → cond a new (cond b new old) ≡ cond (a || b) new old
joined true b new old = refl
joined false b new old = refl

written_cond : (b : Bool) (s t : Touch) → (let c = cond b s t in c.written) ≡ cond b s.written t.written
written_cond true s t = refl
written_cond false s t = refl

touched_cond : (b : Bool) (s t : Touch) → (let c = cond b s t in c.touched) ≡ cond b s.touched t.touched
touched_cond true s t = refl
touched_cond false s t = refl

module _ (gno : ℕ) (old now : LastTouches) (rows : List RowId) (row : RowId) where
  pub notes_write : NotesWrites gno old rows now → NotesWrites gno old (rows ++ row ∷ []) (insert now row (record { written = gno; touched = gno }))
  notes_write h =
      let touch : Touch = record { written = gno; touched = gno } in
      record {
        written = λ q.
            ap (λ (t : Touch). t.written) (touch_at-insert now row touch q) ∙ written_cond (same_row q row) touch (touch_at now q)
            ∙ ap (cond (same_row q row) gno) (h.written q) ∙ joined (same_row q row) (has_row rows q) gno (written_at old q)
            ∙ ap (λ b. cond b gno (written_at old q)) (sym (has_row-push rows row q));
        touched = λ q.
            ap (λ (t : Touch). t.touched) (touch_at-insert now row touch q) ∙ touched_cond (same_row q row) touch (touch_at now q)
            ∙ ap (cond (same_row q row) gno) (h.touched q) ∙ joined (same_row q row) (has_row rows q) gno (touched_at old q)
            ∙ ap (λ b. cond b gno (touched_at old q)) (sym (has_row-push rows row q));
      }

  pub notes_ref : NotesRefs gno old rows now → NotesRefs gno old (rows ++ row ∷ []) (insert now row (record { written = written_at now row; touched = gno }))
  notes_ref h =
      let touch : Touch = record { written = written_at now row; touched = gno } in
      record {
        written = λ q.
            ap (λ (t : Touch). t.written) (touch_at-insert now row touch q) ∙ written_cond (same_row q row) touch (touch_at now q)
            ∙ same q (same_row q row) refl ∙ h.written q;
        touched = λ q.
            ap (λ (t : Touch). t.touched) (touch_at-insert now row touch q) ∙ touched_cond (same_row q row) touch (touch_at now q)
            ∙ ap (cond (same_row q row) gno) (h.touched q) ∙ joined (same_row q row) (has_row rows q) gno (touched_at old q)
            ∙ ap (λ b. cond b gno (touched_at old q)) (sym (has_row-push rows row q));
      }
    where
      same : (q : RowId) (b : Bool) → same_row q row ≡ b → cond b (written_at now row) (written_at now q) ≡ written_at now q
      same q true is = ap (written_at now) (sym (row_is q row is))
      same q false is = refl

-- the next change of a list, and the next row
module _ (gno : ℕ) (old now : LastTouches) (i : ℕ) where
  pub next_write : (changes : List Change) (change : Change) → NotesWrites gno old (writes (take i changes)) now → i < length changes → change ≡ get_or changes i change →
      NotesWrites gno old (writes (take (i + 1) changes)) (insert now (target change) (record { written = gno; touched = gno }))
  next_write changes change h within is =
      rw (take_more changes i change within, ← is, map_push target (take i changes) change) (notes_write gno old now (writes (take i changes)) (target change) h)

  pub next_ref : (rows : List RowId) (d : RowId) → NotesRefs gno old (take i rows) now → i < length rows →
      NotesRefs gno old (take (i + 1) rows) (insert now (get_or rows i d) (record { written = written_at now (get_or rows i d); touched = gno }))
  next_ref rows d h within = rw (take_more rows i d within) (notes_ref gno old now (take i rows) (get_or rows i d) h)

-- ---- a mark is noted

stated_at-insert : (stated : LastMarks) (mark : Mark) (gno : ℕ) (q : Mark) → stated_at (insert stated mark gno) q ≡ cond (same_row q mark) gno (stated_at stated q)
stated_at-insert stated mark gno q = ap (λ o. unwrap_or o 0) (get-insert row_total stated mark gno q) ∙ over (same_row q mark) (get stated q)
  where
    over : (b : Bool) (o : Option ℕ) → unwrap_or (cond b (Some gno) o) 0 ≡ cond b gno (unwrap_or o 0)
    over true o = refl
    over false o = refl

notes_mark : (gno : ℕ) (old now : LastMarks) (marks : List Mark) (mark : Mark) → NotesMarks gno old marks now → NotesMarks gno old (marks ++ mark ∷ []) (insert now mark gno)
notes_mark gno old now marks mark h = λ q.
    stated_at-insert now mark gno q ∙ ap (cond (same_row q mark) gno) (h q) ∙ joined (same_row q mark) (has_row marks q) gno (stated_at old q)
    ∙ ap (λ b. cond b gno (stated_at old q)) (sym (has_row-push marks mark q))

-- the next mark of a list
pub next_mark : (gno : ℕ) (old now : LastMarks) (i : ℕ) (marks : List Mark) (mark : Mark) → NotesMarks gno old (take i marks) now → i < length marks → mark ≡ get_or marks i mark →
    NotesMarks gno old (take (i + 1) marks) (insert now mark gno)
next_mark gno old now i marks mark h within is = rw (take_more marks i mark within, ← is) (notes_mark gno old now (take i marks) mark h)
