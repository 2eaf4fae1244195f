-- Entries of which no two give their rows one mark.
use Rattle.std.proofs.Common.{◌≡◌, ◌↔◌, ◌∙◌, sym, ap, refl, inl, inr, ℕ, Bool, true, false, true≢false, not, ◌&&◌, ◌||◌, cond, ℤ, List, [], ◌∷◌, ◌++◌, Option, Some, None, length, take, drop, get_or}
use Rattle.std.proofs.Common.{◌+◌, ◌<◌}
use Rattle.std.specs.Prelude.{option_to_list}
use Rattle.std.specs.List.{list_any}
use Rattle.std.specs.Option.{option_map_or}
use Rattle.std.specs.Cmp.{eq_by_cmp_equiv}
use Rattle.std.specs.FinMap.{find, empty}
use Rattle.std.proofs.lemmas.Bool.{cases_Bool, or_parts, or_cases, or_left, or_right, or_from, and_parts, and_from}
use Rattle.std.proofs.lemmas.Grind.{flat_map-append}
use Rattle.std.proofs.lemmas.List.{take_more, append-nil, take-append-drop}
use Rattle.std.proofs.lemmas.List.Concat.{flat_map-cons}
use Rattle.std.proofs.lemmas.List.Folds.{list_any-append}
use Rattle.std.proofs.lemmas.Option.{same_Some}
use Rattle.schema.specs.declared.Table.{Table}
use Rattle.schema.specs.declared.RowId.{RowId}
use Rattle.schema.specs.RowId.{row_cmp, same_row, row_total}
use Rattle.schema.specs.Rows.{Mark, has_row}
use Rattle.schema.proofs.RowMaps.{row_is, same_row_itself}
use Rattle.rows.specs.Database.{mark_in, NoValueTwice}
use Rattle.store_trait.specs.Batch.{Entry, IsRising, put_batch}
use Rattle.overlay.proofs.Entries.{AreOnce, once_from_sorted, found_any, any_found}
use Rattle.row_index.specs.Keys.{mark_left, marks_left}
use Rattle.row_index.proofs.Walked.{next_left}
use Rattle.row_index.proofs.Keys.{gives, has_then, had, its_mark, absent}

-- ---- marks of which none comes twice

abbrev pub once_each : List Mark → Bool
once_each [] = true
once_each (m ∷ ms) = not (has_row ms m) && once_each ms

turned : (a b : RowId) → same_row a b ≡ same_row b a
turned a b = (eq_by_cmp_equiv row_total).symm a b

none_of : (b : Bool) → b ≡ false → not b ≡ true
none_of b none = ap not none

not_both : (b : Bool) → not b ≡ true → b ≡ true → ⊥
not_both b fails holds = cc

is_none : (b : Bool) → not b ≡ true → b ≡ false
is_none true h = absurd (true≢false (sym h))
is_none false h = refl

is_there : (b : Bool) → not b ≡ false → b ≡ true
is_there true h = refl
is_there false h = absurd (true≢false h)

-- one more that is not among them
pub once-push : (ms : List Mark) (m : Mark) → once_each ms ≡ true → has_row ms m ≡ false → once_each (ms ++ m ∷ []) ≡ true
once-push [] m once none = refl
once-push (x ∷ xs) m once none =
    let parts = and_parts (not (has_row xs x)) (once_each xs) once in
    let apart = or_parts (same_row m x) (has_row xs m) none in
    and_from (not (has_row (xs ++ m ∷ []) x)) (once_each (xs ++ m ∷ []))
    (none_of (has_row (xs ++ m ∷ []) x) (list_any-append (same_row x) xs (m ∷ [])
    ∙ or_from (has_row xs x) (same_row x m || false) (is_none (has_row xs x) parts.0) (or_from (same_row x m) false (turned x m ∙ apart.0) refl)))
    (once-push xs m parts.1 apart.1)

-- one more that is among them
pub twice-push : (ms rest : List Mark) (m : Mark) → has_row ms m ≡ true → once_each (ms ++ m ∷ rest) ≡ true → ⊥
twice-push [] rest m has once = absurd (true≢false (sym has))
twice-push (x ∷ xs) rest m has once =
    let parts = and_parts (not (has_row (xs ++ m ∷ rest) x)) (once_each (xs ++ m ∷ rest)) once in
    elim (or_cases (same_row m x) (has_row xs m) has) [
      | inl same ↦ not_both (has_row (xs ++ m ∷ rest) x) parts.0
          (list_any-append (same_row x) xs (m ∷ rest) ∙ or_right (has_row xs x) (same_row x m || has_row rest x) (or_left (same_row x m) (has_row rest x) (turned x m ∙ same)))
      | inr there ↦ twice-push xs rest m there parts.1
    ]

once-behind : (o : Option Mark) (ms : List Mark) → once_each (option_to_list o ++ ms) ≡ true → once_each ms ≡ true
once-behind None ms once = once
once-behind (Some m) ms once = (and_parts (not (has_row ms m)) (once_each ms) once).1

once-front : (o : Option Mark) (ms : List Mark) (m : Mark) → once_each (option_to_list o ++ ms) ≡ true → option_map_or (same_row m) o false ≡ true → has_row ms m ≡ true → ⊥
once-front None ms m once is has = absurd (true≢false (sym is))
once-front (Some x) ms m once is has =
    not_both (has_row ms x) (and_parts (not (has_row ms x)) (once_each ms) once).0 (ap (has_row ms) (sym (row_is m x is)) ∙ has)

-- ---- marks of entries

module _ (ts : List Table) where
  left-cons : (e : Entry) (es : List Entry) → marks_left ts (e ∷ es) ≡ option_to_list (mark_left ts e) ++ marks_left ts es
  left-cons e es = flat_map-cons (λ (d : Entry). option_to_list (mark_left ts d)) e es

  has_left : (mark : Mark) (es : List Entry) → has_row (marks_left ts es) mark ≡ list_any (gives ts mark) es
  has_left mark [] = refl
  has_left mark (e ∷ es) =
      ap (λ l. has_row l mark) (left-cons e es) ∙ list_any-append (same_row mark) (option_to_list (mark_left ts e)) (marks_left ts es)
      ∙ (λ i. its_mark mark (mark_left ts e) i || has_left mark es i)

  -- then two that give one mark are of one row
  one_gives : (mark : Mark) (es : List Entry) → once_each (marks_left ts es) ≡ true → (p q : RowId) (l k : Option (List ℤ)) → find row_cmp p es ≡ Some l → find row_cmp q es ≡ Some k →
      gives ts mark (p, l) ≡ true → gives ts mark (q, k) ≡ true → p ≡ q
  one_gives mark [] once p q l k at at' has has' = cc
  one_gives mark (e ∷ es) once p q l k at at' has has' = by (λ its. one_gives mark es its p q l k) (same_row p e.0) (same_row q e.0) refl refl at at'
    where
      its : once_each (option_to_list (mark_left ts e) ++ marks_left ts es) ≡ true
      its = ap once_each (sym (left-cons e es)) ∙ once

      here : (r : RowId) (j : Option (List ℤ)) → same_row r e.0 ≡ true → Some e.1 ≡ Some j → gives ts mark (r, j) ≡ true → gives ts mark e ≡ true
      here r j same is h = (λ i. gives ts mark (sym (row_is r e.0 same) i, same_Some e.1 j is i)) ∙ h

      never : (r s : RowId) (j m : Option (List ℤ)) → same_row r e.0 ≡ true → Some e.1 ≡ Some j → gives ts mark (r, j) ≡ true → find row_cmp s es ≡ Some m → gives ts mark (s, m) ≡ true → ⊥
      never r s j m same is h there h' =
          once-front (mark_left ts e) (marks_left ts es) mark its (here r j same is h) (has_left mark es ∙ any_found (gives ts mark) es s m there h')

      by : (once_each (marks_left ts es) ≡ true → find row_cmp p es ≡ Some l → find row_cmp q es ≡ Some k → gives ts mark (p, l) ≡ true → gives ts mark (q, k) ≡ true → p ≡ q) →
          (a b : Bool) → same_row p e.0 ≡ a → same_row q e.0 ≡ b → cond a (Some e.1) (find row_cmp p es) ≡ Some l → cond b (Some e.1) (find row_cmp q es) ≡ Some k → p ≡ q
      by rest true true s t f g = row_is p e.0 s ∙ sym (row_is q e.0 t)
      by rest true false s t f g = absurd (never p q l k s f has g has')
      by rest false true s t f g = absurd (never q p k l t g has' f has)
      by rest false false s t f g = rest (once-behind (mark_left ts e) (marks_left ts es) its) f g has has'

  -- and where two that give one mark are of one row, no mark comes twice
  each_once : (es : List Entry) → AreOnce es → ((mark : Mark) (p q : RowId) (l k : Option (List ℤ)) → find row_cmp p es ≡ Some l → find row_cmp q es ≡ Some k → gives ts mark (p, l) ≡ true →
      gives ts mark (q, k) ≡ true → p ≡ q) →
      once_each (marks_left ts es) ≡ true
  each_once [] once same = refl
  each_once (e ∷ es) once same = ap once_each (left-cons e es) ∙ by (each_once es once.1 (λ mark p q l k at at'. same mark p q l k (behind p l at) (behind q k at'))) (mark_left ts e) refl
    where
      behind : (r : RowId) (j : Option (List ℤ)) → find row_cmp r es ≡ Some j → find row_cmp r (e ∷ es) ≡ Some j
      behind r j is = at (same_row r e.0) refl
        where
          at : (b : Bool) → same_row r e.0 ≡ b → cond b (Some e.1) (find row_cmp r es) ≡ Some j
          at true here =
              let none : find row_cmp r es ≡ None = ap (λ q. find row_cmp q es) (row_is r e.0 here) ∙ once.0 in
              absurd cc
          at false other = is

      by : once_each (marks_left ts es) ≡ true → (o : Option Mark) → mark_left ts e ≡ o → once_each (option_to_list o ++ marks_left ts es) ≡ true
      by rest None none = rest
      by rest (Some m) is = and_from (not (has_row (marks_left ts es) m)) (once_each (marks_left ts es)) (elim (cases_Bool (has_row (marks_left ts es) m)) [
        | inl has ↦
            let f = found_any (gives ts m) es once.1 (sym (has_left m es) ∙ has) in
            let it : f.0 ≡ e.0 = same m f.0 e.0 f.1 e.1 (behind f.0 f.1 f.2) (ap (λ b. cond b (Some e.1) (find row_cmp e.0 es)) (same_row_itself e.0)) f.3
            (ap (λ o. option_map_or (same_row m) o false) is ∙ same_row_itself m) in
            let none : find row_cmp f.0 es ≡ None = ap (λ q. find row_cmp q es) it ∙ once.0 in
            let there : find row_cmp f.0 es ≡ Some f.1 = f.2 in
            absurd cc
        | inr none ↦ none_of (has_row (marks_left ts es) m) none
      ]) rest

  -- so that tells of the rows that a batch loads whether no two have one value
  pub told_apart : (batch : List Entry) → IsRising batch → (once_each (marks_left ts batch) ≡ true) ↔ NoValueTwice ts (put_batch batch empty)
  told_apart batch rising = (
    λ once p q mark has has'.
        let f = loaded mark p has in
        let g = loaded mark q has' in
        one_gives mark batch once p q f.0 g.0 f.1 g.1 f.2 g.2,
    λ apart. each_once batch (once_from_sorted batch rising) (λ mark p q l k at at' has has'.
        apart p q mark (has_then ts empty batch rising mark p l at ∙ has) (has_then ts empty batch rising mark q k at' ∙ has')),
  )
    where
      loaded : (mark : Mark) (r : RowId) → has_row (mark_in ts (put_batch batch empty) r) mark ≡ true → (l : Option (List ℤ)) × (find row_cmp r batch ≡ Some l) × (gives ts mark (r, l) ≡ true)
      loaded mark r has = by (find row_cmp r batch) refl
        where
          by : (found : Option (Option (List ℤ))) → find row_cmp r batch ≡ found → (l : Option (List ℤ)) × (find row_cmp r batch ≡ Some l) × (gives ts mark (r, l) ≡ true)
          by None out = absurd (true≢false (sym has ∙ had ts empty batch rising mark r out ∙ ap (λ l. has_row l mark) (absent ts r)))
          by (Some l) at = (l, at, sym (has_then ts empty batch rising mark r l at) ∙ has)

-- ---- a walk over entries

-- the next entry of a walk, which gives its row this mark, if any, where those before it gave these
pub record IsNext (ts : List Table) (entries : List Entry) (i : ℕ) (entry : Entry) (keys : List Mark) (o : Option Mark) : Type 0 where
  pub within : i < length entries
  pub entry_is : entry ≡ get_or entries i entry
  pub mark_is : o ≡ mark_left ts entry
  pub walked : keys ≡ marks_left ts (take i entries)

module _ (ts : List Table) (entries : List Entry) (i : ℕ) (entry : Entry) (keys : List Mark) (o : Option Mark) (next : IsNext ts entries i entry keys o) where
  -- one more
  pub front_more : keys ++ option_to_list o ≡ marks_left ts (take (i + 1) entries)
  front_more =
      (λ k. next.walked k ++ option_to_list (next.mark_is k))
      ∙ sym (
      ap (marks_left ts) (take_more entries i entry next.within ∙ ap (λ (e : Entry). take i entries ++ e ∷ []) (sym next.entry_is))
      ∙ flat_map-append (λ (e : Entry). option_to_list (mark_left ts e)) (take i entries) (entry ∷ [])
      ∙ ap (λ l. marks_left ts (take i entries) ++ l) (left-cons ts entry [] ∙ append-nil (option_to_list (mark_left ts entry)))
      )

  -- that is not among those before it
  pub still_once : not (option_map_or (has_row keys) o false) ≡ true → once_each (marks_left ts (take i entries)) ≡ true → once_each (marks_left ts (take (i + 1) entries)) ≡ true
  still_once new once = ap once_each (sym front_more) ∙ by o new
    where
      so_far : once_each keys ≡ true
      so_far = ap once_each next.walked ∙ once

      by : (p : Option Mark) → not (option_map_or (has_row keys) p false) ≡ true → once_each (keys ++ option_to_list p) ≡ true
      by None h = ap once_each (append-nil keys) ∙ so_far
      by (Some m) h = once-push keys m so_far (is_none (has_row keys m) h)

  -- that is among them
  pub comes_twice : not (option_map_or (has_row keys) o false) ≡ false → once_each (marks_left ts entries) ≡ true → ⊥
  comes_twice old once = by o next.mark_is old
    where
      by : (p : Option Mark) → p ≡ mark_left ts entry → not (option_map_or (has_row keys) p false) ≡ false → ⊥
      by None e h = cc
      by (Some m) e h =
          let rest = drop (i + 1) entries in
          twice-push keys (marks_left ts rest) m (is_there (has_row keys m) h)
          (ap once_each (
          (λ k. next.walked k ++ (option_to_list (e k) ++ marks_left ts rest))
          ∙ ap (λ l. marks_left ts (take i entries) ++ l) (sym (left-cons ts entry rest) ∙ ap (marks_left ts) (sym (next_left entries i entry next.within next.entry_is)))
          ∙ sym (flat_map-append (λ (d : Entry). option_to_list (mark_left ts d)) (take i entries) (drop i entries))
          ∙ ap (marks_left ts) (take-append-drop i entries)
          ) ∙ once)
