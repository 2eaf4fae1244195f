-- What sessions hold that took rows to write, rows that they refer to for sharing, and marks.
use Rattle.std.proofs.Common.{◌≡◌, ◌≢◌, ◌∙◌, sym, ap, refl, ℕ, ◌≤◌, Bool, true, false, true≢false, ◌&&◌, ◌||◌, cond, Option, Some, None, List, [], ◌∷◌, ◌++◌}
use Rattle.std.specs.List.{list_any}
use Rattle.std.specs.FinMap.{get, empty, get-empty, same_map}
use Rattle.std.proofs.Math.Bool.{and-true}
use Rattle.std.proofs.lemmas.Bool.{or_right}
use Rattle.std.proofs.lemmas.List.Folds.{list_any-append}
use Rattle.schema.specs.declared.RowId.{RowId}
use Rattle.schema.specs.RowId.{row_cmp, same_row, row_total, exact_row}
use Rattle.schema.specs.Rows.{has_row, meets}
use Rattle.row_locks.specs.declared.Mode.{Mode}
use Rattle.row_locks.specs.declared.Mode.TheVariants.{Share, Exclusive}
use Rattle.row_locks.specs.Mode.{is_exclusive, opposes}
use Rattle.row_locks.specs.Locks.{Holding, Locks, held_by, also_held, locks_on, holding, NoClash}
use Rattle.row_locks.specs.Laws.{HeldByRows, HoldsMoreRows, HoldsMoreMarks, HoldersDoNotConflict}
use Rattle.schema.proofs.RowMaps.{same_row_itself}
use Rattle.row_locks.proofs.OneSession.{held_as_listed, holders_share}

-- ---- how a row is held

-- what clashes with the same locks is held the same way
held_alike : (o p : Option Mode) → ((mode : Mode) → opposes o mode ≡ opposes p mode) → o ≡ p
held_alike None None h = refl
held_alike None (Some Share) h = absurd (true≢false (sym (h Exclusive)))
held_alike None (Some Exclusive) h = absurd (true≢false (sym (h Share)))
held_alike (Some Share) None h = absurd (true≢false (h Exclusive))
held_alike (Some Share) (Some Share) h = refl
held_alike (Some Share) (Some Exclusive) h = absurd (true≢false (sym (h Share)))
held_alike (Some Exclusive) None h = absurd (true≢false (h Share))
held_alike (Some Exclusive) (Some Share) h = absurd (true≢false (h Share))
held_alike (Some Exclusive) (Some Exclusive) h = refl

abbrev is_opposed : RowId → Mode → RowId × Mode → Bool
is_opposed row mode lock = same_row row lock.0 && opposes (Some lock.1) mode

-- a lock on one of the rows clashes where it is there and its way does
opposed_on : (row : RowId) (mode held : Mode) (rows : List RowId) → list_any (is_opposed row mode) (locks_on held rows) ≡ (has_row rows row && opposes (Some held) mode)
opposed_on row mode held [] = refl
opposed_on row mode held (r ∷ rows) =
    ap (λ b. (same_row row r && opposes (Some held) mode) || b) (opposed_on row mode held rows)
    ∙ apart (same_row row r) (has_row rows row) (opposes (Some held) mode)
  where
    apart : (a b c : Bool) → ((a && c) || (b && c)) ≡ ((a || b) && c)
    apart true true true = refl
    apart true true false = refl
    apart true false true = refl
    apart true false false = refl
    apart false b c = refl

-- whether a lock of another session clashes with these rows
opposed_by_rows : (writes refs : List RowId) (row : RowId) (mode : Mode) → opposes (get (holding writes refs) row) mode ≡ (has_row writes row || (has_row refs row && is_exclusive mode))
opposed_by_rows writes refs row mode =
    held_as_listed empty (locks_on Exclusive writes ++ locks_on Share refs) row mode
    ∙ ap (λ o. opposes o mode || list_any (is_opposed row mode) (locks_on Exclusive writes ++ locks_on Share refs)) (get-empty row_cmp row)
    ∙ list_any-append (is_opposed row mode) (locks_on Exclusive writes) (locks_on Share refs)
    ∙ (λ i. opposed_on row mode Exclusive writes i || opposed_on row mode Share refs i)
    ∙ ap (λ b. b || (has_row refs row && is_exclusive mode)) (and-true (has_row writes row))

abbrev way : Bool → Bool → Option Mode
way written referred = cond written (Some Exclusive) (cond referred (Some Share) None)

opposed_way : (written referred : Bool) (mode : Mode) → opposes (way written referred) mode ≡ (written || (referred && is_exclusive mode))
opposed_way true referred mode = refl
opposed_way false true mode = refl
opposed_way false false mode = refl

pub held_by_rows : HeldByRows
held_by_rows writes refs row =
    held_alike (get (holding writes refs) row) (way (has_row writes row) (has_row refs row)) (λ mode.
    opposed_by_rows writes refs row mode ∙ sym (opposed_way (has_row writes row) (has_row refs row) mode))

pub holds_more_rows : HoldsMoreRows
holds_more_rows writes refs row more =
    same_map row_total exact_row (also_held (holding writes refs) ((row, Exclusive) ∷ locks_on Share more)) (holding (writes ++ row ∷ []) (refs ++ more)) (λ q.
    held_alike (get (also_held (holding writes refs) ((row, Exclusive) ∷ locks_on Share more)) q) (get (holding (writes ++ row ∷ []) (refs ++ more)) q) (λ mode.
    held_as_listed (holding writes refs) ((row, Exclusive) ∷ locks_on Share more) q mode
    ∙ (λ i. opposed_by_rows writes refs q mode i || ((same_row q row && true) || opposed_on q mode Share more i))
    ∙ sorted (has_row writes q) (has_row refs q) (same_row q row) (has_row more q) (is_exclusive mode)
    ∙ (λ i. sym (list_any-append (same_row q) writes (row ∷ [])) i || (sym (list_any-append (same_row q) refs more) i && is_exclusive mode))
    ∙ sym (opposed_by_rows (writes ++ row ∷ []) (refs ++ more) q mode)))
  where
    sorted : (w r s m e : Bool) → ((w || (r && e)) || ((s && true) || (m && e))) ≡ ((w || (s || false)) || ((r || m) && e))
    sorted true r s m e = refl
    sorted false true s m true = by s
      where
        by : (s : Bool) → true ≡ ((s || false) || true)
        by true = refl
        by false = refl
    sorted false true true m false = refl
    sorted false true false true false = refl
    sorted false true false false false = refl
    sorted false false true m e = refl
    sorted false false false m e = refl

pub holds_more_marks : HoldsMoreMarks
holds_more_marks marks more =
    same_map row_total exact_row (also_held (holding marks []) (locks_on Exclusive more)) (holding (marks ++ more) []) (λ q.
    held_alike (get (also_held (holding marks []) (locks_on Exclusive more)) q) (get (holding (marks ++ more) []) q) (λ mode.
    held_as_listed (holding marks []) (locks_on Exclusive more) q mode
    ∙ (λ i. opposed_by_rows marks [] q mode i || opposed_on q mode Exclusive more i)
    ∙ sorted (has_row marks q) (has_row more q)
    ∙ (λ i. sym (list_any-append (same_row q) marks more) i || false)
    ∙ sym (opposed_by_rows (marks ++ more) [] q mode)))
  where
    sorted : (m n : Bool) → ((m || false) || (n && true)) ≡ ((m || n) || false)
    sorted true n = refl
    sorted false true = refl
    sorted false false = refl

-- ---- two sessions

-- sets of rows without a row in common
meets_none : (xs ys : List RowId) → ((q : RowId) → has_row xs q ≡ true → has_row ys q ≡ false) → meets xs ys ≡ false
meets_none [] ys h = refl
meets_none (x ∷ xs) ys h =
    (λ i. h x (ap (λ b. b || has_row xs x) (same_row_itself x)) i || meets xs ys)
    ∙ meets_none xs ys (λ q is. h q (or_right (same_row q x) (has_row xs q) is))

-- where a row is written by one session, no other holds it
alone : (locks : Locks) → NoClash locks → (session other : ℕ) (row : RowId) → 1 ≤ session → 1 ≤ other → session ≢ other → get (held_by locks session) row ≡ Some Exclusive →
    get (held_by locks other) row ≡ None
alone locks none session other row least least' apart here = by (get (held_by locks other) row) refl
  where
    by : (o : Option Mode) → get (held_by locks other) row ≡ o → o ≡ None
    by None is = refl
    by (Some mode) is =
        let share : Exclusive ≡ Share = (holders_share locks none session other row Exclusive mode least least' apart here is).0 in
        cc

not_held : (written referred : Bool) → way written referred ≡ None → (written ≡ false) × (referred ≡ false)
not_held true referred h = cc
not_held false true h = cc
not_held false false h = (refl, refl)

-- what one session writes another neither writes nor refers to
unheld : (writes refs writes' refs' : List RowId) (mine theirs : Holding) → mine ≡ holding writes refs → theirs ≡ holding writes' refs' →
    ((q : RowId) → get mine q ≡ Some Exclusive → get theirs q ≡ None) →
    (q : RowId) → has_row writes q ≡ true → (has_row writes' q ≡ false) × (has_row refs' q ≡ false)
unheld writes refs writes' refs' mine theirs here there none q is =
    let held : get mine q ≡ Some Exclusive = ap (λ (h : Holding). get h q) here ∙ held_by_rows writes refs q ∙ ap (λ b. way b (has_row refs q)) is in
    not_held (has_row writes' q) (has_row refs' q) (sym (held_by_rows writes' refs' q) ∙ ap (λ (h : Holding). get h q) (sym there) ∙ none q held)

-- what two sessions write and refer to has no row in common that either writes
rows_apart : (locks : Locks) → NoClash locks → (session other : ℕ) (writes refs writes' refs' : List RowId) → 1 ≤ session → 1 ≤ other → session ≢ other →
    held_by locks session ≡ holding writes refs → held_by locks other ≡ holding writes' refs' → (meets writes writes' ≡ false) × (meets writes refs' ≡ false)
rows_apart locks none session other writes refs writes' refs' least least' apart here there =
    let mine = unheld writes refs writes' refs' _ _ here there (λ q. alone locks none session other q least least' apart) in
    (meets_none writes writes' (λ q is. (mine q is).0), meets_none writes refs' (λ q is. (mine q is).1))

pub holders_do_not_conflict : HoldersDoNotConflict
holders_do_not_conflict locks none none_of_marks session other writes refs marks writes' refs' marks' least least' apart here mine there theirs =
    let rows = rows_apart locks.rows none session other writes refs writes' refs' least least' apart here there in
    let back = rows_apart locks.rows none other session writes' refs' writes refs least' least (λ e. apart (sym e)) there here in
    let values = rows_apart locks.marks none_of_marks session other marks [] marks' [] least least' apart mine theirs in
    λ i. rows.0 i || rows.1 i || back.1 i || values.0 i
