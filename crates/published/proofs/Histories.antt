-- Beginnings of one history, a history with one more commit, and the numbers in it.
use Rattle.std.proofs.Common.{◌≡◌, ◌≢◌, ℕ, ◌+◌, ◌<◌, ◌≤◌, Bool, true, false, List, [], ◌∷◌, ◌++◌, length, refl, sym, ap, ◌∙◌, subst, arith, length-append, append_assoc, add-zero, MatchBool, zero, suc}
use Rattle.std.proofs.Common.{slice_get, Some}
use Rattle.std.proofs.lemmas.Bool.{false≢true}
use Rattle.std.proofs.lemmas.Bool.Decides.{nat_tests}
use Rattle.std.specs.Prelude.{nat_le}
use Rattle.std.proofs.lemmas.List.{append-nil}
use Rattle.std.proofs.lemmas.List.Concat.{flat_map-append}
use mathlib.Core.List.{IsPrefix}
use Rattle.store_trait.specs.declared.Op.{Op}
use Rattle.store_trait.specs.declared.Op.TheVariants.{Load, Commit}
use Rattle.store_trait.specs.Batch.{Entry}
use Rattle.scheduler.specs.Gnos.{has_gno, low_of, first_gnos, AreDistinct}
use Rattle.scheduler.proofs.Gnos.{AreDistinct-push, AreDistinct-first_gnos, first_gnos-next, length-first_gnos, low_of_first, low_is_few, past_low}
use Rattle.published.specs.History.{IsCommit, CommitsFrom, IsHistory, AreNew, MayAppend, gnos_of, commits_in}
use Rattle.published.specs.Book.{operations_of}

-- of two beginnings of one list the shorter begins the longer
prefix_shorter : (xs ys zs : List Op) → IsPrefix xs zs → IsPrefix ys zs → length xs ≤ length ys → IsPrefix xs ys
prefix_shorter [] ys zs p q le = (ys, refl)
prefix_shorter (x ∷ xs) [] zs p q le = absurd (omega arith)
prefix_shorter (x ∷ xs) (y ∷ ys) [] p q le = absurd (cc (p.1))
prefix_shorter (x ∷ xs) (y ∷ ys) (z ∷ zs) p q le =
    let heads : x ≡ y = cc (p.1, q.1) in
    let rest = prefix_shorter xs ys zs (p.0, cc (p.1)) (q.0, cc (q.1)) (omega arith) in
    (rest.0, cc (heads, rest.1))

-- a beginning as long as the whole is the whole
pub prefix_whole : (xs ys : List Op) → IsPrefix xs ys → length ys ≤ length xs → xs ≡ ys
prefix_whole [] [] p le = refl
prefix_whole [] (y ∷ ys) p le = absurd (omega arith)
prefix_whole (x ∷ xs) [] p le = absurd (cc (p.1))
prefix_whole (x ∷ xs) (y ∷ ys) p le =
    let rest = prefix_whole xs ys (p.0, cc (p.1)) (omega arith) in cc (p.1, rest)

-- the operations of a beginning are a beginning of the operations
pub prefix_of_operations : (v log : List (List Op)) → IsPrefix v log → IsPrefix (operations_of v) (operations_of log)
prefix_of_operations v log p = (operations_of p.0, sym (flat_map-append (λ (part : List Op). part) v p.0) ∙ ap operations_of p.1)

-- one more part
pub operations_of-snoc : (log : List (List Op)) (part : List Op) → operations_of (log ++ part ∷ []) ≡ operations_of log ++ part
operations_of-snoc log part = flat_map-append (λ (p : List Op). p) log (part ∷ []) ∙ ap (λ l. operations_of log ++ l) (append-nil part)

-- ---- how long they are

-- a history has its load
pub begun : (preserve : Bool) (ops : List Op) → IsHistory preserve ops → 1 ≤ length ops
begun true [] h = absurd h
begun false [] h = absurd h
begun preserve (op ∷ ops) h = omega arith

pub count_begun : (ops : List Op) → 1 ≤ length ops → length ops ≡ commits_in ops + 1
count_begun ops some = omega arith

-- it is the load and its commits
pub history_length : (preserve : Bool) (ops : List Op) → IsHistory preserve ops → length ops ≡ commits_in ops + 1
history_length preserve ops h = count_begun ops (begun preserve ops h)

-- what stands behind a load are commits more
pub commits_in-with : (ops more : List Op) → 1 ≤ length ops → commits_in (ops ++ more) ≡ commits_in ops + length more
commits_in-with ops more some = omega (arith, length-append ops more)

-- of two beginnings of one list the one with no more commits begins the other
pub begins_by : (a b whole : List Op) → IsPrefix a whole → IsPrefix b whole → 1 ≤ length a → 1 ≤ length b → (t : Bool) → nat_le (commits_in a) (commits_in b) ≡ t
    → MatchBool t (IsPrefix a b) (IsPrefix b a)
begins_by a b whole p q ha hb true is =
    let le : commits_in a ≤ commits_in b = grind (arith, nat_tests) in
    prefix_shorter a b whole p q (omega arith)
begins_by a b whole p q ha hb false is =
    let le : commits_in b ≤ commits_in a = grind (arith, nat_tests) in
    prefix_shorter b a whole q p (omega arith)

-- lists of other numbers of commits are two
pub other_counts : (a b : List Op) (t : Bool) → nat_le (commits_in a) (commits_in b) ≡ t → t ≡ false → a ≢ b
other_counts a b true is none same = false≢true (sym none)
other_counts a b false is none same =
    let more : commits_in b < commits_in a = grind (arith, nat_tests) in
    absurd (omega (arith, more, ap commits_in same))

-- a list that is as long as a beginning of it
pub same_history : (v log : List Op) → IsPrefix v log → 1 ≤ length v → 1 ≤ length log → commits_in log ≡ commits_in v → v ≡ log
same_history v log p hv hlog same = prefix_whole v log p (omega arith)

-- ---- commits in the order of the log

pub commits_with : (n : ℕ) (ops more : List Op) → CommitsFrom n ops → CommitsFrom (n + length ops) more → CommitsFrom n (ops ++ more)
commits_with n [] more h rest = subst (λ k. CommitsFrom k more) (omega arith) rest
commits_with n (op ∷ ops) more h rest = (h.0, commits_with (n + 1) ops more h.1 (subst (λ k. CommitsFrom k more) (omega arith) rest))

-- the commit at a place
pub commit_at : (n : ℕ) (ops : List Op) (i : ℕ) (op : Op) → CommitsFrom n ops → slice_get ops i ≡ Some op → IsCommit op (n + i)
commit_at n [] i op h is = absurd (cc (is))
commit_at n (x ∷ ops) zero op h is = let same : x ≡ op = cc (is) in subst (λ o. IsCommit o (n + zero)) same (subst (IsCommit x) (omega arith) h.0)
commit_at n (x ∷ ops) (suc i) op h is = subst (IsCommit op) (omega arith) (commit_at (n + 1) ops i op h.1 is)

commits_front : (n : ℕ) (ops more : List Op) → CommitsFrom n (ops ++ more) → CommitsFrom n ops
commits_front n [] more h = tt
commits_front n (op ∷ ops) more h = (h.0, commits_front (n + 1) ops more h.1)

-- ---- the numbers of the commits

-- the gnos of two lists are those of the one and then those of the other
pub gnos_of-append : (ops more : List Op) → gnos_of (ops ++ more) ≡ gnos_of ops ++ gnos_of more
gnos_of-append [] more = refl
gnos_of-append (Load base ∷ ops) more = gnos_of-append ops more
gnos_of-append (Commit gno batch ∷ ops) more = ap (λ l. gno ∷ l) (gnos_of-append ops more)

-- in the order of the log they are those from 1 on
gnos_from : (n m : ℕ) (ops : List Op) → CommitsFrom (n + 1) ops → n + length ops ≡ m → first_gnos n ++ gnos_of ops ≡ first_gnos m
gnos_from n m [] h size = append-nil (first_gnos n) ∙ ap first_gnos (sym (add-zero n) ∙ size)
gnos_from n m (Load base ∷ ops) h size = absurd h.0
gnos_from n m (Commit gno batch ∷ ops) h size =
    ap (λ g. first_gnos n ++ g ∷ gnos_of ops) h.0
    ∙ sym (append_assoc (first_gnos n) ((n + 1) ∷ []) (gnos_of ops))
    ∙ ap (λ l. l ++ gnos_of ops) (sym (first_gnos-next n))
    ∙ gnos_from (n + 1) m ops h.1 (omega (arith, size))

-- in the order of the log the gnos are those from 1 on
pub gnos_in_order : (ops : List Op) → IsHistory true ops → gnos_of ops ≡ first_gnos (commits_in ops)
gnos_in_order [] h = absurd h
gnos_in_order (Load base ∷ ops) h = gnos_from 0 (commits_in (Load base ∷ ops)) ops h (omega arith)
gnos_in_order (Commit gno batch ∷ ops) h = absurd h

-- so the mark is their number
pub low_in_order : (ops : List Op) → IsHistory true ops → low_of (gnos_of ops) ≡ commits_in ops
low_in_order ops h = ap low_of (gnos_in_order ops h) ∙ low_of_first (commits_in ops)

-- ---- commits of distinct numbers

distinct_new : (gone : List ℕ) (ops : List Op) → AreDistinct gone → AreNew gone ops → AreDistinct (gone ++ gnos_of ops)
distinct_new gone [] d h = subst AreDistinct (sym (append-nil gone)) d
distinct_new gone (Load base ∷ ops) d h = absurd h
distinct_new gone (Commit gno batch ∷ ops) d h =
    subst AreDistinct (append_assoc gone (gno ∷ []) (gnos_of ops)) (distinct_new (gone ++ gno ∷ []) ops (AreDistinct-push gone gno d h.1) h.2)

count_new : (gone : List ℕ) (ops : List Op) → AreNew gone ops → length (gnos_of ops) ≡ length ops
count_new gone [] h = refl
count_new gone (Load base ∷ ops) h = absurd h
count_new gone (Commit gno batch ∷ ops) h = ap suc (count_new (gone ++ gno ∷ []) ops h.2)

new_with : (gone : List ℕ) (ops : List Op) (gno : ℕ) (batch : List Entry) → AreNew gone ops → 1 ≤ gno → has_gno (gone ++ gnos_of ops) gno ≡ false → AreNew gone (ops ++ Commit gno batch ∷ [])
new_with gone [] gno batch h some none = (some, subst (λ l. has_gno l gno ≡ false) (append-nil gone) none, tt)
new_with gone (Load base ∷ ops) gno batch h some none = absurd h
new_with gone (Commit other left ∷ ops) gno batch h some none =
    (h.0, h.1, new_with (gone ++ other ∷ []) ops gno batch h.2 some (subst (λ l. has_gno l gno ≡ false) (sym (append_assoc gone (other ∷ []) (gnos_of ops))) none))

new_front : (gone : List ℕ) (ops more : List Op) → AreNew gone (ops ++ more) → AreNew gone ops
new_front gone [] more h = tt
new_front gone (Load base ∷ ops) more h = absurd h
new_front gone (Commit gno batch ∷ ops) more h = (h.0, h.1, new_front (gone ++ gno ∷ []) ops more h.2)

-- ---- both

-- no number comes twice
pub history_distinct : (preserve : Bool) (ops : List Op) → IsHistory preserve ops → AreDistinct (gnos_of ops)
history_distinct true ops h = subst AreDistinct (sym (gnos_in_order ops h)) (AreDistinct-first_gnos (commits_in ops))
history_distinct false [] h = absurd h
history_distinct false (Load base ∷ ops) h = distinct_new [] ops tt h
history_distinct false (Commit gno batch ∷ ops) h = absurd h

-- there are as many as commits
pub count_gnos : (preserve : Bool) (ops : List Op) → IsHistory preserve ops → length (gnos_of ops) ≡ commits_in ops
count_gnos true ops h = ap (λ (l : List ℕ). length l) (gnos_in_order ops h) ∙ length-first_gnos (commits_in ops)
count_gnos false [] h = absurd h
count_gnos false (Load base ∷ ops) h = count_new [] ops h ∙ omega arith
count_gnos false (Commit gno batch ∷ ops) h = absurd h

-- so the mark is at most their number
pub low_within : (preserve : Bool) (ops : List Op) → IsHistory preserve ops → low_of (gnos_of ops) ≤ commits_in ops
low_within preserve ops h = subst (λ n. low_of (gnos_of ops) ≤ n) (count_gnos preserve ops h) (low_is_few (gnos_of ops) (history_distinct preserve ops h))

-- a load alone is a history
pub history_load : (preserve : Bool) (base : List Entry) → IsHistory preserve (Load base ∷ [])
history_load true base = tt
history_load false base = tt

-- a history with no commit has no numbers
pub no_gnos : (preserve : Bool) (ops : List Op) → IsHistory preserve ops → commits_in ops ≡ 0 → gnos_of ops ≡ []
no_gnos preserve ops h none = length_zero (gnos_of ops) (count_gnos preserve ops h ∙ none) where
  length_zero : (l : List ℕ) → length l ≡ 0 → l ≡ []
  length_zero [] is = refl
  length_zero (x ∷ l) is = absurd (omega (arith, is))

-- one more commit
pub history_put : (preserve : Bool) (ops : List Op) (op : Op) → IsHistory preserve ops → MayAppend preserve ops op → IsHistory preserve (ops ++ op ∷ [])
history_put true [] op h may = absurd h
history_put true (Load base ∷ ops) op h may = commits_with 1 ops (op ∷ []) h (subst (IsCommit op) (omega arith) may, tt)
history_put true (Commit gno batch ∷ ops) op h may = absurd h
history_put false [] op h may = absurd h
history_put false (Load base ∷ ops) (Load again) h may = absurd may
history_put false (Load base ∷ ops) (Commit gno batch) h may = new_with [] ops gno batch h may.0 may.1
history_put false (Commit gno batch ∷ ops) op h may = absurd h

-- its number is none of those before
pub put_is_new : (preserve : Bool) (ops : List Op) (gno : ℕ) (batch : List Entry) → IsHistory preserve ops → MayAppend preserve ops (Commit gno batch) → (1 ≤ gno) × (has_gno (gnos_of ops) gno ≡ false)
put_is_new true ops gno batch h may =
    let some = begun true ops h in
    let next : gno ≡ commits_in ops + 1 = may ∙ count_begun ops some in
    (omega (arith, next), subst (λ g. has_gno (gnos_of ops) g ≡ false) (sym next) (subst (λ n. has_gno (gnos_of ops) (n + 1) ≡ false) (low_in_order ops h) (past_low (gnos_of ops))))
put_is_new false ops gno batch h may = may

-- a beginning of a history is one
pub history_front : (preserve : Bool) (ops more : List Op) → 1 ≤ length ops → IsHistory preserve (ops ++ more) → IsHistory preserve ops
history_front preserve [] more some h = absurd (omega arith)
history_front true (Load base ∷ ops) more some h = commits_front 1 ops more h
history_front false (Load base ∷ ops) more some h = new_front [] ops more h
history_front true (Commit gno batch ∷ ops) more some h = absurd h
history_front false (Commit gno batch ∷ ops) more some h = absurd h
