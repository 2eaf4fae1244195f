-- Cells that are at home stay so, and the one who has the pen of the last entry's cell knows the history whole.
use Rattle.std.proofs.Common.{◌≡◌, ◌≢◌, ℕ, zero, suc, ◌<◌, true, false, List, [], ◌∷◌, ◌++◌, length, set, refl, sym, ap, ◌∙◌, arith, append_assoc, Some, slice_get}
use Rattle.std.proofs.lemmas.List.Concat.{flat_map-append}
use mathlib.Core.List.{IsPrefix}
use Rattle.logbook.specs.Pages.{Cell, cell}
use Rattle.source_core.specs.declared.transaction.Receipt.{Receipt}
use Rattle.source_shared.specs.Book.{Part, receipts_in, turn_of, ArePast, IsNotPast}

-- a cell that is at home stays so where another, or it, is brought home
pub home_set : (cs : List Cell) (q n k : ℕ) → (cell cs k).1 ≡ true → (cell (set cs q (n, true)) k).1 ≡ true
home_set [] q n k h = absurd (cc (h))
home_set (c ∷ cs) zero n zero h = refl
home_set (c ∷ cs) zero n (suc k) h = h
home_set (c ∷ cs) (suc q) n zero h = h
home_set (c ∷ cs) (suc q) n (suc k) h = home_set cs q n k h

-- and where more cells are made
pub home_more : (cs more : List Cell) (k : ℕ) → (cell cs k).1 ≡ true → (cell (cs ++ more) k).1 ≡ true
home_more [] more k h = absurd (cc (h))
home_more (c ∷ cs) more zero h = h
home_more (c ∷ cs) more (suc k) h = home_more cs more k h

-- a cell that is brought home is at home
pub home_now : (cs : List Cell) (q n : ℕ) → q < length cs → (cell (set cs q (n, true)) q).1 ≡ true
home_now [] q n h = absurd (omega arith)
home_now (c ∷ cs) zero n h = refl
home_now (c ∷ cs) (suc q) n h = home_now cs q n (omega arith)

-- a word that is written to the first cell stands there
pub first_set : (cs : List Cell) (x : Cell) → 0 < length cs → cell (set cs 0 x) 0 ≡ x
first_set [] x h = absurd (omega arith)
first_set (c ∷ cs) x h = refl

-- more cells leave the first
pub first_more : (cs more : List Cell) → 0 < length cs → cell (cs ++ more) 0 ≡ cell cs 0
first_more [] more h = absurd (omega arith)
first_more (c ∷ cs) more h = refl

-- what is written to another cell leaves the first
pub first_other : (cs : List Cell) (q : ℕ) (x : Cell) → q ≢ 0 → cell (set cs q x) 0 ≡ cell cs 0
first_other [] q x h = refl
first_other (c ∷ cs) zero x h = absurd (h refl)
first_other (c ∷ cs) (suc q) x h = refl

-- where all cells at home stay so, those that the entries name are at home still
pub past_still : (cs ds : List Cell) → ((k : ℕ) → (cell cs k).1 ≡ true → (cell ds k).1 ≡ true) → (log : List Part) → ArePast cs log → ArePast ds log
past_still cs ds still [] past = tt
past_still cs ds still (part ∷ []) past = tt
past_still cs ds still (part ∷ next ∷ parts) past = (still part.0 past.0, past_still cs ds still (next ∷ parts) past.1)

-- one more entry, once the cell that the last one names is at home
pub past_more : (cs : List Cell) (log : List Part) (more : Part) → (cell cs (turn_of log)).1 ≡ true → ArePast cs log → ArePast cs (log ++ more ∷ [])
past_more cs [] more home past = tt
past_more cs (part ∷ []) more home past = (home, tt)
past_more cs (part ∷ next ∷ parts) more home past = (past.0, past_more cs (next ∷ parts) more home past.1)

-- a cell that is not at home is named by no entry but the last
pub not_past : (cs : List Cell) (key : ℕ) → (cell cs key).1 ≡ false → (log : List Part) → ArePast cs log → IsNotPast key log
not_past cs key away [] past = tt
not_past cs key away (part ∷ []) past = tt
not_past cs key away (part ∷ next ∷ parts) past = (λ same. cc (away, past.0, same), not_past cs key away (next ∷ parts) past.1)

-- who has seen an entry whose cell was not brought home has seen all
pub whole : (v log : List Part) → IsPrefix v log → 0 < length v → IsNotPast (turn_of v) log → v ≡ log
whole [] log pre some away = absurd (omega arith)
whole (x ∷ v) [] pre some away = absurd (cc (pre.1))
whole (x ∷ []) (y ∷ []) pre some away = cc (pre.1)
whole (x ∷ []) (y ∷ z ∷ log) pre some away = absurd (away.0 (cc (pre.1)))
whole (x ∷ u ∷ v) (y ∷ []) pre some away = absurd (cc (pre.1))
whole (x ∷ u ∷ v) (y ∷ z ∷ log) pre some away =
    let rest = whole (u ∷ v) (z ∷ log) (pre.0, cc (pre.1)) (omega arith) away.1 in cc (pre.1, rest)

-- a beginning of a beginning is a beginning
pub prefix_trans : (xs ys zs : List Part) → IsPrefix xs ys → IsPrefix ys zs → IsPrefix xs zs
prefix_trans xs ys zs p q = (p.0 ++ q.0, sym (append_assoc xs p.0 q.0) ∙ (ap (λ w. w ++ q.0) p.1 ∙ q.1))

-- the receipts of a beginning are a beginning of the receipts
pub prefix_receipts : (v log : List Part) → IsPrefix v log → IsPrefix (receipts_in v) (receipts_in log)
prefix_receipts v log p = (receipts_in p.0, sym (flat_map-append (λ (part : Part). part.1) v p.0) ∙ ap receipts_in p.1)

-- one more entry
pub turn-snoc : (log : List Part) (part : Part) → turn_of (log ++ part ∷ []) ≡ part.0
turn-snoc [] part = refl
turn-snoc (x ∷ []) part = refl
turn-snoc (x ∷ y ∷ log) part = turn-snoc (y ∷ log) part

-- what stands in a beginning stands in the whole, at the same place
pub prefix_get : (xs ys : List Receipt) (k : ℕ) (x : Receipt) → IsPrefix xs ys → slice_get xs k ≡ Some x → slice_get ys k ≡ Some x
prefix_get [] ys k x p h = absurd cc
prefix_get (y ∷ xs) [] k x p h = absurd (cc (p.1))
prefix_get (y ∷ xs) (z ∷ ys) zero x p h = cc (p.1, h)
prefix_get (y ∷ xs) (z ∷ ys) (suc k) x p h = prefix_get xs ys k x (p.0, cc (p.1)) h
