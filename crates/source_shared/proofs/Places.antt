-- Receipts in the places of their sessions.
use Rattle.std.proofs.Common.{
  ◌≡◌,
  ℕ,
  zero,
  suc,
  ◌+◌,
  ◌-◌,
  ◌<◌,
  ◌≤◌,
  List,
  [],
  ◌∷◌,
  ◌++◌,
  length,
  set,
  take,
  drop,
  replicate,
  Option,
  Some,
  None,
  slice_get,
  slice_index_or,
  refl,
  sym,
  ap,
  ◌∙◌,
  subst,
  inl,
  inr,
  arith,
}
use Rattle.std.proofs.lemmas.Bool.Decides.{eqb_tells}
use Rattle.std.proofs.lemmas.List.{length-take-le}
use Rattle.record_codec.specs.declared.records.Record.{Record}
use Rattle.source_core.specs.declared.transaction.Receipt.{Receipt}
use Rattle.source_core.specs.Source.{Source, IsSound}
use Rattle.source_core.specs.Calls.{receipt_as, receipts_for, receipts}
use Rattle.source_core.proofs.Commit.Loops.{receipts-append}
use Rattle.source_shared.proofs.Turns.{prefix_get}
use Rattle.source_shared.specs.Engine.{ArePlaced, IsKnown, IsCommitted, committed_receipts}

-- a place that is emptied leaves the others in order
pub placed_none : (history : List Receipt) (n : ℕ) (places : List (Option Receipt)) (k : ℕ) → ArePlaced history n places → ArePlaced history n (set places k None)
placed_none history n [] k h = tt
placed_none history n (place ∷ places) zero h = (tt, h.1)
placed_none history n (place ∷ places) (suc k) h = (h.0, placed_none history (n + 1) places k h.1)

-- a receipt of a place's own session, of the history, may lie there
pub placed_some : (history : List Receipt) (n : ℕ) (places : List (Option Receipt)) (k : ℕ) (r : Receipt) → r.session ≡ n + k → IsKnown history r → ArePlaced history n places
    → ArePlaced history n (set places k (Some r))
placed_some history n [] k r is known h = tt
placed_some history n (place ∷ places) zero r is known h = ((omega (arith, is), known), h.1)
placed_some history n (place ∷ places) (suc k) r is known h = (h.0, placed_some history (n + 1) places k r (omega (arith, is)) known h.1)

-- places without receipts are in order
pub none_placed : (history : List Receipt) (n m : ℕ) → ArePlaced history n (replicate m None)
none_placed history n zero = tt
none_placed history n (suc m) = (tt, none_placed history (n + 1) m)

-- what is known of some receipts is known with more behind them
known_longer : (history more : List Receipt) (r : Receipt) → IsKnown history r → IsKnown (history ++ more) r
known_longer history more r known = record { least = known.least; there = prefix_get history (history ++ more) (r.gno - 1) r (more, refl) known.there }

-- receipts that lie in order do in a longer history too
pub placed_longer : (history more : List Receipt) (n : ℕ) (places : List (Option Receipt)) → ArePlaced history n places → ArePlaced (history ++ more) n places
placed_longer history more n [] h = tt
placed_longer history more n (None ∷ places) h = (tt, placed_longer history more (n + 1) places h.1)
placed_longer history more n (Some r ∷ places) h = ((h.0.0, known_longer history more r h.0.1), placed_longer history more (n + 1) places h.1)

-- ---- receipts and the records that they are of

-- the record and the session of a receipt
pub receipt_at : (owners : List ℕ) (log : List Record) (k : ℕ) (r : Receipt) → slice_get (receipts_for owners log) k ≡ Some r →
    (made : Record) × (slice_get log k ≡ Some made) × (slice_get owners k ≡ Some r.session) × (r ≡ receipt_as r.session made)
receipt_at [] log k r h = absurd cc
receipt_at (owner ∷ owners) [] k r h = absurd cc
receipt_at (owner ∷ owners) (made ∷ log) zero r h =
    let is : receipt_as owner made ≡ r = cc (h) in (made, refl, ap (λ (x : Receipt). Some x.session) is, sym is ∙ ap (λ (x : Receipt). receipt_as x.session made) is)
receipt_at (owner ∷ owners) (made ∷ log) (suc k) r h = receipt_at owners log k r h

pub get_take : {A : Type 0} (n : ℕ) (xs : List A) (k : ℕ) (x : A) → slice_get (take n xs) k ≡ Some x → (k < n) × (slice_get xs k ≡ Some x)
get_take zero xs k x h = absurd (cc (h))
get_take (suc n) [] k x h = absurd (cc (h))
get_take (suc n) (y ∷ xs) zero x h = (omega arith, h)
get_take (suc n) (y ∷ xs) (suc k) x h = let rest = get_take n xs k x h in (omega (arith, rest.0), rest.1)

-- a receipt at its number in those of the committed records
pub is_committed : (s : Source) (history : List Receipt) (r : Receipt) → history ≡ committed_receipts s → IsKnown history r → IsCommitted s r
is_committed s history r is known =
    let at = receipt_at (take s.committed s.owners) (take s.committed s.log) (r.gno - 1) r (ap (λ (h : List Receipt). slice_get h (r.gno - 1)) (sym is) ∙ known.there) in
    let made = get_take s.committed s.log (r.gno - 1) at.0 at.1 in
    let owner = get_take s.committed s.owners (r.gno - 1) r.session at.2 in
    record { least = known.least; greatest = omega (arith, made.0, known.least); made = at.0; is = made.1; owner = owner.1; receipt = at.3 }

-- ---- the receipts that a commit gives

split_at : (log : List Record) (k : ℕ) (made : Record) → slice_get log k ≡ Some made → (front : List Record) × (rest : List Record) × (log ≡ front ++ made ∷ rest) × (length front ≡ k)
split_at [] k made h = absurd cc
split_at (first ∷ log) zero made h = ([], log, cc (h), refl)
split_at (first ∷ log) (suc k) made h = let at = split_at log k made h in (first ∷ at.0, at.1, cc (at.2), omega (arith, at.3))

-- the records of a legal log are numbered from 1
pub number_at : (s : Source) (k : ℕ) (made : Record) → IsSound s → slice_get s.log k ≡ Some made → made.gno ≡ k + 1
number_at s k made sound h =
    let at = split_at s.log k made h in
    (sound.legal at.0 made at.1 at.2).gno ∙ ap (λ n. n + 1) at.3

-- within a list the element that a look-up gives stands in its place
pub get_there : {A : Type 0} (xs : List A) (k : ℕ) (d : A) → k < length xs → slice_get xs k ≡ Some (slice_index_or xs k d)
get_there [] k d h = absurd (omega arith)
get_there (x ∷ xs) zero d h = refl
get_there (x ∷ xs) (suc k) d h = get_there xs k d (omega arith)

get_behind : (front given : List Receipt) (k : ℕ) (d : Receipt) → k < length given → slice_get (front ++ given) (length front + k) ≡ Some (slice_index_or given k d)
get_behind [] given k d h =
    let e : k ≡ length {A = Receipt} [] + k = omega arith in subst (λ (n : ℕ). slice_get given n ≡ Some (slice_index_or given k d)) e (get_there given k d h)
get_behind (x ∷ front) given k d h =
    let e : suc (length front + k) ≡ length (x ∷ front) + k = omega arith in
    subst (λ (n : ℕ). slice_get (x ∷ (front ++ given)) n ≡ Some (slice_index_or given k d)) e (get_behind front given k d h)

-- the first so many, and those behind them up to so many
pub both_parts : {A : Type 0} (n m : ℕ) (xs : List A) → n ≤ m → take n xs ++ drop n (take m xs) ≡ take m xs
both_parts zero m xs le = refl
both_parts (suc n) zero xs le = absurd (omega arith)
both_parts (suc n) (suc m) [] le = refl
both_parts (suc n) (suc m) (x ∷ xs) le = ap (λ l. x ∷ l) (both_parts n m xs (omega arith))

-- those of the committed records, once all that are synced are committed
pub receipts_then : (s : Source) → IsSound s → receipts_for (take s.synced s.owners) (take s.synced s.log) ≡ committed_receipts s ++ receipts s
receipts_then s sound =
    let owners : take s.committed s.owners ++ drop s.committed (take s.synced s.owners) ≡ take s.synced s.owners = both_parts s.committed s.synced s.owners sound.committed_within in
    let log : take s.committed s.log ++ drop s.committed (take s.synced s.log) ≡ take s.synced s.log = both_parts s.committed s.synced s.log sound.committed_within in
    let long : length (take s.committed s.owners) ≡ length (take s.committed s.log) =
    length-take-le s.committed s.owners (omega (arith, sound.committed_within, sound.synced_within, sound.owned))
    ∙ sym (length-take-le s.committed s.log (omega (arith, sound.committed_within, sound.synced_within))) in
    sym (λ i. receipts_for (owners i) (log i))
    ∙ receipts-append (take s.committed s.owners) (drop s.committed (take s.synced s.owners)) (take s.committed s.log) (drop s.committed (take s.synced s.log)) long

-- a receipt of the synced records has the number of its place
pub receipt_number : (s : Source) → IsSound s → (k : ℕ) (r : Receipt) → slice_get (receipts_for (take s.synced s.owners) (take s.synced s.log)) k ≡ Some r → r.gno ≡ k + 1
receipt_number s sound k r h =
    let at = receipt_at (take s.synced s.owners) (take s.synced s.log) k r h in
    let made = get_take s.synced s.log k at.0 at.1 in
    ap (λ (x : Receipt). x.gno) at.3 ∙ number_at s k at.0 sound made.1

-- what a commit gives, and the history with that
module _ (s : Source) (sound : IsSound s) (before given history : List Receipt) (was : before ≡ committed_receipts s) (gives : given ≡ receipts s) (is : history ≡ before ++ given) where
  -- the history then has a receipt for each synced record, in log order
  pub then_all : history ≡ receipts_for (take s.synced s.owners) (take s.synced s.log)
  then_all = is ∙ (λ i. was i ++ gives i) ∙ sym (receipts_then s sound)

  -- and each receipt that was given is one of it, at its number
  pub are_known : (k : ℕ) (d : Receipt) → k < length given → IsKnown history (slice_index_or given k d)
  are_known k d h =
      let r = slice_index_or given k d in
      let there : slice_get history (length before + k) ≡ Some r = ap (λ (l : List Receipt). slice_get l (length before + k)) is ∙ get_behind before given k d h in
      let gno = receipt_number s sound (length before + k) r (subst (λ (l : List Receipt). slice_get l (length before + k) ≡ Some r) then_all there) in
      let e : length before + k ≡ r.gno - 1 = omega (arith, gno) in record { least = omega (arith, gno); there = subst (λ (n : ℕ). slice_get history n ≡ Some r) e there }

-- one more of these receipts is known
pub known_more : (history rs : List Receipt) (i : ℕ) (r : Receipt) → i < length rs → r ≡ slice_index_or rs i r → IsKnown history r
    → ((k : ℕ) (d : Receipt) → k < i → IsKnown history (slice_index_or rs k d))
    → (k : ℕ) (d : Receipt) → k < i + 1 → IsKnown history (slice_index_or rs k d)
known_more history rs i r within is known before k d h =
    elim (eqb_tells k i) [
      | inl same ↦
          let there : slice_get rs i ≡ Some (slice_index_or rs i d) = get_there rs i d within in
          let here : slice_get rs i ≡ Some (slice_index_or rs i r) = get_there rs i r within in
          let at : r ≡ slice_index_or rs i d = cc (is, there, here) in
          subst (λ (n : ℕ). IsKnown history (slice_index_or rs n d)) (sym same.1) (subst (IsKnown history) at known)
      | inr apart ↦ before k d (omega (arith, h, apart.1))
    ]
