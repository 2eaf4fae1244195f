-- The receipt that is found, and the record that it is of.
use Rattle.std.proofs.Common.{◌≡◌, ◌∙◌, sym, ap, subst, refl, ℕ, zero, suc, ◌+◌, ◌-◌, ◌<◌, ◌≤◌, Bool, true, cond, eqb, List, [], ◌∷◌, ◌++◌, length, length-append, take, drop, reverse}
use Rattle.std.proofs.Common.{Option, Some, None, arith}
use Rattle.std.specs.Prelude.{slice_get}
use Rattle.std.specs.List.{find}
use Rattle.std.proofs.lemmas.Bool.{eqb-true, eq-eqb}
use Rattle.std.proofs.lemmas.Option.{none-some, same_Some, cond_some, slice_get_within}
use Rattle.std.specs.Option.{option_or}
use Rattle.std.proofs.lemmas.List.{reverse-append, drop-append-le, take_all, length-take, length-drop}
use Rattle.store_trait.specs.Operation.{loaded}
use Rattle.record_codec.proofs.Logs.{place_is_number}
use Rattle.std.proofs.lemmas.List.Folds.{find-append}
use Rattle.schema.proofs.Lists.{get_behind, get_before}
use Rattle.rows.specs.declared.Change.{Change}
use Rattle.record_codec.specs.declared.records.Record.{Record}
use Rattle.source_core.specs.declared.transaction.Receipt.{Receipt}
use Rattle.source_core.specs.Source.{Source, IsSound}
use Rattle.source_core.specs.Calls.{receipt_as, receipts_for, receipts}
use Rattle.source_core.proofs.Commit.Loops.{receipts-append}
use Rattle.source_answers.specs.Puts.{receipt_for}

-- The last record is the session's, with these changes.
pub record EndsWith (s : Source) (session : ℕ) (changes : List Change) : Type 0 where
  pub front : List Record
  pub others : List ℕ
  pub made : Record
  pub log : s.log ≡ front ++ made ∷ []
  pub owned : s.owners ≡ others ++ session ∷ []
  pub is : made.changes ≡ changes

-- The record of a receipt is in the log, at its place, and synced; it is the session's.
pub record IsLogged (s : Source) (session : ℕ) (r : Receipt) : Type 0 where
  pub made : Record
  pub there : slice_get s.log (r.gno - 1) ≡ Some made
  pub is : receipt_as session made ≡ r
  pub owner : slice_get s.owners (r.gno - 1) ≡ Some session
  pub since : s.committed < r.gno
  pub within : r.gno ≤ s.synced

-- ---- the last one that passes a test

back_of : {X : Type 0} (p : X → Bool) (front : List X) (x : X) → find p (reverse (front ++ x ∷ [])) ≡ cond (p x) (Some x) (find p (reverse front))
back_of p front x = ap (find p) (reverse-append front (x ∷ []))

cons_back : {X : Type 0} (p : X → Bool) (x : X) (xs : List X) → find p (reverse (x ∷ xs)) ≡ find p (reverse xs ++ x ∷ [])
cons_back p x xs = ap (find p) (reverse-append (x ∷ []) xs)

-- it stands in the list, and passes
abbrev Stands : {X : Type 0} → (X → Bool) → List X → X → Type 0
Stands p xs y = (k : ℕ) × (slice_get xs k ≡ Some y) × (p y ≡ true)

stands_in : {X : Type 0} (p : X → Bool) (x : X) (xs : List X) (y : X) (behind : Option X) → option_or behind (find p (x ∷ [])) ≡ Some y → (behind ≡ Some y → Stands p xs y) → Stands p (x ∷ xs) y
stands_in {X} p x xs y None e rest = let one = cond_some (p x) x y e in (zero, ap Some one.1, subst (λ (z : X). p z ≡ true) one.1 one.0)
stands_in p x xs y (Some z) e rest = let at = rest e in (suc at.0, at.1, at.2)

found_back : {X : Type 0} (p : X → Bool) (xs : List X) (y : X) → find p (reverse xs) ≡ Some y → Stands p xs y
found_back p [] y h = absurd (none-some y h)
found_back p (x ∷ xs) y h =
    stands_in p x xs y (find p (reverse xs)) (sym (find-append p (reverse xs) (x ∷ [])) ∙ sym (cons_back p x xs) ∙ h) (found_back p xs y)

-- ---- a receipt and its record

receipt_at : (owners : List ℕ) (log : List Record) (k : ℕ) (r : Receipt) → slice_get (receipts_for owners log) k ≡ Some r →
    (made : Record) × (slice_get log k ≡ Some made) × (slice_get owners k ≡ Some r.session) × (receipt_as r.session made ≡ r)
receipt_at [] log k r h = absurd (none-some r h)
receipt_at (owner ∷ owners) [] k r h = absurd (none-some r h)
receipt_at (owner ∷ owners) (made ∷ log) zero r h =
    let is : receipt_as owner made ≡ r = same_Some _ _ h in
    (made, refl, ap (λ (x : Receipt). Some x.session) is, subst (λ (x : Receipt). receipt_as x.session made ≡ x) is refl)
receipt_at (owner ∷ owners) (made ∷ log) (suc k) r h = receipt_at owners log k r h

-- what stands so far behind one place, and before another
part_at : {X : Type 0} (xs : List X) (from upto k : ℕ) (x : X) → slice_get (drop from (take upto xs)) k ≡ Some x → (from + k < upto) × (slice_get xs (from + k) ≡ Some x)
part_at xs from upto k x h =
    let at : slice_get (take upto xs) (from + k) ≡ Some x = sym (get_behind from (take upto xs) k) ∙ h in
    let within : from + k < upto = omega (arith, slice_get_within (take upto xs) (from + k) x at, length-take upto xs) in
    (within, sym (get_before (from + k) upto xs within) ∙ at)

pub found_logged : (s : Source) (session : ℕ) (r : Receipt) → IsSound s → receipt_for s session ≡ Some r → IsLogged s session r
found_logged s session r sound h =
    let f = found_back (λ (x : Receipt). eqb x.session session) (receipts s) r h in
    let at = receipt_at (drop s.committed (take s.synced s.owners)) (drop s.committed (take s.synced s.log)) f.0 r f.1 in
    let made = part_at s.log s.committed s.synced f.0 at.0 at.1 in
    let own : r.session ≡ session = eqb-true r.session session f.2 in
    let number : r.gno ≡ s.committed + f.0 + 1 = sym (ap (λ (x : Receipt). x.gno) at.3) ∙ (place_is_number s.tables (loaded s.base) s.log (s.committed + f.0) at.0 sound.legal made.1).gno in
    let place : r.gno - 1 ≡ s.committed + f.0 = omega (arith, number) in
    record {
      made = at.0;
      there = ap (slice_get s.log) place ∙ made.1;
      is = ap (λ n. receipt_as n at.0) (sym own) ∙ at.3;
      owner = ap (slice_get s.owners) place ∙ (part_at s.owners s.committed s.synced f.0 r.session at.2).1 ∙ ap Some own;
      since = omega (arith, number);
      within = omega (arith, number, made.0);
    }

-- ---- the receipt of the last record

last_receipt : (front : List Record) (others : List ℕ) (made : Record) (session c : ℕ) → length others ≡ length front → c ≤ length front →
    receipts_for (drop c (others ++ session ∷ [])) (drop c (front ++ made ∷ [])) ≡ receipts_for (drop c others) (drop c front) ++ receipt_as session made ∷ []
last_receipt front others made session c as_many le =
    (λ i. receipts_for (drop-append-le c others (session ∷ []) (omega (arith, as_many, le)) i) (drop-append-le c front (made ∷ []) le i))
    ∙ receipts-append (drop c others) (session ∷ []) (drop c front) (made ∷ []) (length-drop c others ∙ ap (λ n. n - c) as_many ∙ sym (length-drop c front))

pub last_found : (s : Source) (session : ℕ) (changes : List Change) (r : Receipt) → IsSound s → s.synced ≡ length s.log → EndsWith s session changes → receipt_for s session ≡ Some r →
    r.changes ≡ changes
last_found s session changes r sound all e h =
    let its = found_logged s session r sound h in
    let long : length s.log ≡ length e.front + 1 = ap (λ (l : List Record). length l) e.log ∙ length-append e.front (e.made ∷ []) in
    let owners : length s.owners ≡ length e.others + 1 = ap (λ (l : List ℕ). length l) e.owned ∙ length-append e.others (session ∷ []) in
    let as_many : length e.others ≡ length e.front = omega (arith, long, owners, sound.owned) in
    let le : s.committed ≤ length e.front = omega (arith, its.since, its.within, all, long) in
    let p = λ (x : Receipt). eqb x.session session in
    let log_all : take s.synced s.log ≡ e.front ++ e.made ∷ [] = take_all s.synced s.log (omega (arith, all)) ∙ e.log in
    let owners_all : take s.synced s.owners ≡ e.others ++ session ∷ [] = take_all s.synced s.owners (omega (arith, all, sound.owned)) ∙ e.owned in
    let rs = receipts_for (drop s.committed e.others) (drop s.committed e.front) in
    let given : receipts s ≡ rs ++ receipt_as session e.made ∷ [] =
    (λ i. receipts_for (drop s.committed (owners_all i)) (drop s.committed (log_all i))) ∙ last_receipt e.front e.others e.made session s.committed as_many le in
    let last : find p (reverse (receipts s)) ≡ Some (receipt_as session e.made) =
    ap (λ (l : List Receipt). find p (reverse l)) given ∙ back_of p rs (receipt_as session e.made)
    ∙ ap (λ b. cond b (Some (receipt_as session e.made)) (find p (reverse rs))) (eq-eqb session session refl) in
    ap (λ (x : Receipt). x.changes) (same_Some _ _ (sym h ∙ last)) ∙ e.is
