-- A record looks at no row that the records between its parent and itself write, and has no mark that they state: they conflict with it
-- nowhere.
use Rattle.std.proofs.Common.{◌≡◌, ◌∙◌, sym, ap, subst, refl, ℕ, zero, suc, ◌+◌, ◌<◌, ◌≤◌, true, false, true≢false, List, [], ◌∷◌, ◌++◌, map, length, take, drop, Some, option_and_then, arith}
use Rattle.std.proofs.Common.{add-zero, slice_get, get_or}
use Rattle.std.specs.List.{AllByRecursion}
use Rattle.std.specs.Option.{option_map}
use Rattle.std.specs.FinMap.{get}
use Rattle.std.proofs.lemmas.Bool.{false_from_ne_true}
use Rattle.std.proofs.lemmas.Option.{none-some, same_Some, slice_get_within, slice_get-map, slice_get-get_or, option_and_then_some}
use Rattle.std.proofs.lemmas.List.{length-take-le, take-take, take-append-drop}
use Rattle.schema.specs.declared.Table.{Table}
use Rattle.schema.specs.Rows.{Mark, Touched, has_row, conflicts}
use Rattle.schema.specs.Covering.{Covers}
use Rattle.rows.specs.Database.{Database, effect, NoValueTwice}
use Rattle.rows.specs.Frame.{AgreeOn, SameHolders}
use Rattle.rows.specs.Holders.{holder_of}
use Rattle.rows.proofs.Effect.{changes_only_writes}
use Rattle.rows.proofs.Holders.{holders_are_same}
use Rattle.store_trait.specs.Operation.{loaded}
use Rattle.record_codec.specs.declared.records.Record.{Record}
use Rattle.record_codec.specs.Log.{after, touched, place_of, StateMarks}
use Rattle.record_codec.proofs.Logs.{after-append, apart_after}
use Rattle.record_codec.proofs.LogFrame.{unmarked_stays}
use Rattle.executor.specs.Job.{rows_of}
use Rattle.relay.specs.Relay.{IsAcceptable, AreAcceptable}
use Rattle.gapped.proofs.Meeting.{not_written, conflict_by_mark}
use Rattle.replica_core.specs.Replica.{Replica, rows_at}
use Rattle.replica_core.proofs.Commits.{after-next}
use Rattle.replica_core.proofs.Showing.{Stands}

-- ---- the records of an accepted list

pub split : {X : Type 0} (xs : List X) (n : ℕ) (x : X) → slice_get xs n ≡ Some x → xs ≡ take n xs ++ x ∷ drop (suc n) xs
split [] n x is = absurd (none-some x is)
split (y ∷ xs) zero x is = ap (λ z. z ∷ xs) (same_Some y x is)
split (y ∷ xs) (suc n) x is = ap (λ l. y ∷ l) (split xs n x is)

pub slice_get-take : {X : Type 0} (xs : List X) (n i : ℕ) → i < n → slice_get (take n xs) i ≡ slice_get xs i
slice_get-take xs zero i lt = absurd (omega arith)
slice_get-take [] (suc n) i lt = refl
slice_get-take (x ∷ xs) (suc n) zero lt = refl
slice_get-take (x ∷ xs) (suc n) (suc i) lt = slice_get-take xs n i (omega arith)

-- each of them may stand behind those before it
pub place_acceptable : (ts : List Table) (log : List Record) (n : ℕ) (rec : Record) → AreAcceptable ts log → slice_get log n ≡ Some rec → IsAcceptable ts (take n log) rec
place_acceptable ts log n rec h got = h (take n log) rec (drop (suc n) log) (split log n rec got)

covers_at : (past : List (ℕ × Touched)) (rows : Touched) (parent i number : ℕ) (before : Touched) → Covers past rows parent →
    slice_get past i ≡ Some (number, before) → conflicts before rows ≡ true → number ≤ parent
covers_at [] rows parent i number before h got is = absurd (none-some (number, before) got)
covers_at (p ∷ past) rows parent zero number before h got is =
    let same = same_Some p (number, before) got in subst (λ (q : ℕ × Touched). q.0 ≤ parent) same (h.0 (ap (λ (q : ℕ × Touched). conflicts q.1 rows) same ∙ is))
covers_at (p ∷ past) rows parent (suc i) number before h got is = covers_at past rows parent i number before h.1 got is

-- a record conflicts with none that stands between its parent and itself
pub no_conflict : (ts : List Table) (log : List Record) (i j : ℕ) (a b : Record) → AreAcceptable ts log → slice_get log i ≡ Some a →
    slice_get log j ≡ Some b → i < j → b.parent ≤ i → conflicts (touched a) (touched b) ≡ false
no_conflict ts log i j a b h at_i at_j lt parent =
    let within : i < length log = slice_get_within log i a at_i in
    let number : a.sequence ≡ i + 1 =
    (place_acceptable ts log i a h at_i).sequence ∙ ap (λ n. n + 1) (length-take-le i log (omega arith)) in
    let got : slice_get (map place_of (take j log)) i ≡ Some (a.sequence, touched a) =
    slice_get-map place_of (take j log) i ∙ ap (option_map place_of) (slice_get-take log j i lt ∙ at_i) in
    false_from_ne_true (conflicts (touched a) (touched b)) (λ is.
    let covers = (place_acceptable ts log j b h at_j).covers in
    let bound : a.sequence ≤ b.parent = covers_at (map place_of (take j log)) (touched b) b.parent i a.sequence (touched a) covers got is in
    absurd (omega arith))

-- the marks that a record states are stated by none that it does not conflict with
not_stated : (a b : Record) (mark : Mark) → conflicts (touched a) (touched b) ≡ false → has_row b.marks mark ≡ true → has_row a.marks mark ≡ false
not_stated a b mark apart is =
    false_from_ne_true (has_row a.marks mark) (λ states. absurd (true≢false (sym (conflict_by_mark a b mark is states) ∙ apart)))

-- what holds of each of a part of a list, by its place, holds of all of the part
all_between : {X : Type 0} (P : X → Type 0) (xs : List X) (c n : ℕ) → ((i : ℕ) (x : X) → c ≤ i → i < n → slice_get xs i ≡ Some x → P x) → AllByRecursion P (drop c (take n xs))
all_between P [] zero zero each = tt
all_between P [] zero (suc n) each = tt
all_between P [] (suc c) zero each = tt
all_between P [] (suc c) (suc n) each = tt
all_between P (x ∷ xs) zero zero each = tt
all_between P (x ∷ xs) zero (suc n) each =
    let rest = all_between P xs zero n (λ i y low high got. each (suc i) y (omega arith) (omega arith) got) in
    (each zero x (omega arith) (omega arith) refl, rest)
all_between P (x ∷ xs) (suc c) zero each = tt
all_between P (x ∷ xs) (suc c) (suc n) each = all_between P xs c n (λ i y low high got. each (suc i) y (omega arith) (omega arith) got)

-- ---- what the accepted records leave

-- so the rows that it looks at are the same in each database from the k-th on up to its own place, where its parent is at most k
pub rows_stay : (r : Replica) (k j d : ℕ) (rec : Record) (a b : Database) → AreAcceptable r.tables r.accepted →
    slice_get r.accepted j ≡ Some rec → rec.parent ≤ k → k + d ≤ j → rows_at r k ≡ Some a → rows_at r (k + d) ≡ Some b → AgreeOn (rows_of rec) a b
rows_stay r k j zero rec a b h got parent within is_a is_b q looks =
    ap (λ (db : Database). get db q) (same_Some a b (sym is_a ∙ ap (rows_at r) (sym (add-zero k)) ∙ is_b))
rows_stay r k j (suc d) rec a b h got parent within is_a is_b q looks =
    let n = k + d in
    let lt : j < length r.accepted = slice_get_within r.accepted j rec got in
    let place : k + suc d ≡ n + 1 = omega arith in
    let before = get_or r.accepted n rec in
    let at : slice_get r.accepted n ≡ Some before = slice_get-get_or r.accepted n rec (omega arith) in
    let apart = no_conflict r.tables r.accepted n j before rec h at got (omega arith) (omega arith) in
    let leaves : option_and_then (effect r.tables before.changes) (rows_at r n) ≡ Some b =
    sym (after-next r.tables (loaded r.base) r.accepted n before at) ∙ ap (rows_at r) (sym place) ∙ is_b in
    option_and_then_some (effect r.tables before.changes) (rows_at r n) b leaves
    (λ mid one last.
    rows_stay r k j d rec a mid h got parent (omega arith) is_a one q looks
    ∙ sym (changes_only_writes r.tables before.changes mid b q last (not_written before rec q apart looks)))

-- the records behind the first k lead from the database after these to those at a later place
pub part_behind : (xs : List Record) (k n : ℕ) → k ≤ n → take k xs ++ drop k (take n xs) ≡ take n xs
part_behind xs k n behind = ap (λ l. l ++ drop k (take n xs)) (sym (take-take k n xs behind)) ∙ take-append-drop k (take n xs)

pub leads : (r : Replica) (k n : ℕ) (a b : Database) → k ≤ n → rows_at r k ≡ Some a → rows_at r n ≡ Some b → after r.tables a (drop k (take n r.accepted)) ≡ Some b
leads r k n a b behind is_a is_b =
    let part = drop k (take n r.accepted) in
    ap (option_and_then (λ db. after r.tables db part)) (sym is_a) ∙ sym (after-append r.tables (loaded r.base) (take k r.accepted) part)
    ∙ ap (after r.tables (loaded r.base)) (part_behind r.accepted k n behind) ∙ is_b

-- no two rows of a table have one value in its unique column, wherever the accepted records lead
pub apart_at : (r : Replica) (n : ℕ) (db : Database) → NoValueTwice r.tables (loaded r.base) → rows_at r n ≡ Some db → NoValueTwice r.tables db
apart_at r n db apart is = apart_after r.tables (loaded r.base) db (take n r.accepted) apart is

-- so the holders of its marks are the same there too, where the records that lead there state their true marks
pub holders_stay : {r : Replica} (k j n : ℕ) {rec : Record} {a b : Database} → Stands r → slice_get r.accepted j ≡ Some rec → rec.parent ≤ k → k ≤ n → n ≤ j → rows_at r k ≡ Some a →
    rows_at r n ≡ Some b → StateMarks r.tables a (drop k (take n r.accepted)) → (mark : Mark) → has_row rec.marks mark ≡ true → holder_of r.tables a mark ≡ holder_of r.tables b mark
holders_stay {r = r} k j n {rec = rec} {a = a} {b = b} h got parent behind within is_a is_b stated =
    let part = drop k (take n r.accepted) in
    let same : SameHolders r.tables rec.marks a b = λ mark has q.
    sym (unmarked_stays r.tables a b part mark (leads r k n a b behind is_a is_b) stated
    (all_between (λ before. has_row before.marks mark ≡ false) r.accepted k n (λ i before low high at.
    not_stated before rec mark (no_conflict r.tables r.accepted i j before rec h.acceptable at got (omega arith) (omega arith)) has)) q) in
    (holders_are_same r.tables rec.marks a b (apart_at r k a h.apart is_a) (apart_at r n b h.apart is_b)).0 same
