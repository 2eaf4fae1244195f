-- Numbers and the records that they choose: in log order, and in the order of the numbers.
use Rattle.std.proofs.Common.{◌≡◌, ◌∙◌, sym, ap, subst, refl, ℕ, zero, suc, ◌+◌, ◌-◌, ◌<◌, ◌≤◌, true, false, ◌||◌, ◌⊎◌, inl, inr, cond, eqb, leb, List, [], ◌∷◌, ◌++◌, append_assoc, length}
use Rattle.std.proofs.Common.{length-append, take, Option, Some, None, arith}
use Rattle.std.specs.Prelude.{slice_get}
use Rattle.std.specs.List.{AllByRecursion}
use Rattle.std.specs.Option.{option_map_or}
use Rattle.std.proofs.Math.Bool.{or-false}
use Rattle.std.proofs.lemmas.Bool.{and_from, and_parts, or_right, ne_eqb, le-leb, leb-true, false_from_ne_true}
use Rattle.std.proofs.lemmas.List.{append-nil, same_from_push, take_more}
use Rattle.std.proofs.lemmas.Option.{none-some, same_Some, get_or_from_slice_get}
use Rattle.schema.specs.declared.Table.{Table}
use Rattle.schema.proofs.Lists.{get_within, get_front, get_back}
use Rattle.rows.specs.Database.{Database}
use Rattle.record_codec.specs.declared.records.Record.{Record}
use Rattle.record_codec.specs.Group.{AreNumbered}
use Rattle.record_codec.specs.Log.{after}
use Rattle.record_codec.proofs.Logs.{split_at, split_last}
use Rattle.scheduler.specs.Gnos.{has_gno, first_gnos, AreDistinct}
use Rattle.scheduler.proofs.Gnos.{has_gno-push, has_gno_front, has_gno_first, has_gno_last, has_gno_cases, only_one, has_gno_split, has_first, AreDistinct-push}
use Rattle.gapped.specs.Gapped.{chosen, AreChosen, IsClosed, records_at, MayCommit, AreCommits}
use Rattle.gapped.specs.Laws.{FirstAreChosen, LongerLog}

-- ---- numbered logs

pub numbered_front : (gno : ℕ) (front rest : List Record) → AreNumbered gno (front ++ rest) → AreNumbered gno front
numbered_front gno [] rest h = tt
numbered_front gno (r ∷ front) rest h = (h.0, numbered_front (gno + 1) front rest h.1)

pub numbered_back : (gno : ℕ) (front rest : List Record) → AreNumbered gno (front ++ rest) → AreNumbered (gno + length front) rest
numbered_back gno [] rest h = subst (λ (n : ℕ). AreNumbered n rest) (omega arith) h
numbered_back gno (r ∷ front) rest h = subst (λ (n : ℕ). AreNumbered n rest) (omega arith) (numbered_back (gno + 1) front rest h.1)

-- each number is one of as many, from the first on
pub each_number : (P : Record → Type 0) (gno : ℕ) (log : List Record) → AreNumbered gno log →
    ((r : Record) → gno ≤ r.gno → r.gno < gno + length log → P r) → AllByRecursion P log
each_number P gno [] h its = tt
each_number P gno (r ∷ log) h its =
    let first = h.0 in
    (its r (omega arith) (omega arith), each_number P (gno + 1) log h.1 (λ q low high. its q (omega arith) (omega arith)))

-- a record's number is its place
pub number_of : (log front rest : List Record) (rec : Record) → AreNumbered 1 log → log ≡ front ++ rec ∷ rest → rec.gno ≡ length front + 1
number_of log front rest rec numbered split =
    let behind = numbered_back 1 front (rec ∷ rest) (subst (AreNumbered 1) split numbered) in
    omega (arith, behind.0)

-- the record of a number is found at it
pub record_at_number : (log front rest : List Record) (rec : Record) → AreNumbered 1 log → log ≡ front ++ rec ∷ rest →
    slice_get log (rec.gno - 1) ≡ Some rec
record_at_number log front rest rec numbered split =
    let place : rec.gno - 1 ≡ length front + 0 = omega (arith, number_of log front rest rec numbered split) in
    (λ i. slice_get (split i) (place i)) ∙ get_back front (rec ∷ rest) 0

-- what stands at a number has it
pub number_at : (log : List Record) (i : ℕ) (rec : Record) → AreNumbered 1 log → slice_get log i ≡ Some rec → rec.gno ≡ i + 1
number_at log i rec numbered at =
    let w = split_at log i rec at in
    number_of log w.0 w.1 rec numbered w.2 ∙ ap (λ n. n + 1) w.3

-- one record has a number
pub record OneSplit (front rest : List Record) (rec : Record) (front_ rest_ : List Record) (rec_ : Record) : Type 0 where
  pub fronts : front ≡ front_
  pub recs : rec ≡ rec_
  pub rests : rest ≡ rest_

same_split : (front rest front_ rest_ : List Record) (rec rec_ : Record) → length front ≡ length front_ →
    front ++ rec ∷ rest ≡ front_ ++ rec_ ∷ rest_ → OneSplit front rest rec front_ rest_ rec_
same_split [] rest [] rest_ rec rec_ long e = record { fronts = refl; recs = cc; rests = cc }
same_split [] rest (q ∷ front_) rest_ rec rec_ long e = absurd (omega (arith, long))
same_split (r ∷ front) rest [] rest_ rec rec_ long e = absurd (omega (arith, long))
same_split (r ∷ front) rest (q ∷ front_) rest_ rec rec_ long e =
    let first : r ≡ q = cc in
    let s = same_split front rest front_ rest_ rec rec_ (omega (arith, long)) cc in
    record { fronts = λ i. first i ∷ s.fronts i; recs = s.recs; rests = s.rests }

pub one_split : (log front rest front_ rest_ : List Record) (rec rec_ : Record) → AreNumbered 1 log → log ≡ front ++ rec ∷ rest →
    log ≡ front_ ++ rec_ ∷ rest_ → rec.gno ≡ rec_.gno →
    OneSplit front rest rec front_ rest_ rec_
one_split log front rest front_ rest_ rec rec_ numbered split split_ same =
    same_split front rest front_ rest_ rec rec_
    (omega (arith, number_of log front rest rec numbered split, number_of log front_ rest_ rec_ numbered split_, same)) (sym split ∙ split_)

-- ---- the records of these numbers, in log order

pub chosen-append : (gnos : List ℕ) (xs ys : List Record) → chosen gnos (xs ++ ys) ≡ chosen gnos xs ++ chosen gnos ys
chosen-append gnos [] ys = refl
chosen-append gnos (r ∷ xs) ys =
    let rest = chosen-append gnos xs ys in
    elim (has_gno gnos r.gno) as (λ b. cond b (r ∷ chosen gnos (xs ++ ys)) (chosen gnos (xs ++ ys))
    ≡ cond b (r ∷ chosen gnos xs) (chosen gnos xs) ++ chosen gnos ys) [ true ↦ ap (λ l. r ∷ l) rest | false ↦ rest ]

pub chosen_here : (gnos : List ℕ) (rec : Record) (log : List Record) → has_gno gnos rec.gno ≡ true →
    chosen gnos (rec ∷ log) ≡ rec ∷ chosen gnos log
chosen_here gnos rec log is = ap (λ b. cond b (rec ∷ chosen gnos log) (chosen gnos log)) is

pub not_chosen_here : (gnos : List ℕ) (rec : Record) (log : List Record) → has_gno gnos rec.gno ≡ false →
    chosen gnos (rec ∷ log) ≡ chosen gnos log
not_chosen_here gnos rec log is = ap (λ b. cond b (rec ∷ chosen gnos log) (chosen gnos log)) is

pub chosen_none : (gnos : List ℕ) (log : List Record) → AllByRecursion (λ (r : Record). has_gno gnos r.gno ≡ false) log →
    chosen gnos log ≡ []
chosen_none gnos [] none = refl
chosen_none gnos (r ∷ log) none = not_chosen_here gnos r log none.0 ∙ chosen_none gnos log none.1

pub chosen_alike : (gnos others : List ℕ) (log : List Record) →
    AllByRecursion (λ (r : Record). has_gno gnos r.gno ≡ has_gno others r.gno) log → chosen gnos log ≡ chosen others log
chosen_alike gnos others [] alike = refl
chosen_alike gnos others (r ∷ log) alike =
    let rest = chosen_alike gnos others log alike.1 in
    λ i. cond (alike.0 i) (r ∷ rest i) (rest i)

-- what is true of each record with such a number is true of those chosen
pub chosen_each : (P : Record → Type 0) (gnos : List ℕ) (log : List Record) →
    AllByRecursion (λ (r : Record). has_gno gnos r.gno ≡ true → P r) log → AllByRecursion P (chosen gnos log)
chosen_each P gnos [] each = tt
chosen_each P gnos (r ∷ log) each =
    elim (has_gno gnos r.gno) as (λ b. (b ≡ true → P r) → AllByRecursion P (cond b (r ∷ chosen gnos log) (chosen gnos log))) [
      | true ↦ λ its. (its refl, chosen_each P gnos log each.1)
      | false ↦ λ its. chosen_each P gnos log each.1
    ] each.0

-- a number is among these with one more where it was, or is that one
pub among_pushed : (gnos : List ℕ) (gno other : ℕ) → has_gno (gnos ++ gno ∷ []) other ≡ true → (has_gno gnos other ≡ true) ⊎ (gno ≡ other)
among_pushed gnos gno other is =
    elim (has_gno_cases gnos (gno ∷ []) other is) [
      | inl old ↦ inl old
      | inr new ↦ inr (only_one gno other new)
    ]

other_stays : (gnos : List ℕ) (gno other : ℕ) → (gno ≡ other → ⊥) → has_gno (gnos ++ gno ∷ []) other ≡ has_gno gnos other
other_stays gnos gno other apart =
    has_gno-push gnos gno other ∙ ap (λ b. has_gno gnos other || b) (ne_eqb gno other apart) ∙ or-false (has_gno gnos other)

-- with the number of one record of the log more, that record stands among them
pub record OneMore (gnos : List ℕ) (log front rest : List Record) (rec : Record) : Type 0 where
  pub before : chosen gnos log ≡ chosen gnos front ++ chosen gnos rest
  pub with_it : chosen (gnos ++ rec.gno ∷ []) log ≡ chosen gnos front ++ rec ∷ chosen gnos rest

pub one_more : (gnos : List ℕ) (log front rest : List Record) (rec : Record) → AreNumbered 1 log → log ≡ front ++ rec ∷ rest →
    has_gno gnos rec.gno ≡ false →
    OneMore gnos log front rest rec
one_more gnos log front rest rec numbered split new =
    let more = gnos ++ rec.gno ∷ [] in
    let all : AreNumbered 1 (front ++ rec ∷ rest) = subst (AreNumbered 1) split numbered in
    let place = number_of log front rest rec numbered split in
    let stays : (r : Record) → (rec.gno ≡ r.gno → ⊥) → Stays r = λ r apart. other_stays gnos rec.gno r.gno apart in
    let in_front = each_number Stays 1 front (numbered_front 1 front (rec ∷ rest) all) (λ r low high. stays r (λ same. omega arith)) in
    let behind = (numbered_back 1 front (rec ∷ rest) all).1 in
    let in_rest = each_number Stays (1 + length front + 1) rest behind (λ r low high. stays r (λ same. omega arith)) in
    record {
      before = ap (chosen gnos) split ∙ chosen-append gnos front (rec ∷ rest)
          ∙ ap (λ l. chosen gnos front ++ l) (not_chosen_here gnos rec rest new);
      with_it = ap (chosen more) split ∙ chosen-append more front (rec ∷ rest)
          ∙ (λ i. chosen_alike more gnos front in_front i ++ chosen_here more rec rest (has_gno_last gnos rec.gno) i)
          ∙ ap (λ l. chosen gnos front ++ rec ∷ l) (chosen_alike more gnos rest in_rest);
    }
  where
    Stays : Record → Type 0
    Stays = λ (r : Record). has_gno (gnos ++ rec.gno ∷ []) r.gno ≡ has_gno gnos r.gno

-- ---- the numbers from 1 on

among_first : (n gno : ℕ) → 1 ≤ gno → gno ≤ n → has_gno (first_gnos n) gno ≡ true
among_first n gno low high = has_first n gno ∙ and_from _ _ (le-leb 1 gno low) (le-leb gno n high)

past_first : (n gno : ℕ) → n < gno → has_gno (first_gnos n) gno ≡ false
past_first n gno past =
    false_from_ne_true (has_gno (first_gnos n) gno) (λ is.
    let parts = and_parts (leb 1 gno) (leb gno n) (sym (has_first n gno) ∙ is) in
    omega (arith, leb-true gno n parts.1, past))

firsts : (k n : ℕ) (log : List Record) → AreNumbered (k + 1) log → chosen (first_gnos (k + n)) log ≡ take n log
firsts k zero [] numbered = refl
firsts k (suc n) [] numbered = refl
firsts k zero (r ∷ log) numbered =
    let none : AllByRecursion (λ (q : Record). has_gno (first_gnos (k + zero)) q.gno ≡ false) (r ∷ log) =
    each_number (λ (q : Record). has_gno (first_gnos (k + zero)) q.gno ≡ false) (k + 1) (r ∷ log) numbered
    (λ q low high. past_first (k + zero) q.gno (omega arith)) in
    chosen_none (first_gnos (k + zero)) (r ∷ log) none
firsts k (suc n) (r ∷ log) numbered =
    let same : k + suc n ≡ k + 1 + n = omega arith in
    chosen_here (first_gnos (k + suc n)) r log (among_first (k + suc n) r.gno (omega (arith, numbered.0)) (omega (arith, numbered.0)))
    ∙ ap (λ l. r ∷ l) (ap (λ m. chosen (first_gnos m) log) same ∙ firsts (k + 1) n log numbered.1)

pub first_are_chosen : FirstAreChosen
first_are_chosen log n numbered =
    let none : n ≡ 0 + n = omega arith in
    ap (λ m. chosen (first_gnos m) log) none ∙ firsts 0 n log numbered

-- ---- longer logs

pub longer_log : LongerLog
longer_log log more gnos numbered within =
    let none : AllByRecursion (λ (r : Record). has_gno gnos r.gno ≡ false) more =
    each_number (λ (r : Record). has_gno gnos r.gno ≡ false) (1 + length log) more (numbered_back 1 log more numbered)
    (λ r low high. false_from_ne_true (has_gno gnos r.gno) (λ is. let bound = within r.gno is in omega arith)) in
    chosen-append gnos log more ∙ ap (λ l. chosen gnos log ++ l) (chosen_none gnos more none) ∙ append-nil (chosen gnos log)

-- ---- the records of these numbers, in the order of the numbers

-- each of the numbers is one of the log
abbrev pub AreWithin : List ℕ → List Record → Type 0
AreWithin gnos log = (gno : ℕ) → has_gno gnos gno ≡ true → (1 ≤ gno) × (gno ≤ length log)

rest_within : (gno : ℕ) (gnos : List ℕ) (log : List Record) → AreWithin (gno ∷ gnos) log → AreWithin gnos log
rest_within gno gnos log within = λ other is. within other (or_right (eqb gno other) (has_gno gnos other) is)

-- the first of the numbers has a record
found : (gno : ℕ) (gnos : List ℕ) (log : List Record) → AreWithin (gno ∷ gnos) log → (rec : Record) × (slice_get log (gno - 1) ≡ Some rec)
found gno gnos log within = let bounds = within gno (has_gno_first gno gnos) in get_within log (gno - 1) (omega arith)

-- and a number of a log has the same in a longer one
found_longer : (log more : List Record) (gno : ℕ) → (1 ≤ gno) × (gno ≤ length log) →
    slice_get (log ++ more) (gno - 1) ≡ slice_get log (gno - 1)
found_longer log more gno bounds = get_front log more (gno - 1) (omega arith)

pub records_at_joined : (log : List Record) (xs ys : List ℕ) → records_at log (xs ++ ys) ≡ records_at log xs ++ records_at log ys
records_at_joined log [] ys = refl
records_at_joined log (gno ∷ xs) ys =
    let rest = records_at_joined log xs ys in
    let with_first : List Record → Option Record → List Record = λ l o. option_map_or (λ (r : Record). r ∷ l) o l in
    elim (slice_get log (gno - 1)) as (λ o. with_first (records_at log (xs ++ ys)) o
    ≡ with_first (records_at log xs) o ++ records_at log ys) [
      | None ↦ rest
      | Some r ↦ ap (λ l. r ∷ l) rest
    ]

pub records_at_first : (log : List Record) (gno : ℕ) (gnos : List ℕ) (rec : Record) → slice_get log (gno - 1) ≡ Some rec →
    records_at log (gno ∷ gnos) ≡ rec ∷ records_at log gnos
records_at_first log gno gnos rec at = ap (λ o. option_map_or (λ (r : Record). r ∷ records_at log gnos) o (records_at log gnos)) at

pub records_at_one : (log : List Record) (gno : ℕ) (rec : Record) → slice_get log (gno - 1) ≡ Some rec →
    records_at log (gno ∷ []) ≡ rec ∷ []
records_at_one log gno rec at = records_at_first log gno [] rec at

pub records_at_pushed : (log : List Record) (gnos : List ℕ) (gno : ℕ) (rec : Record) → slice_get log (gno - 1) ≡ Some rec →
    records_at log (gnos ++ gno ∷ []) ≡ records_at log gnos ++ rec ∷ []
records_at_pushed log gnos gno rec at =
    records_at_joined log gnos (gno ∷ []) ∙ ap (λ l. records_at log gnos ++ l) (records_at_one log gno rec at)

pub records_at_longer : (log more : List Record) (gnos : List ℕ) → AreWithin gnos log → records_at (log ++ more) gnos ≡ records_at log gnos
records_at_longer log more [] within = refl
records_at_longer log more (gno ∷ gnos) within =
    let same = found_longer log more gno (within gno (has_gno_first gno gnos)) in
    let rest = records_at_longer log more gnos (rest_within gno gnos log within) in
    λ i. option_map_or (λ (r : Record). r ∷ rest i) (same i) (rest i)

pub records_of_first : (log : List Record) (n : ℕ) → n ≤ length log → records_at log (first_gnos n) ≡ take n log
records_of_first log zero within = refl
records_of_first log (suc n) within =
    let got = get_within log n (omega (arith, within)) in
    let number : suc n - 1 ≡ n = omega arith in
    let place : n + 1 ≡ suc n = omega arith in
    records_at_pushed log (first_gnos n) (suc n) got.0 (ap (slice_get log) number ∙ got.1)
    ∙ (λ i. records_of_first log n (omega (arith, within)) i ++ sym (get_or_from_slice_get log n got.0 got.0 got.1) i ∷ [])
    ∙ sym (take_more log n got.0 (omega (arith, within)))
    ∙ ap (λ k. take k log) place

pub length_records_at : (log : List Record) (gnos : List ℕ) → AreWithin gnos log → length (records_at log gnos) ≡ length gnos
length_records_at log [] within = refl
length_records_at log (gno ∷ gnos) within =
    let got = found gno gnos log within in
    ap length (records_at_first log gno gnos got.0 got.1) ∙ ap suc (length_records_at log gnos (rest_within gno gnos log within))

pub records_at_take : (log : List Record) (gnos : List ℕ) (n : ℕ) → AreWithin gnos log →
    records_at log (take n gnos) ≡ take n (records_at log gnos)
records_at_take log gnos zero within = refl
records_at_take log [] (suc n) within = refl
records_at_take log (gno ∷ gnos) (suc n) within =
    let got = found gno gnos log within in
    records_at_first log gno (take n gnos) got.0 got.1 ∙ ap (λ l. got.0 ∷ l) (records_at_take log gnos n (rest_within gno gnos log within))
    ∙ ap (take (suc n)) (sym (records_at_first log gno gnos got.0 got.1))

-- the record at a place of the list is that of the number there
pub records_at_place : (log : List Record) (gnos : List ℕ) (i gno : ℕ) → AreWithin gnos log → slice_get gnos i ≡ Some gno →
    slice_get (records_at log gnos) i ≡ slice_get log (gno - 1)
records_at_place log [] i gno within at = absurd (none-some gno at)
records_at_place log (first ∷ gnos) zero gno within at =
    let got = found first gnos log within in
    ap (λ l. slice_get l zero) (records_at_first log first gnos got.0 got.1) ∙ sym got.1
    ∙ ap (λ n. slice_get log (n - 1)) (same_Some first gno at)
records_at_place log (first ∷ gnos) (suc i) gno within at =
    let got = found first gnos log within in
    ap (λ l. slice_get l (suc i)) (records_at_first log first gnos got.0 got.1)
    ∙ records_at_place log gnos i gno (rest_within first gnos log within) at

-- ---- closed sets

pub closed_front : (gnos : List ℕ) (front rest : List Record) → IsClosed gnos (front ++ rest) → IsClosed gnos front
closed_front gnos front rest closed = λ before next behind e.
    closed before next (behind ++ rest) (ap (λ l. l ++ rest) e ∙ append_assoc before (next ∷ behind) rest)

pub closed_longer : (gnos : List ℕ) (log more : List Record) → AreNumbered 1 (log ++ more) → AreWithin gnos log → IsClosed gnos log →
    IsClosed gnos (log ++ more)
closed_longer gnos log more numbered within closed = λ before next behind e is.
    let at : slice_get log (next.gno - 1) ≡ Some next =
    sym (found_longer log more next.gno (within next.gno is)) ∙ record_at_number (log ++ more) before behind next numbered e in
    let w = split_at log (next.gno - 1) next at in
    let longer : log ++ more ≡ w.0 ++ next ∷ (w.1 ++ more) = ap (λ l. l ++ more) w.2 ∙ append_assoc w.0 (next ∷ w.1) more in
    let one = one_split (log ++ more) w.0 (w.1 ++ more) before behind next next numbered longer e refl in
    subst (λ (l : List Record). AreChosen gnos l next) one.fronts (closed w.0 next w.1 w.2 is)

pub are_chosen_more : (gnos more : List ℕ) (front : List Record) (next : Record) → AreChosen gnos front next →
    AreChosen (gnos ++ more) front next
are_chosen_more gnos more [] next are = tt
are_chosen_more gnos more (r ∷ front) next are =
    (λ meet. has_gno_front gnos more r.gno (are.0 meet), are_chosen_more gnos more front next are.1)

-- ---- commits

none_in_none : (front rest : List ℕ) (gno : ℕ) → [] ≡ front ++ gno ∷ rest → ⊥
none_in_none [] rest gno e = cc
none_in_none (n ∷ front) rest gno e = cc

pub no_commits : (ts : List Table) (base : Database) (log : List Record) → AreCommits ts base log []
no_commits ts base log = λ front gno rest e. absurd (none_in_none front rest gno e)

pub prefix_are_commits : (ts : List Table) (base : Database) (log : List Record) (front rest : List ℕ) →
    AreCommits ts base log (front ++ rest) → AreCommits ts base log front
prefix_are_commits ts base log front rest are = λ before gno behind e.
    are before gno (behind ++ rest) (ap (λ l. l ++ rest) e ∙ append_assoc before (gno ∷ behind) rest)

pub next_commit : (ts : List Table) (base : Database) (log : List Record) (gnos : List ℕ) (gno : ℕ) → AreCommits ts base log gnos →
    MayCommit ts base log gnos gno →
    AreCommits ts base log (gnos ++ gno ∷ [])
next_commit ts base log gnos gno are next = λ front one rest e.
    elim (split_last rest) [
      | inl none ↦
          let same = same_from_push gnos front gno one (e ∙ ap (λ l. front ++ one ∷ l) none) in
          subst (λ (l : List ℕ). MayCommit ts base log l one) same.0 (subst (λ (n : ℕ). MayCommit ts base log gnos n) same.1 next)
      | inr w ↦
          let last : gnos ++ gno ∷ [] ≡ (front ++ one ∷ w.0) ++ w.1 ∷ [] =
          e ∙ ap (λ l. front ++ one ∷ l) w.2 ∙ sym (append_assoc front (one ∷ w.0) (w.1 ∷ [])) in
          let same = same_from_push gnos (front ++ one ∷ w.0) gno w.1 last in
          are front one w.0 same.0
    ]

pub commits_are_within : (ts : List Table) (base : Database) (log : List Record) (gnos : List ℕ) → AreNumbered 1 log →
    AreCommits ts base log gnos → AreWithin gnos log
commits_are_within ts base log gnos numbered are = λ gno is.
    let w = has_gno_split gnos gno is in
    let may = are w.0 gno w.1 w.2 in
    let number = may.number in
    let place = number_of log may.front may.rest may.rec numbered may.split in
    let long = ap length may.split ∙ length-append may.front (may.rec ∷ may.rest) in
    (omega arith, omega arith)

distinct_on : (ts : List Table) (base : Database) (log : List Record) (front rest : List ℕ) → AreCommits ts base log (front ++ rest) →
    AreDistinct front → AreDistinct (front ++ rest)
distinct_on ts base log front [] are distinct = subst AreDistinct (sym (append-nil front)) distinct
distinct_on ts base log front (gno ∷ rest) are distinct =
    let regrouped : (front ++ gno ∷ []) ++ rest ≡ front ++ gno ∷ rest = append_assoc front (gno ∷ []) rest in
    let one_more = AreDistinct-push front gno distinct (are front gno rest refl).new in
    subst AreDistinct regrouped
    (distinct_on ts base log (front ++ gno ∷ []) rest (subst (AreCommits ts base log) (sym regrouped) are) one_more)

pub commits_are_distinct : (ts : List Table) (base : Database) (log : List Record) (gnos : List ℕ) → AreCommits ts base log gnos →
    AreDistinct gnos
commits_are_distinct ts base log gnos are = distinct_on ts base log [] gnos are tt

-- they stay commits of a longer log
pub commits_longer : (ts : List Table) (base : Database) (log more : List Record) (gnos : List ℕ) → AreNumbered 1 (log ++ more) →
    AreCommits ts base log gnos →
    AreCommits ts base (log ++ more) gnos
commits_longer ts base log more gnos numbered are = λ front gno rest e.
    let may = are front gno rest e in
    let so_far : AreCommits ts base log front = prefix_are_commits ts base log front (gno ∷ rest) (subst (AreCommits ts base log) e are) in
    let within = commits_are_within ts base log front (numbered_front 1 log more numbered) so_far in
    record {
      rec = may.rec;
      front = may.front;
      rest = may.rest ++ more;
      split = ap (λ l. l ++ more) may.split ∙ append_assoc may.front (may.rec ∷ may.rest) more;
      number = may.number;
      new = may.new;
      chosen_ = may.chosen_;
      rows = may.rows;
      rows_are = ap (after ts base) (records_at_longer log more front within) ∙ may.rows_are;
      good = may.good;
    }
