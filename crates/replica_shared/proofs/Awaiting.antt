-- Which commits are there of those that are waited for.
use Rattle.std.proofs.Common.{◌≡◌, ◌∙◌, sym, ap, subst, refl, ℕ, zero, suc, ◌+◌, ◌-◌, ◌<◌, ◌≤◌, inl, inr, Bool, true, false, not, ◌&&◌, ◌||◌, nat_le, max, List, [], ◌∷◌, ◌++◌, take, drop, Option}
use Rattle.std.proofs.Common.{Some, None, arith}
use Rattle.std.specs.List.{list_any, AllByRecursion}
use Rattle.std.specs.Prelude.{MatchOption, unwrap_or}
use Rattle.std.proofs.lemmas.Bool.{cases_eq, cases_Bool, not-true, false_from_ne_true, true≢false, and_parts, and_from, or_cases, or_left, or_right, le-leb, leb-true, leb-false, eqb-true}
use Rattle.std.proofs.lemmas.List.{take-append-drop}
use Rattle.store_trait.specs.declared.Op.{Op}
use Rattle.store_trait.specs.declared.Op.TheVariants.{Load, Commit}
use Rattle.gtid_set.specs.Ids.{Ids, IsSet, no_ids}
use Rattle.gtid_set.specs.Numbers.{has_number, is_within, RiseFrom, IsGreatest}
use Rattle.gtid_set.specs.declared.intervals.Interval.{Interval}
use Rattle.scheduler.specs.Gnos.{has_gno, low_of, first_gnos, AreDistinct}
use Rattle.scheduler.proofs.Gnos.{has_gno_first, has_gno_cases, has_gno-take, below_low, low_reaches, has_first, distinct_apart}
use Rattle.published.specs.History.{IsHistory, gnos_of, commits_in}
use Rattle.published.proofs.Histories.{gnos_in_order}
use Rattle.replica_shared.specs.Awaited.{has_run, has_each, has_all, is_commit_in, up_to, AreAmong}

-- ---- truth

pub same_truth : (a b : Bool) → (a ≡ true → b ≡ true) → (b ≡ true → a ≡ true) → a ≡ b
same_truth true b to from = sym (to refl)
same_truth false true to from = from refl
same_truth false false to from = refl

-- ---- runs of numbers

-- where all are there, each is
pub run_has : (gnos : List ℕ) (from n gno : ℕ) → has_run gnos from n ≡ true → from ≤ gno → gno < from + n → has_gno gnos gno ≡ true
run_has gnos from zero gno is low high = absurd (omega arith)
run_has gnos from (suc n) gno is low high =
    let parts = and_parts (has_gno gnos from) (has_run gnos (from + 1) n) is in
    elim (cases_eq from gno) [
      | inl here ↦ subst (λ g. has_gno gnos g ≡ true) here parts.0
      | inr elsewhere ↦ run_has gnos (from + 1) n gno parts.1 (omega (arith, elsewhere)) (omega arith)
    ]

pub run_of : (gnos : List ℕ) (from n : ℕ) → ((gno : ℕ) → from ≤ gno → gno < from + n → has_gno gnos gno ≡ true) → has_run gnos from n ≡ true
run_of gnos from zero each = refl
run_of gnos from (suc n) each =
    and_from (has_gno gnos from) (has_run gnos (from + 1) n) (each from (omega arith) (omega arith)) (run_of gnos (from + 1) n (λ gno low high. each gno (omega arith) (omega arith)))

-- and where not, one is not
pub record Lacks (gnos : List ℕ) (from n : ℕ) : Type 0 where
  pub gno : ℕ
  pub low : from ≤ gno
  pub high : gno < from + n
  pub lacks : has_gno gnos gno ≡ false

pub run_lacks : (gnos : List ℕ) (from n : ℕ) → has_run gnos from n ≡ false → Lacks gnos from n
run_lacks gnos from zero is = absurd (true≢false is)
run_lacks gnos from (suc n) is = by_first (has_gno gnos from) refl is (λ rest. run_lacks gnos (from + 1) n rest)
  where
    by_first : (b : Bool) → has_gno gnos from ≡ b → (b && has_run gnos (from + 1) n) ≡ false → (has_run gnos (from + 1) n ≡ false → Lacks gnos (from + 1) n) → Lacks gnos from (suc n)
    by_first false here not rest = record { gno = from; low = omega arith; high = omega arith; lacks = here }
    by_first true here not rest =
        let l = rest not in
        let low = l.low in
        let high = l.high in
        record { gno = l.gno; low = omega arith; high = omega arith; lacks = l.lacks }

-- ---- intervals

-- each number of the interval
pub each_has : (gnos : List ℕ) (i : Interval) (gno : ℕ) → has_each gnos i ≡ true → i.first ≤ gno → gno ≤ i.last → has_gno gnos gno ≡ true
each_has gnos i gno is low high = run_has gnos i.first (i.last + 1 - i.first) gno is low (omega arith)

pub each_of : (gnos : List ℕ) (i : Interval) → ((gno : ℕ) → i.first ≤ gno → gno ≤ i.last → has_gno gnos gno ≡ true) → has_each gnos i ≡ true
each_of gnos i each = run_of gnos i.first (i.last + 1 - i.first) (λ gno low high. each gno low (omega arith))

-- one that is not there
pub each_not : (gnos : List ℕ) (i : Interval) (gno : ℕ) → i.first ≤ gno → gno ≤ i.last → has_gno gnos gno ≡ false → has_each gnos i ≡ false
each_not gnos i gno low high lacks = false_from_ne_true (has_each gnos i) (λ all. true≢false (sym (each_has gnos i gno all low high) ∙ lacks))

pub record EachLacks (gnos : List ℕ) (i : Interval) : Type 0 where
  pub gno : ℕ
  pub within : is_within i gno ≡ true
  pub lacks : has_gno gnos gno ≡ false

each_lacks : (gnos : List ℕ) (i : Interval) → has_each gnos i ≡ false → EachLacks gnos i
each_lacks gnos i is =
    let l = run_lacks gnos i.first (i.last + 1 - i.first) is in
    let high = l.high in
    record { gno = l.gno; within = and_from (nat_le i.first l.gno) (nat_le l.gno i.last) (le-leb i.first l.gno l.low) (le-leb l.gno i.last (omega (arith, l.low))); lacks = l.lacks }

within_parts : (i : Interval) (gno : ℕ) → is_within i gno ≡ true → (i.first ≤ gno) × (gno ≤ i.last)
within_parts i gno is = let parts = and_parts (nat_le i.first gno) (nat_le gno i.last) is in (leb-true i.first gno parts.0, leb-true gno i.last parts.1)

-- up to the mark all are there
pub each_below_low : (gnos : List ℕ) (i : Interval) → 1 ≤ i.first → i.last ≤ low_of gnos → has_each gnos i ≡ true
each_below_low gnos i one below = each_of gnos i (λ gno low high. below_low gnos gno (omega arith) (omega arith))

-- the numbers from the first that is not below another one on are enough, where all before that are there
pub each_from : (gnos : List ℕ) (i : Interval) (from : ℕ) → ((gno : ℕ) → i.first ≤ gno → gno < from → has_gno gnos gno ≡ true)
    → ((gno : ℕ) → from ≤ gno → gno ≤ i.last → has_gno gnos gno ≡ true) → has_each gnos i ≡ true
each_from gnos i from front back = each_of gnos i (λ gno low high. elim (cases_Bool (nat_le from gno)) [
  | inl behind ↦ back gno (leb-true from gno behind) high
  | inr before ↦ front gno low (leb-false from gno before)
])

-- ---- those of some that are in front

any_within : (i : Interval) (gnos : List ℕ) → list_any (is_within i) gnos ≡ true → (gno : ℕ) × (is_within i gno ≡ true) × (has_gno gnos gno ≡ true)
any_within i [] is = absurd (true≢false (sym is))
any_within i (x ∷ gnos) is = elim (or_cases (is_within i x) (list_any (is_within i) gnos) is) [
  | inl here ↦ (x, here, has_gno_first x gnos)
  | inr behind ↦ (let rest = any_within i gnos behind in (rest.0, rest.1, or_right _ (has_gno gnos rest.0) rest.2))
]

some_within : (i : Interval) (gnos : List ℕ) (gno : ℕ) → is_within i gno ≡ true → has_gno gnos gno ≡ true → list_any (is_within i) gnos ≡ true
some_within i [] gno within has = absurd (true≢false (sym has))
some_within i (x ∷ gnos) gno within has = elim (or_cases _ (has_gno gnos gno) has) [
  | inl here ↦ or_left (is_within i x) (list_any (is_within i) gnos) (subst (λ n. is_within i n ≡ true) (sym (eqb-true x gno here)) within)
  | inr behind ↦ or_right (is_within i x) (list_any (is_within i) gnos) (some_within i gnos gno within behind)
]

-- a commit among operations
pub any_commit_in : (i : Interval) (ops : List Op) → list_any (is_commit_in i) ops ≡ list_any (is_within i) (gnos_of ops)
any_commit_in i [] = refl
any_commit_in i (Load base ∷ ops) = any_commit_in i ops
any_commit_in i (Commit gno batch ∷ ops) = ap (λ b. is_within i gno || b) (any_commit_in i ops)

-- The numbers of an interval are among the first so many of distinct ones where they are up to the mark of these, or else where all are
-- among them, and none is one of those behind.
pub front_has : (gnos : List ℕ) (n : ℕ) (i : Interval) → AreDistinct gnos → 1 ≤ i.first →
    has_each (take n gnos) i ≡ (nat_le i.last (low_of (take n gnos)) || (has_each gnos i && not (list_any (is_within i) (drop n gnos))))
front_has gnos n i distinct one = same_truth (has_each (take n gnos) i) _ to from
  where
    both : take n gnos ++ drop n gnos ≡ gnos
    both = take-append-drop n gnos

    apart : (gno : ℕ) → has_gno (take n gnos) gno ≡ true → has_gno (drop n gnos) gno ≡ false
    apart = distinct_apart (take n gnos) (drop n gnos) (subst AreDistinct (sym both) distinct)

    none : has_each (take n gnos) i ≡ true → list_any (is_within i) (drop n gnos) ≡ false
    none is = false_from_ne_true (list_any (is_within i) (drop n gnos)) (λ any.
        let some = any_within i (drop n gnos) any in
        let between = within_parts i some.0 some.1 in
        true≢false (sym some.2 ∙ apart some.0 (each_has (take n gnos) i some.0 is between.0 between.1)))

    to : has_each (take n gnos) i ≡ true → (nat_le i.last (low_of (take n gnos)) || (has_each gnos i && not (list_any (is_within i) (drop n gnos)))) ≡ true
    to is =
        let all = each_of gnos i (λ gno low high. has_gno-take n gnos gno (each_has (take n gnos) i gno is low high)) in
        or_right (nat_le i.last (low_of (take n gnos))) (has_each gnos i && not (list_any (is_within i) (drop n gnos)))
        (and_from (has_each gnos i) (not (list_any (is_within i) (drop n gnos))) all (ap not (none is)))

    behind_too : (gno : ℕ) → is_within i gno ≡ true → list_any (is_within i) (drop n gnos) ≡ false → has_gno gnos gno ≡ true → has_gno (take n gnos) gno ≡ true
    behind_too gno within none_behind has = elim (has_gno_cases (take n gnos) (drop n gnos) gno (subst (λ l. has_gno l gno ≡ true) (sym both) has)) [
      | inl front ↦ front
      | inr behind ↦ absurd (true≢false (sym (some_within i (drop n gnos) gno within behind) ∙ none_behind))
    ]

    all_in_front : (has_each gnos i ≡ true) × (not (list_any (is_within i) (drop n gnos)) ≡ true) → has_each (take n gnos) i ≡ true
    all_in_front parts =
        each_of (take n gnos) i
        (λ gno low high. behind_too gno (and_from (nat_le i.first gno) (nat_le gno i.last) (le-leb i.first gno low) (le-leb gno i.last high)) (not-true _ parts.1)
        (each_has gnos i gno parts.0 low high))

    from : (nat_le i.last (low_of (take n gnos)) || (has_each gnos i && not (list_any (is_within i) (drop n gnos)))) ≡ true → has_each (take n gnos) i ≡ true
    from is = elim (or_cases (nat_le i.last (low_of (take n gnos))) _ is) [
      | inl below ↦ each_below_low (take n gnos) i one (leb-true i.last (low_of (take n gnos)) below)
      | inr so ↦ all_in_front (and_parts (has_each gnos i) (not (list_any (is_within i) (drop n gnos))) so)
    ]

-- what a test in parts tells
pub told_front : (a b c h : Bool) → h ≡ (a || (b && not c)) → a ≡ true → h ≡ true
told_front a b c h is front = is ∙ ap (λ x. x || (b && not c)) front

-- the test is the last part where the first fails and the second holds
pub told_last : (a b c h : Bool) → h ≡ (a || (b && not c)) → a ≡ false → b ≡ true → h ≡ not c
told_last a b c h is front whole = is ∙ ap (λ x. x || (b && not c)) front ∙ ap (λ x. x && not c) whole

-- and false where both fail
pub told_none : (a b c h : Bool) → h ≡ (a || (b && not c)) → a ≡ false → b ≡ false → h ≡ false
told_none a b c h is front none = is ∙ ap (λ x. x || (b && not c)) front ∙ ap (λ x. x && not c) none

-- ---- a walk along an interval

-- the numbers in front of the mark are there
pub in_front : (gnos : List ℕ) (first low from : ℕ) → 1 ≤ first → low ≡ low_of gnos → from ≡ max first low → (gno : ℕ) → first ≤ gno → gno < from → has_gno gnos gno ≡ true
in_front gnos first low from one is at gno above below = below_low gnos gno (omega arith) (omega (arith, is, at))

-- with those that were looked at, and the last, all are there or one is not
pub walked : (gnos : List ℕ) (i : Interval) (from : ℕ) (last : Bool) → ((gno : ℕ) → i.first ≤ gno → gno < from → has_gno gnos gno ≡ true)
    → ((gno : ℕ) → from ≤ gno → gno < i.last → has_gno gnos gno ≡ true) → i.first ≤ i.last → last ≡ has_gno gnos i.last → last ≡ has_each gnos i
walked gnos i from false front between rising is = sym (each_not gnos i i.last rising (omega arith) (sym is))
walked gnos i from true front between rising is = sym (each_from gnos i from front (λ gno low high. elim (cases_eq gno i.last) [
  | inl here ↦ subst (λ n. has_gno gnos n ≡ true) (sym here) (sym is)
  | inr before ↦ between gno low (omega (arith, before))
]))

-- ---- sets

-- each number of a set that has all
pub all_has : (gnos : List ℕ) (is : List Interval) (gno : ℕ) → has_all gnos is ≡ true → has_number is gno ≡ true → has_gno gnos gno ≡ true
all_has gnos [] gno all has = absurd (true≢false (sym has))
all_has gnos (i ∷ is) gno all has =
    let parts = and_parts (has_each gnos i) (has_all gnos is) all in
    elim (or_cases (is_within i gno) (has_number is gno) has) [
      | inl here ↦ (let between = within_parts i gno here in each_has gnos i gno parts.0 between.0 between.1)
      | inr behind ↦ all_has gnos is gno parts.1 behind
    ]

-- and of one that has not, one
pub record AllLack (gnos : List ℕ) (is : List Interval) : Type 0 where
  pub gno : ℕ
  pub has : has_number is gno ≡ true
  pub lacks : has_gno gnos gno ≡ false

-- where not all numbers of the intervals are there, one of them is not
pub all_lack : (gnos : List ℕ) (is : List Interval) → has_all gnos is ≡ false → AllLack gnos is
all_lack gnos [] all = absurd (true≢false all)
all_lack gnos (i ∷ is) all = by_first (has_each gnos i) refl all (λ rest. all_lack gnos is rest)
  where
    by_first : (b : Bool) → has_each gnos i ≡ b → (b && has_all gnos is) ≡ false → (has_all gnos is ≡ false → AllLack gnos is) → AllLack gnos (i ∷ is)
    by_first false here not rest =
        let l = each_lacks gnos i here in
        record { gno = l.gno; has = or_left (is_within i l.gno) (has_number is l.gno) l.within; lacks = l.lacks }
    by_first true here not rest =
        let l = rest not in
        record { gno = l.gno; has = or_right (is_within i l.gno) (has_number is l.gno) l.has; lacks = l.lacks }

-- the numbers of a set are from 1 on
rise_from : (low : ℕ) (is : List Interval) → 1 ≤ low → RiseFrom low is → AllByRecursion (λ (i : Interval). 1 ≤ i.first) is
rise_from low [] one rise = tt
rise_from low (i ∷ is) one rise = let first = rise.0 in (omega arith, rise_from (i.last + 2) is (omega arith) rise.3)

-- the intervals of a set begin at 1 or above
pub set_from_one : (ids : Ids) (is : List Interval) → is ≡ ids.numbers → IsSet ids → AllByRecursion (λ (i : Interval). 1 ≤ i.first) is
set_from_one ids is same set = subst (AllByRecursion (λ (i : Interval). 1 ≤ i.first)) (sym same) (rise_from 1 ids.numbers (omega arith) set.numbers)

numbers_from_one : (is : List Interval) (gno : ℕ) → AllByRecursion (λ (i : Interval). 1 ≤ i.first) is → has_number is gno ≡ true → 1 ≤ gno
numbers_from_one [] gno ones has = absurd (true≢false (sym has))
numbers_from_one (i ∷ is) gno ones has = elim (or_cases (is_within i gno) (has_number is gno) has) [
  | inl here ↦ (let between = within_parts i gno here in let one = ones.0 in let low = between.0 in omega arith)
  | inr behind ↦ numbers_from_one is gno ones.1 behind
]

-- so do its numbers
pub set_numbers_from_one : (ids : Ids) (gno : ℕ) → IsSet ids → has_number ids.numbers gno ≡ true → 1 ≤ gno
set_numbers_from_one ids gno set has = numbers_from_one ids.numbers gno (rise_from 1 ids.numbers (omega arith) set.numbers) has

-- ---- the numbers from 1 to one

first_all : (gnos : List ℕ) (n : ℕ) → has_all gnos (up_to n) ≡ true → (gno : ℕ) → 1 ≤ gno → gno ≤ n → has_gno gnos gno ≡ true
first_all gnos n all gno low high = each_has gnos (record { first = 1; last = n }) gno (and_parts (has_each gnos (record { first = 1; last = n })) true all).0 low high

-- where all numbers up to one are there, the mark is that one at least
pub up_to_low : (gnos : List ℕ) (n : ℕ) → has_all gnos (up_to n) ≡ true → n ≤ low_of gnos
up_to_low gnos n all = low_reaches gnos n (first_all gnos n all)

-- and where not all are, the mark is below it
pub not_up_to_low : (gnos : List ℕ) (n : ℕ) → has_all gnos (up_to n) ≡ false → low_of gnos < n
not_up_to_low gnos n all = by_order (nat_le n (low_of gnos)) refl
  where
    i : Interval
    i = record { first = 1; last = n }

    by_order : (b : Bool) → nat_le n (low_of gnos) ≡ b → low_of gnos < n
    by_order false over = leb-false n (low_of gnos) over
    by_order true under = absurd (true≢false (sym (and_from (has_each gnos i) true (each_below_low gnos i (omega arith) (leb-true n (low_of gnos) under)) refl) ∙ all))

-- where they are there so are all of a set whose greatest it is
pub set_among : (gnos : List ℕ) (ids : Ids) (greatest : Option ℕ) (n : ℕ) → IsSet ids → MatchOption greatest (ids ≡ no_ids) (IsGreatest ids.numbers) → n ≡ unwrap_or greatest 0
    → has_all gnos (up_to n) ≡ true → AreAmong gnos ids
set_among gnos ids (Some m) n set most is all gno has =
    let low = set_numbers_from_one ids gno set has in
    let high = most.most gno has in
    first_all gnos n all gno low (omega (arith, is))
set_among gnos ids None n set none is all gno has = absurd (true≢false (sym has ∙ ap (λ (x : Ids). has_number x.numbers gno) none))

-- ---- in the order of the log

-- a number is there where it is at most that of the commits
pub in_order_upto : (preserve : Bool) (ops : List Op) (gno : ℕ) → preserve ≡ true → IsHistory preserve ops → has_gno (gnos_of ops) gno ≡ true → gno ≤ commits_in ops
in_order_upto preserve ops gno order h has =
    let is = gnos_in_order ops (subst (λ b. IsHistory b ops) order h) in
    let parts = and_parts (nat_le 1 gno) (nat_le gno (commits_in ops)) (sym (has_first (commits_in ops) gno) ∙ subst (λ l. has_gno l gno ≡ true) is has) in
    leb-true gno (commits_in ops) parts.1

-- and one from 1 on is not where fewer commits are
pub in_order_behind : (preserve : Bool) (ops : List Op) (gno : ℕ) → preserve ≡ true → IsHistory preserve ops → 1 ≤ gno → has_gno (gnos_of ops) gno ≡ false → commits_in ops < gno
in_order_behind preserve ops gno order h one lacks = by_order (nat_le gno (commits_in ops)) refl
  where
    is : gnos_of ops ≡ first_gnos (commits_in ops)
    is = gnos_in_order ops (subst (λ b. IsHistory b ops) order h)

    by_order : (b : Bool) → nat_le gno (commits_in ops) ≡ b → commits_in ops < gno
    by_order false over = leb-false gno (commits_in ops) over
    by_order true under =
        absurd
        (true≢false
        (sym (ap (λ l. has_gno l gno) is ∙ has_first (commits_in ops) gno ∙ and_from (nat_le 1 gno) (nat_le gno (commits_in ops)) (le-leb 1 gno one) under) ∙ lacks))
