-- The ids of the numbers that a scheduler has marked.
use Rattle.std.proofs.Common.{◌≡◌, ◌∙◌, sym, ap, subst, refl, true≢false, ℕ, zero, suc, ◌+◌, ◌^◌, if◌then◌else◌, ◌==◌, ◌-◌, ◌<◌, ◌≤◌, Bool, true, false, ◌||◌, ◌&&◌, nat_le, eqb, inl, inr, List, []}
use Rattle.std.proofs.Common.{◌∷◌, ◌++◌, length, Option, Some, None, is_none, arith}
use Rattle.std.specs.Prelude.{IfSome}
use Rattle.std.proofs.Math.Bool.{or-false}
use Rattle.std.proofs.lemmas.Bool.{cases_eq, ne_eqb, leb-true}
use Rattle.std.proofs.lemmas.Bool.Decides.{nat_tests}
use Rattle.gtid_set.specs.Ids.{Ids, IsSet, no_ids, first_ids, Adds}
use Rattle.gtid_set.specs.declared.intervals.Interval.{Interval}
use Rattle.gtid_set.specs.Numbers.{has_number, AreNumbers}
use Rattle.scheduler.specs.Gnos.{has_gno, first_gnos}
use Rattle.scheduler.proofs.Gnos.{has_gno_first, has_gno_front, has_first}
use Rattle.scheduler.specs.Marks.{Marks, is_committed}
use Rattle.replica_core.specs.Replica.{Replica}
use Rattle.replica_core.specs.Calls.{AreExecuted}
use Rattle.replica_core.specs.Core.{IsCounted, AreMarked, IsMarked}

-- the next number is looked at: where it is marked, its id goes in
with_next : (m gno : ℕ) (c : Bool) → 1 ≤ gno → (m ≡ gno → c ≡ true) → ((nat_le 1 m && nat_le m (gno - 1) && c) || eqb m gno) ≡ (nat_le 1 m && nat_le m (gno + 1 - 1) && c)
with_next m gno true low h = grind (arith, nat_tests)
with_next m gno false low h = elim (cases_eq m gno) [ inl same ↦ absurd (true≢false (sym (h same))) | inr apart ↦ grind (arith, nat_tests) ]

without_next : (m gno : ℕ) (c : Bool) → 1 ≤ gno → (m ≡ gno → c ≡ false) → (nat_le 1 m && nat_le m (gno - 1) && c) ≡ (nat_le 1 m && nat_le m (gno + 1 - 1) && c)
without_next m gno true low h = elim (cases_eq m gno) [ inl same ↦ absurd (true≢false (h same)) | inr apart ↦ grind (arith, nat_tests) ]
without_next m gno false low h = grind (arith, nat_tests)

module _ (source : List ℕ) (marks : Marks) (gno : ℕ) (old : Ids) (low : 1 ≤ gno) (h : AreMarked source marks (gno - 1) old) where
  pub next_marked : (new : Ids) → is_committed marks gno ≡ true → Adds old new (record { source = source; gno = gno }) → AreMarked source marks (gno + 1 - 1) new
  next_marked new is adds = record {
    is_set = adds.is_set;
    source_is = subst (λ (o : Option (List ℕ)). IfSome o (λ own. own ≡ source)) (sym adds.source) refl;
    numbers = λ m. adds.numbers m ∙ ap (λ (b : Bool). b || eqb m gno) (h.numbers m) ∙ with_next m gno (is_committed marks m) low (λ same. ap (is_committed marks) same ∙ is);
  }

  pub next_unmarked : is_committed marks gno ≡ false → AreMarked source marks (gno + 1 - 1) old
  next_unmarked is = record {
    is_set = h.is_set;
    source_is = h.source_is;
    numbers = λ m. h.numbers m ∙ without_next m gno (is_committed marks m) low (λ same. ap (is_committed marks) same ∙ is);
  }

-- ---- the ids of a replica

not_zero : (n : ℕ) → eqb (suc n) 0 ≡ false
not_zero n = ne_eqb (suc n) 0 (λ e. omega arith)

-- there is a number where there is an interval
no_intervals : (numbers : List Interval) → AreNumbers numbers → ((n : ℕ) → has_number numbers n ≡ false) → numbers ≡ []
no_intervals [] are none = refl
no_intervals (i ∷ rest) are none = absurd (grind (arith, nat_tests, none i.first, are.1))

-- so the source is told where there is one
without_some : (o : Option (List ℕ)) → is_none o ≡ true → o ≡ None
without_some None is = refl
without_some (Some source) is = cc

source_of_none : (ids : Ids) → IsSet ids → ((n : ℕ) → has_number ids.numbers n ≡ false) → ids.source ≡ None
source_of_none ids set none = without_some ids.source (set.source ∙ ap (λ (l : List Interval). eqb (length l) 0) (no_intervals ids.numbers set.numbers none))

source_of_some : (source : List ℕ) (ids : Ids) (gno : ℕ) → IsSet ids → IfSome ids.source (λ own. own ≡ source) → has_number ids.numbers gno ≡ true → ids.source ≡ Some source
source_of_some source ids gno set own has = of ids.source ids.numbers set.source own has
  where
    of : (o : Option (List ℕ)) (numbers : List Interval) → is_none o ≡ eqb (length numbers) 0 → IfSome o (λ own. own ≡ source) → has_number numbers gno ≡ true → o ≡ Some source
    of (Some own) numbers some is has = ap (λ (l : List ℕ). Some l) is
    of None [] some is has = absurd (true≢false (sym has))
    of None (i ∷ numbers) some is has = absurd (true≢false (some ∙ not_zero (length numbers)))

only_commits : (low high marked has all : Bool) → (low ≡ true → marked ≡ has) → (has ≡ true → all ≡ true) → all ≡ (low && high) → (low && high && marked) ≡ has
only_commits low high marked true all is more each = grind arith
only_commits low high marked false all is more each = grind arith

module _ (r : Replica) (marks : Marks) (ids : Ids) (counted : IsCounted r.preserve r.dispatched r.workers r.commits r.out r.finished marks) (h : AreMarked r.source marks r.dispatched ids) where
  -- those marked are those of the commits
  has_commits : (n : ℕ) → has_number ids.numbers n ≡ has_gno r.commits n
  has_commits n =
      h.numbers n ∙ only_commits (nat_le 1 n) (nat_le n r.dispatched) (is_committed marks n) (has_gno r.commits n) (has_gno (r.commits ++ (r.out ++ r.finished)) n)
      (λ low. counted.marked n (leb-true 1 n low)) (has_gno_front r.commits (r.out ++ r.finished) n) (counted.each n)

  pub executed_is : AreExecuted r ids
  executed_is = record { is_set = h.is_set; source = of r.commits has_commits; numbers = has_commits }
    where
      of : (commits : List ℕ) → ((n : ℕ) → has_number ids.numbers n ≡ has_gno commits n) → ids.source ≡ (if length commits == 0 then None else Some r.source)
      of [] has = source_of_none ids h.is_set has
      of (gno ∷ commits) has =
          source_of_some r.source ids gno h.is_set h.source_is (has gno ∙ has_gno_first gno commits)
          ∙ ap (λ (b : Bool). if b then None else Some r.source) (sym (not_zero (length commits)))

-- a number that is marked is that of a commit
pub some_commit : (commits : List ℕ) (marks : Marks) → ((gno : ℕ) → 1 ≤ gno → is_committed marks gno ≡ has_gno commits gno) → IsMarked marks → 0 < length commits
some_commit [] marks marked is = absurd (true≢false (sym is.marked ∙ marked is.gno is.from_one))
some_commit (gno ∷ commits) marks marked is = omega arith

-- in the order of the log they are the first ids
one_interval : (source : List ℕ) (n : ℕ) → first_ids source (suc n) ≡ record { source = Some source; numbers = record { first = 1; last = suc n } ∷ [] }
one_interval source n = ap (λ (b : Bool). if b then no_ids else record { source = Some source; numbers = record { first = 1; last = suc n } ∷ [] }) (not_zero n)

pub executed_in_order : (r : Replica) (n : ℕ) → r.commits ≡ first_gnos n → length r.commits ≡ n → n < 2 ^ 63 → AreExecuted r (first_ids r.source n)
executed_in_order r zero are count few = record {
  is_set = record { numbers = tt; source = refl };
  source = sym (ap (λ (l : List ℕ). if length l == 0 then None else Some r.source) are);
  numbers = λ m. sym (ap (λ (l : List ℕ). has_gno l m) are);
}
executed_in_order r (suc n) are count few =
    subst (λ (ids : Ids). AreExecuted r ids) (sym (one_interval r.source n))
    (record {
      is_set = record { numbers = (omega arith, omega arith, few, tt); source = sym (not_zero 0) };
      source = sym (ap (λ (k : ℕ). if eqb k 0 then None else Some r.source) count ∙ ap (λ (b : Bool). if b then None else Some r.source) (not_zero n));
      numbers = λ m. or-false (nat_le 1 m && nat_le m (suc n)) ∙ sym (has_first (suc n) m) ∙ sym (ap (λ (l : List ℕ). has_gno l m) are);
    })
