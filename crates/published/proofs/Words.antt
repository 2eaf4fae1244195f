-- Each step on the status words keeps their rule.
use Rattle.std.proofs.Common.{◌≡◌, ◌≢◌, ℕ, zero, suc, true, List, [], ◌∷◌, ◌++◌, set, refl, sym, ap, subst, ◌∙◌, ⊎_elim, arith}
use mathlib.Core.Option.{some, some-injective}
use mathlib.Core.List.{IsSuffix}
use lib.ListN.{get_elem?}
use Rattle.atomic_table.proofs.Lists.{at_set, at_snoc, set_again}
use Rattle.published.specs.declared.counts.Counts.{Counts}
use Rattle.published.specs.declared.counts.Look.{Look}
use Rattle.published.specs.Status.{InOrder, NoneFalls, latest, AreReports, KeepsLatest, counts_of, beginner, watching, Stores, Finds}

-- before the first store the words are 0
pub begins : KeepsLatest (counts_of 0 0 0) (beginner ∷ [])
begins = record { stored = []; reports = tt; last = refl; writer = 0; seen = alone }
  where
    alone : (j : ℕ) (v : Look) → get_elem? (beginner ∷ []) j ≡ some v → IsSuffix v.seen [] × (v.stores ≡ true → (j ≡ 0) × (v.seen ≡ []))
    alone zero v there = subst (λ (q : Look). IsSuffix q.seen [] × (q.stores ≡ true → (zero ≡ 0) × (q.seen ≡ []))) (some-injective beginner v there) (([], refl), λ e. (refl, refl))
    alone (suc j) v there = absurd (cc (there))

none_falls : (later seen : List Counts) → AreReports (later ++ seen) → NoneFalls (latest seen) (latest (later ++ seen))
none_falls [] seen r = (omega arith, omega arith, omega arith)
none_falls (c ∷ later) seen r =
    let before = none_falls later seen r.2 in
    let step = r.1 in
    (omega (arith, before.0, step.0), omega (arith, before.1, step.1), omega (arith, before.2, step.2))

-- who sees more sees no less
rises : (seen stored : List Counts) → IsSuffix seen stored → AreReports stored → NoneFalls (latest seen) (latest stored)
rises seen stored later reports =
    subst (λ l. NoneFalls (latest seen) (latest l)) later.1 (none_falls later.0 seen (subst AreReports (sym later.1) reports))

-- who looks again finds no number lower than it saw
pub finds_no_less : (before : List Counts) (v w : Look) (x y : Counts) → v.seen ≡ before → Finds v x y w → NoneFalls (latest before) x
finds_no_less before v w x y same told =
    subst (λ l. NoneFalls (latest l) x) same (subst (λ c. NoneFalls (latest v.seen) c) (sym told.found) (rises v.seen w.seen told.later told.reports))

-- the rule after a step that stores nothing
kept : (x : Counts) (before after : List Look) → (k : KeepsLatest x before)
    → ((j : ℕ) (u : Look) → get_elem? after j ≡ some u → IsSuffix u.seen k.stored × (u.stores ≡ true → (j ≡ k.writer) × (u.seen ≡ k.stored))) → KeepsLatest x after
kept x before after k seen = record { stored = k.stored; reports = k.reports; last = k.last; writer = k.writer; seen = seen }

-- who looks finds the words that were stored last
pub finds : (pass : ℕ) (v : Look) (x : Counts) (views : List Look) → KeepsLatest x views → get_elem? views pass ≡ some v → (w : Look) × KeepsLatest x (set views pass w) × Finds v x x w
finds pass v x views k at =
    let w : Look = record v { seen = k.stored } in
    let mine = k.seen pass v at in (
      w,
      kept x views (set views pass w) k
          (λ j u there.
          ⊎_elim
          (λ (t : (j ≡ pass) × (w ≡ u)).
          subst (λ (q : Look). IsSuffix q.seen k.stored × (q.stores ≡ true → (j ≡ k.writer) × (q.seen ≡ k.stored))) t.1
          (([], refl), λ e. (t.0 ∙ (mine.1 e).0, refl)))
          (λ (t : (j ≢ pass) × (get_elem? views j ≡ some u)). k.seen j u t.1)
          (at_set views pass j w u there)),
      record { found = k.last; later = mine.0; reports = k.reports; own = λ e. sym (mine.1 e).1; same = refl },
    )

-- the one who stores
pub stores : (pass : ℕ) (v : Look) (x c : Counts) → v.stores ≡ true → InOrder c → NoneFalls (latest v.seen) c → (views : List Look) → KeepsLatest x views → get_elem? views pass ≡ some v
    → (w : Look) × KeepsLatest c (set views pass w) × Stores v x c w
stores pass v x c right order rise views k at =
    let w : Look = record { seen = c ∷ v.seen; stores = true } in
    let mine = (k.seen pass v at).1 right in (
      w,
      record {
        stored = c ∷ k.stored;
        reports = (order, subst (λ l. NoneFalls (latest l) c) mine.1 rise, k.reports);
        last = refl;
        writer = pass;
        seen = λ j u there.
            ⊎_elim
            (λ (t : (j ≡ pass) × (w ≡ u)).
            subst (λ (q : Look). IsSuffix q.seen (c ∷ k.stored) × (q.stores ≡ true → (j ≡ pass) × (q.seen ≡ c ∷ k.stored))) t.1
            (([], ap (λ l. c ∷ l) mine.1), λ e. (t.0, ap (λ l. c ∷ l) mine.1)))
            (λ (t : (j ≢ pass) × (get_elem? views j ≡ some u)).
            let other = k.seen j u t.1 in
            ((c ∷ other.0.0, ap (λ l. c ∷ l) other.0.1), λ e. absurd (t.0 ((other.1 e).0 ∙ sym mine.0))))
            (at_set views pass j w u there);
      },
      (refl, refl),
    )

-- one more may watch
pub forks : (pass : ℕ) (v : Look) (x : Counts) (views : List Look) → KeepsLatest x views → get_elem? views pass ≡ some v → KeepsLatest x (set views pass v ++ watching v ∷ [])
forks pass v x views k at =
    kept x views (set views pass v ++ watching v ∷ []) k
    (λ j u there.
    ⊎_elim
    (λ (t : get_elem? (set views pass v) j ≡ some u). k.seen j u (subst (λ l. get_elem? l j ≡ some u) (set_again views pass v at) t))
    (λ (t : watching v ≡ u).
    subst (λ (q : Look). IsSuffix q.seen k.stored × (q.stores ≡ true → (j ≡ k.writer) × (q.seen ≡ k.stored))) t
    ((k.seen pass v at).0, λ e. absurd (cc (e))))
    (at_snoc (set views pass v) (watching v) u j there))
