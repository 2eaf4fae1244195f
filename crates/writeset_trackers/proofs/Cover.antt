-- The parent that the write sets give covers the whole log.
use Rattle.std.proofs.Common.{◌≡◌, ◌∙◌, sym, ap, ℕ, ◌<◌, ◌≤◌, Bool, true, false, ◌||◌, eqb, nat_lt, cond, List, [], ◌∷◌, map, min, reverse, inl, inr, refl, arith}
use Rattle.std.specs.List.{AllByRecursion, list_any}
use Rattle.std.proofs.lemmas.Bool.{or_cases, cases_Bool, ltb-true, ltb-false, eqb-true}
use Rattle.schema.specs.declared.Table.{Table}
use Rattle.schema.specs.Rows.{Touched, conflicts}
use Rattle.schema.specs.Covering.{Covers}
use Rattle.schema.proofs.Lists.{AllByRecursion-map, AllByRecursion-weaker}
use Rattle.log_index.specs.declared.Entry.{Entry}
use Rattle.log_index.specs.declared.Footprint.{Footprint}
use Rattle.log_index.specs.Footprint.{touched}
use Rattle.log_index.specs.Log.{entry_place}
use Rattle.write_set.specs.Digest.{digests_of}
use Rattle.tracker_trait.specs.History.{start_of, newest_of}
use Rattle.tracker_trait.specs.Parent.{greatest, last_touch, writeset_parent}
use Rattle.tracker_trait.specs.Law.{IsOfTables}
use Rattle.writeset_trackers.specs.Agreement.{AreLogged}
use Rattle.writeset_trackers.proofs.Lists.{joined, of_reverse}
use Rattle.writeset_trackers.proofs.Starts.{related-before}
use Rattle.writeset_trackers.proofs.Newest.{has_digest, newest-at}
use Rattle.writeset_trackers.proofs.Counts.{has_either_way}
use Rattle.writeset_trackers.proofs.Shared.{shared_digest}

-- the greatest of some numbers and of one more is none of them less
pub least-greatest : (least : ℕ) (ns : List ℕ) → least ≤ greatest least ns
least-greatest least [] = omega arith
least-greatest least (n ∷ ns) = omega (arith, least-greatest least ns)

pub one-greatest : (f : ℕ → ℕ) (least digest : ℕ) (digests : List ℕ) → list_any (eqb digest) digests ≡ true → f digest ≤ greatest least (map f digests)
one-greatest f least digest [] e = absurd cc
one-greatest f least digest (d ∷ digests) e = elim (or_cases (eqb digest d) (list_any (eqb digest) digests) e) [
  | inl here ↦ let same : f digest ≡ f d = ap f (eqb-true digest d here) in omega (arith, same)
  | inr later ↦ omega (arith, one-greatest f least digest digests later)
]

refer_to_none : (log : List Entry) → AreLogged log → AllByRecursion (λ e. e.footprint.flags.fk ≡ false → e.footprint.refs ≡ []) log
refer_to_none [] are = tt
refer_to_none (last ∷ older) are = (are.0.refs, refer_to_none older are.1)

module _ (ts : List Table) (limit : ℕ) (log : List Entry) (t : Footprint) (w : List ℕ) (is : IsOfTables ts t w) (no_fk : t.flags.fk ≡ false) (no_missing : t.flags.missing_keys ≡ false) where
  abbrev start : ℕ
  start = start_of ts limit log

  abbrev last : ℕ
  last = last_touch ts limit log (digests_of ts t)

  -- an entry above the start that conflicts is the last at most that has one of the digests
  above_start : (e : Entry) → start < e.sequence → (e.footprint.flags.fk ≡ false → e.footprint.refs ≡ []) → (e.footprint.flags.fk ≡ true → e.sequence ≤ start) →
      ((digest : ℕ) → start < e.sequence → has_digest ts digest e ≡ true → e.sequence ≤ newest_of ts start log digest) → conflicts (touched e.footprint) (touched t) ≡ true → e.sequence ≤ last
  above_start e above none related newest conflict =
      let unrelated : e.footprint.flags.fk ≡ false = elim (cases_Bool e.footprint.flags.fk) [ inl fk ↦ absurd (omega (arith, related fk, above)) | inr apart ↦ apart ] in
      let no_keyless = sym (ap (λ (f : Footprint). f.flags.missing_keys) is.flags) ∙ no_missing in
      let shared = shared_digest ts e.footprint t (none unrelated) (is.refs no_fk) is.known no_keyless conflict in
      let has : has_digest ts shared.digest e ≡ true = has_either_way shared.digest (digests_of ts e.footprint) ∙ shared.first in
      omega (
        arith,
        newest shared.digest above has,
        one-greatest (newest_of ts start log) start shared.digest (digests_of ts t) shared.second,
      )

  at_most_last : (e : Entry) → (e.footprint.flags.fk ≡ false → e.footprint.refs ≡ []) →
      ((e.footprint.flags.fk ≡ true → e.sequence ≤ start) × ((digest : ℕ) → start < e.sequence → has_digest ts digest e ≡ true → e.sequence ≤ newest_of ts start log digest)) →
      conflicts (touched e.footprint) (touched t) ≡ true → e.sequence ≤ last
  at_most_last e none h conflict = elim (cases_Bool (nat_lt start e.sequence)) [
    | inl above ↦ above_start e (ltb-true start e.sequence above) none h.0 h.1 conflict
    | inr below ↦ omega (arith, ltb-false start e.sequence below, least-greatest start (map (newest_of ts start log) (digests_of ts t)))
  ]

  pub last-covers : AreLogged log → AllByRecursion (λ e. conflicts (touched e.footprint) (touched t) ≡ true → e.sequence ≤ last) log
  last-covers are =
      joined (λ (e : Entry). e.footprint.flags.fk ≡ false → e.footprint.refs ≡ [])
      (λ e. (e.footprint.flags.fk ≡ true → e.sequence ≤ start) × ((digest : ℕ) → start < e.sequence → has_digest ts digest e ≡ true → e.sequence ≤ newest_of ts start log digest))
      (λ e. conflicts (touched e.footprint) (touched t) ≡ true → e.sequence ≤ last) at_most_last log (refer_to_none log are)
      (joined (λ (e : Entry). e.footprint.flags.fk ≡ true → e.sequence ≤ start) (λ e. (digest : ℕ) → start < e.sequence → has_digest ts digest e ≡ true → e.sequence ≤ newest_of ts start log digest)
      (λ e. (e.footprint.flags.fk ≡ true → e.sequence ≤ start) × ((digest : ℕ) → start < e.sequence → has_digest ts digest e ≡ true → e.sequence ≤ newest_of ts start log digest))
      (λ e a b. (a, b)) log (related-before ts limit log are) (newest-at ts start log are))

-- ---- over the log as it lies

-- the lesser of two parents that cover, and any later one
both_cover : (past : List (ℕ × Touched)) (rows : Touched) (a b : ℕ) → Covers past rows a → Covers past rows b → Covers past rows (min a b)
both_cover past rows a b =
    joined (λ (p : ℕ × Touched). conflicts p.1 rows ≡ true → p.0 ≤ a) (λ p. conflicts p.1 rows ≡ true → p.0 ≤ b) (λ p. conflicts p.1 rows ≡ true → p.0 ≤ min a b)
    (λ p first second conflict. omega (arith, first conflict, second conflict)) past

pub later_covers : (past : List (ℕ × Touched)) (rows : Touched) (a b : ℕ) → a ≤ b → Covers past rows a → Covers past rows b
later_covers past rows a b h =
    AllByRecursion-weaker (λ (p : ℕ × Touched). conflicts p.1 rows ≡ true → p.0 ≤ a) (λ p. conflicts p.1 rows ≡ true → p.0 ≤ b) (λ p covers conflict. omega (arith, covers conflict, h)) past

pub writeset_covers : (ts : List Table) (limit : ℕ) (log : List Entry) (t : Footprint) (w : List ℕ) (order : ℕ) → AreLogged (reverse log) → IsOfTables ts t w →
    Covers (map entry_place log) (touched t) order → Covers (map entry_place log) (touched t) (writeset_parent ts limit (reverse log) t order)
writeset_covers ts limit log t w order are is covers = by t.flags.fk t.flags.missing_keys refl refl
  where
    by : (fk missing : Bool) → t.flags.fk ≡ fk → t.flags.missing_keys ≡ missing →
        Covers (map entry_place log) (touched t) (cond (fk || missing) order (min order (last_touch ts limit (reverse log) (digests_of ts t))))
    by true missing f m = covers
    by false true f m = covers
    by false false f m =
        both_cover (map entry_place log) (touched t) order (last_touch ts limit (reverse log) (digests_of ts t)) covers
        (AllByRecursion-map entry_place (λ p. conflicts p.1 (touched t) ≡ true → p.0 ≤ last_touch ts limit (reverse log) (digests_of ts t)) log
        (of_reverse (λ e. conflicts (touched e.footprint) (touched t) ≡ true → e.sequence ≤ last_touch ts limit (reverse log) (digests_of ts t)) log
        (last-covers ts limit (reverse log) t w is f m are)))
