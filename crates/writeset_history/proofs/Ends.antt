-- Where probes end.
use Rattle.std.proofs.Common.{◌≡◌, ◌≢◌, ◌∙◌, sym, ap, refl, ℕ, ◌+◌, ◌-◌, ◌<◌, ◌≤◌, Bool, true, false, not, cond, ltb, List, length, take, drop, Option, Some, None, IsSome, ◌⊎◌, inl, inr, arith, rules}
use Rattle.std.specs.List.{position, position_or_len}
use Rattle.std.proofs.lemmas.Bool.{both_ways, not-true, cases_eq, cases_lt, ltb-false}
use Rattle.std.proofs.lemmas.List.Sums.{prefix_len_passes}
use Rattle.std.proofs.lemmas.Bool.Decides.{nat_tests}
use Rattle.std.proofs.lemmas.List.{get_or-take, get_or-drop, length-take, length-drop}
use Rattle.std.proofs.lemmas.List.Quantifiers.{position-Some}
use Rattle.writeset_history.specs.declared.slots.Slot.{Slot}
use Rattle.writeset_history.specs.Probing.{home_of}
use Rattle.writeset_history.specs.Slots.{is_live, is_end, passes, free_slot, slot_at, EndsAt, HasNoEnd}

-- of two slots a probe to one passes the other
passes_one : (home i j : ℕ) → i ≢ j → (passes home i j ≡ true) ⊎ (passes home j i ≡ true)
passes_one home i j apart = grind (arith, nat_tests)

-- a probe has one end
pub one_end : (slots : List Slot) (start digest i j : ℕ) → EndsAt slots start digest i → EndsAt slots start digest j → i ≡ j
one_end slots start digest i j at_i at_j = elim (cases_eq i j) [
  | inl e ↦ e
  | inr apart ↦ elim (passes_one (home_of digest (length slots)) i j apart) [
    | inl h ↦ absurd (both_ways _ (at_i.passed j at_j.within h) at_j.ends)
    | inr h ↦ absurd (both_ways _ (at_j.passed i at_i.within h) at_i.ends)
  ]
]

-- the digest's own slot is an end
pub own_end : (start : ℕ) (slot : Slot) → is_end start slot.digest slot ≡ true
own_end start slot = grind (arith, nat_tests)

-- a slot at which the probe does not end is not free, and has another digest
pub no_end : (start digest : ℕ) (slot : Slot) → is_end start digest slot ≡ false → (is_live start slot ≡ true) × (slot.digest ≢ digest)
no_end start digest slot h = grind (arith, nat_tests)

-- a slot at which the probe ends is free or has the digest
pub end_is : (start digest : ℕ) (slot : Slot) → is_end start digest slot ≡ true → (is_live start slot ≡ false) ⊎ (slot.digest ≡ digest)
end_is start digest slot h = grind (arith, nat_tests)

pub not_end : (start digest : ℕ) (slot : Slot) → is_live start slot ≡ true → slot.digest ≢ digest → is_end start digest slot ≡ false
not_end start digest slot live apart = grind (arith, nat_tests)

-- a probe does not pass its end
pub passes-end : (home k : ℕ) → passes home k k ≡ false
passes-end home k = grind (arith, nat_tests)

-- where there is no slot, no probe can end
pub has_slot : (slots : List Slot) (start digest : ℕ) → ¬ HasNoEnd slots start digest → 0 < length slots
has_slot slots start digest some = elim (cases_lt 0 (length slots)) [
  | inl h ↦ h
  | inr none ↦ absurd (some (λ k h. absurd (omega (arith, h, none))))
]

-- ---- how a probe is made: up from its home, and then up to it from the first slot

-- a search that finds none passes each slot
none_found : (p : Slot → Bool) (slots : List Slot) (k : ℕ) → position p slots ≡ None → k < length slots → p (slot_at slots k) ≡ false
none_found p slots k e h =
    not-true _ (prefix_len_passes (λ slot. not (p slot)) slots k free_slot (omega (arith, h, past)))
  where
    found_at : (b : Bool) (n : ℕ) → cond b (Some n) None ≡ None → b ≡ false
    found_at true n g = cc
    found_at false n g = refl

    past : length slots ≤ position_or_len p slots
    past = ltb-false (position_or_len p slots) (length slots) (found_at (ltb (position_or_len p slots) (length slots)) (position_or_len p slots) e)

-- what a probe passes that ends above its home, and one that ends below it
passed_above : (home end k : ℕ) → home ≤ end → passes home end k ≡ true → (home ≤ k) × (k < end)
passed_above home end k h p = grind (arith, nat_tests)

passed_below : (home end k : ℕ) → end < home → passes home end k ≡ true → (home ≤ k) ⊎ (k < end)
passed_below home end k h p = grind (arith, nat_tests)

module _ (slots : List Slot) (start digest home : ℕ) (is : home ≡ home_of digest (length slots)) (within : home < length slots) where
  passes_from : (end k : ℕ) → passes (home_of digest (length slots)) end k ≡ true → passes home end k ≡ true
  passes_from end k p = ap (λ n. passes n end k) is ∙ p

  -- the slots from the home on
  at_behind : (k : ℕ) → home ≤ k → slot_at (drop home slots) (k - home) ≡ slot_at slots k
  at_behind k h = get_or-drop home slots (k - home) free_slot ∙ ap (slot_at slots) (omega (arith, h))

  none_behind : position (is_end start digest) (drop home slots) ≡ None → (k : ℕ) → k < length slots → home ≤ k → is_end start digest (slot_at slots k) ≡ false
  none_behind none k h g =
      ap (is_end start digest) (sym (at_behind k g)) ∙ none_found (is_end start digest) (drop home slots) (k - home) none (omega (arith, h, g, length-drop home slots))

  pub ends_above : (steps : ℕ) → position (is_end start digest) (drop home slots) ≡ Some steps → EndsAt slots start digest (home + steps)
  ends_above steps e =
      let found = position-Some (is_end start digest) (drop home slots) steps free_slot e in
      record {
        within = omega (arith, found.0, length-drop home slots);
        ends = ap (is_end start digest) (sym (get_or-drop home slots steps free_slot)) ∙ found.1;
        passed = λ k h p.
            let between = passed_above home (home + steps) k (omega arith) (passes_from (home + steps) k p) in
            ap (is_end start digest) (sym (at_behind k between.0)) ∙ found.2 (k - home) (omega (arith, between.0, between.1));
      }

  pub ends_below : position (is_end start digest) (drop home slots) ≡ None → (place : ℕ) → position (is_end start digest) (take home slots) ≡ Some place → EndsAt slots start digest place
  ends_below none place e =
      let found = position-Some (is_end start digest) (take home slots) place free_slot e in
      let below : place < home = omega (arith, found.0, length-take home slots) in
      let same = λ (k : ℕ) (h : k < home). get_or-take home slots k free_slot h in
      record {
        within = omega (arith, below, within);
        ends = ap (is_end start digest) (sym (same place below)) ∙ found.1;
        passed = λ k h p. elim (passed_below home place k below (passes_from place k p)) [
          | inl behind ↦ none_behind none k h behind
          | inr before ↦ ap (is_end start digest) (sym (same k (omega (arith, before, below)))) ∙ found.2 k before
        ];
      }

  ends_nowhere : position (is_end start digest) (drop home slots) ≡ None → position (is_end start digest) (take home slots) ≡ None → HasNoEnd slots start digest
  ends_nowhere none none_before k h = elim (cases_lt k home) [
    | inl below ↦ ap (is_end start digest) (sym (get_or-take home slots k free_slot below))
        ∙ none_found (is_end start digest) (take home slots) k none_before (omega (arith, below, h, length-take home slots))
    | inr behind ↦ none_behind none k h behind
  ]

  pub is_some-before : ¬ HasNoEnd slots start digest → position (is_end start digest) (drop home slots) ≡ None → (o : Option ℕ) → o ≡ position (is_end start digest) (take home slots) → IsSome o
  is_some-before some none None e = absurd (some (ends_nowhere none (sym e)))
  is_some-before some none (Some place) e = search rules
