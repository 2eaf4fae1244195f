-- What slots that hold a history answer, and how they go on to hold the next one.
use Rattle.std.proofs.Common.{◌≡◌, ◌≢◌, ◌∙◌, sym, ap, subst, ℕ, ◌+◌, ◌<◌, ◌≤◌, Bool, true, false, not, cond, List, length, get_or, set, replicate, Some, None, unwrap_or, is_some, inl, inr, nat_cmp}
use Rattle.std.proofs.Common.{arith, Option}
use Rattle.std.specs.Int.{from_bool}
use Rattle.std.specs.Cmp.{nat_cmp_total}
use Rattle.std.specs.FinMap.{empty, get, insert, len, len-empty, len-insert}
use Rattle.std.proofs.lemmas.Bool.{both_ways, cases_Bool, cases_eq, cases_lt, le-ltb, lt-ltb, ltb-false}
use Rattle.std.proofs.lemmas.List.{length-set, get_or-set_same, get_or-set_other, get_or_past, get_or_read, get_or-replicate, length-replicate}
use Rattle.writeset_history.specs.declared.slots.Slot.{Slot}
use Rattle.writeset_history.specs.History.{Numbers, History, number_of, emptied, IsUpTo, IsHistory}
use Rattle.writeset_history.specs.Probing.{home_of}
use Rattle.writeset_history.specs.Slots.{is_live, is_end, passes, free_slot, slot_at, numbers_in, history_in, EndsAt, HasNoEnd, IsSound}
use Rattle.writeset_history.proofs.Ends.{one_end, own_end, no_end, end_is, not_end, passes-end}
use Rattle.writeset_history.proofs.Held.{HasNone, AreApart, get-none, get-held, numbers_in-free, numbers_in-set, numbers_in-above, len-full}

-- a read of a slot
slot_read : (slots : List Slot) (k : ℕ) (slot : Slot) → k < length slots → slot ≡ get_or slots k slot → slot ≡ slot_at slots k
slot_read slots k slot h e = get_or_read slots k slot h e free_slot

module _ (slots : List Slot) (start limit count : ℕ) (sound : IsSound slots start limit count) where
  apart : AreApart slots start
  apart i k at_i at_k e =
      one_end slots start (slot_at slots k).digest i k (subst (λ d. EndsAt slots start d i) e (sound.found i at_i)) (sound.found k at_k)

  -- where a probe ends at a slot that is not free, the slot has the digest's number
  held : (digest place : ℕ) → EndsAt slots start digest place → is_live start (slot_at slots place) ≡ true → get (numbers_in start slots) digest ≡ Some (slot_at slots place).sequence
  held digest place at live = elim (end_is start digest (slot_at slots place) at.ends) [
    | inl free ↦ absurd (both_ways _ free live)
    | inr own ↦ ap (λ d. get (numbers_in start slots) d) (sym own) ∙ get-held slots start place live (λ k h e. apart k place h live e)
  ]

  -- where it ends at a free slot, no slot has the digest
  none-free : (digest place : ℕ) → EndsAt slots start digest place → is_live start (slot_at slots place) ≡ false → HasNone slots start digest
  none-free digest place at free k live e =
      let one : k ≡ place = one_end slots start digest k place (subst (λ d. EndsAt slots start d k) e (sound.found k live)) at in
      both_ways _ (ap (λ n. is_live start (slot_at slots n)) one ∙ free) live

  missing : (digest place : ℕ) → EndsAt slots start digest place → is_live start (slot_at slots place) ≡ false → get (numbers_in start slots) digest ≡ None
  missing digest place at free = get-none slots start digest (none-free digest place at free)

  -- each probe ends
  pub has_end : (digest : ℕ) → HasNoEnd slots start digest → ⊥
  has_end digest none = omega (arith, sound.within, sound.some_free, sound.counted, len-full slots start (λ k h. (no_end start digest (slot_at slots k) (none k h)).0) apart)

  -- a start that is raised to the newest number frees all slots
  all_free : (sequence : ℕ) → IsUpTo (history_in slots start limit) sequence → (k : ℕ) → is_live sequence (slot_at slots k) ≡ false
  all_free sequence newest k = le-ltb sequence (slot_at slots k).sequence (elim (cases_Bool (is_live start (slot_at slots k))) [
    | inl live ↦ omega (arith, newest.numbers (slot_at slots k).digest, ap (λ o. unwrap_or o 0) (held (slot_at slots k).digest k (sound.found k live) live))
    | inr free ↦ omega (arith, newest.start, ltb-false start (slot_at slots k).sequence free)
  ])

-- ---- what callers see of the slots

module _ (slots : List Slot) (start limit count : ℕ) (sound : IsSound slots start limit count) (now : History) (is : history_in slots start limit ≡ now) where
  pub valid : IsHistory now
  valid = subst IsHistory is (record { within = omega (arith, sound.within, sound.counted); above = numbers_in-above slots start })

  -- what the slot says at which the probe for a digest ends
  pub number_at : (digest place : ℕ) (slot : Slot) (live : Bool) → EndsAt slots start digest place → slot ≡ get_or slots place slot → live ≡ is_live start slot →
      cond live slot.sequence 0 ≡ number_of now digest
  number_at digest place slot live at read e =
      let here : slot ≡ slot_at slots place = slot_read slots place slot at.within read in
      let found : live ≡ is_live start (slot_at slots place) = e ∙ ap (is_live start) here in
      ap (λ (s : Slot). cond live s.sequence 0) here ∙ by_slot live found ∙ ap (λ (h : History). number_of h digest) is
    where
      by_slot : (b : Bool) → b ≡ is_live start (slot_at slots place) → cond b (slot_at slots place).sequence 0 ≡ number_of (history_in slots start limit) digest
      by_slot true live_at = sym (ap (λ o. unwrap_or o 0) (held slots start limit count sound digest place at (sym live_at)))
      by_slot false free_at = sym (ap (λ o. unwrap_or o 0) (missing slots start limit count sound digest place at (sym free_at)))

  module _ (sequence : ℕ) (newest : IsUpTo now sequence) where
    freed : (k : ℕ) → is_live sequence (slot_at slots k) ≡ false
    freed = all_free slots start limit count sound sequence (subst (λ (h : History). IsUpTo h sequence) (sym is) newest)

    pub emptied_at : history_in slots sequence limit ≡ emptied now sequence
    emptied_at =
        ap (λ (m : Numbers). record { limit = limit; start = sequence; numbers = m }) (numbers_in-free slots sequence freed)
        ∙ ap (λ (h : History). emptied h sequence) is

    pub emptied-sound : IsSound slots sequence limit 0
    emptied-sound = record {
      within = omega arith;
      some_free = sound.some_free;
      counted = sym (ap len (numbers_in-free slots sequence freed) ∙ len-empty nat_cmp ℕ);
      found = λ k live. absurd (both_ways _ (freed k) live);
    }

  -- a slot at which the probe for a digest ends is written with the digest and a number above the start
  module _ (digest place sequence : ℕ) (at : EndsAt slots start digest place) (above : now.start < sequence) where
    new : Slot
    new = record { digest = digest; sequence = sequence }

    new-live : is_live start new ≡ true
    unfolding new
    new-live = lt-ltb start sequence (subst (λ (h : History). h.start < sequence) (sym is) above)

    others : (k : ℕ) → k ≢ place → is_live start (slot_at slots k) ≡ true → (slot_at slots k).digest ≢ digest
    others k apart_k live e = apart_k (one_end slots start digest k place (subst (λ d. EndsAt slots start d k) e (sound.found k live)) at)

    numbers-entered : numbers_in start (set slots place new) ≡ insert (numbers_in start slots) digest sequence
    unfolding new
    numbers-entered = numbers_in-set slots start place new at.within new-live (end_is start digest (slot_at slots place) at.ends) others

    pub entered_one : history_in (set slots place (record { digest = digest; sequence = sequence })) start limit ≡ record now { numbers = insert now.numbers digest sequence }
    unfolding new
    entered_one =
        ap (λ (m : Numbers). record { limit = limit; start = start; numbers = m }) numbers-entered
        ∙ ap (λ (h : History). record h { numbers = insert h.numbers digest sequence }) is

    -- the written slot, and the others, which stay
    at_same : slot_at (set slots place new) place ≡ new
    at_same = get_or-set_same slots place new free_slot at.within

    at_other : (k : ℕ) → k ≢ place → slot_at (set slots place new) k ≡ slot_at slots k
    at_other k apart_k = get_or-set_other slots place k new free_slot apart_k

    -- each probe passes as before
    passes_as : (d end k : ℕ) → passes (home_of d (length (set slots place new))) end k ≡ true → passes (home_of d (length slots)) end k ≡ true
    passes_as d end k h = ap (λ n. passes (home_of d n) end k) (sym (length-set slots place new)) ∙ h

    -- the probe for the digest ends where it did
    ends-same : EndsAt (set slots place new) start digest place
    unfolding new
    ends-same = record {
      within = omega (arith, at.within, length-set slots place new);
      ends = ap (is_end start digest) at_same ∙ own_end start new;
      passed = λ k h p. elim (cases_eq k place) [
        | inl e ↦ absurd (both_ways _ (passes-end (home_of digest (length slots)) place) (ap (λ n. passes (home_of digest (length slots)) place n) (sym e) ∙ passes_as digest place k p))
        | inr apart_k ↦ ap (is_end start digest) (at_other k apart_k) ∙ at.passed k (omega (arith, h, length-set slots place new)) (passes_as digest place k p)
      ];
    }

    -- and so does one for a digest that another slot has, since the written slot is not free now and has another digest
    ends-other : (k : ℕ) → k ≢ place → is_live start (slot_at slots k) ≡ true → EndsAt (set slots place new) start (slot_at slots k).digest k
    unfolding new
    ends-other k apart_k live =
        let d = (slot_at slots k).digest in
        let was : EndsAt slots start d k = sound.found k live in
        record {
          within = omega (arith, was.within, length-set slots place new);
          ends = ap (is_end start d) (at_other k apart_k) ∙ was.ends;
          passed = λ j h p. elim (cases_eq j place) [
            | inl e ↦ ap (λ n. is_end start d (slot_at (set slots place new) n)) e ∙ ap (is_end start d) at_same
                ∙ not_end start d new new-live (λ own. others k apart_k live (sym own))
            | inr apart_j ↦ ap (is_end start d) (at_other j apart_j) ∙ was.passed j (omega (arith, h, length-set slots place new)) (passes_as d k j p)
          ];
        }

    entered-len : (o : Option ℕ) → get (numbers_in start slots) digest ≡ o → len (insert (numbers_in start slots) digest sequence)
        ≡ cond (is_some o) (len (numbers_in start slots)) (len (numbers_in start slots) + 1)
    entered-len o e =
        len-insert nat_cmp_total (numbers_in start slots) digest sequence
        ∙ ap (λ o. cond (is_some o) (len (numbers_in start slots)) (len (numbers_in start slots) + 1)) e

    entered-count : (live : Bool) → live ≡ is_live start (slot_at slots place) → count + from_bool (not live) ≡ len (insert (numbers_in start slots) digest sequence)
    entered-count true live = omega (arith, sound.counted, entered-len _ (held slots start limit count sound digest place at (sym live)))
    entered-count false free = omega (arith, sound.counted, entered-len _ (missing slots start limit count sound digest place at (sym free)))

    pub entered-sound : (slot : Slot) (live : Bool) → slot ≡ get_or slots place slot → live ≡ is_live start slot → len now.numbers < now.limit →
        IsSound (set slots place (record { digest = digest; sequence = sequence })) start limit (count + from_bool (not live))
    unfolding new
    entered-sound slot live read e room = record {
      within = within_limit live;
      some_free = omega (arith, sound.some_free, length-set slots place new);
      counted = entered-count live (e ∙ ap (is_live start) (slot_read slots place slot at.within read)) ∙ ap len (sym numbers-entered);
      found = λ k live_k. elim (cases_eq k place) [
        | inl same ↦ subst (λ n. EndsAt (set slots place new) start (slot_at (set slots place new) n).digest n) (sym same)
            (subst (λ (slot : Slot). EndsAt (set slots place new) start slot.digest place) (sym at_same) ends-same)
        | inr apart_k ↦ subst (λ (slot : Slot). EndsAt (set slots place new) start slot.digest k) (sym (at_other k apart_k))
            (ends-other k apart_k (ap (is_live start) (sym (at_other k apart_k)) ∙ live_k))
      ];
    }
      where
        room_in : count < limit
        room_in = omega (arith, sound.counted, subst (λ (h : History). len h.numbers < h.limit) (sym is) room)

        within_limit : (b : Bool) → count + from_bool (not b) ≤ limit
        within_limit true = omega (arith, room_in)
        within_limit false = omega (arith, room_in)

-- ---- new slots, which are all free

free_at : (n k : ℕ) → slot_at (replicate n free_slot) k ≡ free_slot
free_at n k = elim (cases_lt k n) [
  | inl h ↦ get_or-replicate n k free_slot free_slot h
  | inr past ↦ get_or_past (replicate n free_slot) k free_slot (omega (arith, past, length-replicate {A = Slot} n free_slot))
]

new_free : (n k : ℕ) → is_live 0 (slot_at (replicate n free_slot) k) ≡ false
new_free n k = ap (is_live 0) (free_at n k) ∙ le-ltb 0 0 (omega arith)

pub new_empty : (n : ℕ) → numbers_in 0 (replicate n free_slot) ≡ empty
new_empty n = numbers_in-free (replicate n free_slot) 0 (new_free n)

pub new_sound : (n limit : ℕ) → limit < n → IsSound (replicate n free_slot) 0 limit 0
new_sound n limit few = record {
  within = omega arith;
  some_free = omega (arith, few, length-replicate {A = Slot} n free_slot);
  counted = sym (ap len (new_empty n) ∙ len-empty nat_cmp ℕ);
  found = λ k live. absurd (both_ways _ (new_free n k) live);
}
