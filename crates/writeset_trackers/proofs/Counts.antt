-- How many digests the entries above a start have: as many as a history has that agrees with them.
use Rattle.std.proofs.Common.{◌≡◌, ◌∙◌, sym, ap, ℕ, ◌≤◌, Bool, true, false, ◌&&◌, ◌||◌, eqb, nat_lt, cond, List, [], ◌∷◌, length, Some, None, is_some, unwrap_or, refl, arith}
use Rattle.std.specs.Cmp.{nat_eq_equiv}
use Rattle.std.specs.List.{list_any, flat_map}
use Rattle.std.specs.FinMap.{get, len, entries, len-entries}
use Rattle.std.proofs.lemmas.Bool.{eqb-true}
use Rattle.std.proofs.lemmas.List.{length-map}
use Rattle.std.proofs.lemmas.List.Folds.{list_any-append}
use Rattle.schema.specs.declared.Table.{Table}
use Rattle.log_index.specs.declared.Entry.{Entry}
use Rattle.write_set.proofs.Rising.{keys-rising}
use Rattle.tracker_trait.specs.History.{digests_in, above, digest_count, newest_of}
use Rattle.writeset_history.specs.History.{Numbers}
use Rattle.writeset_trackers.specs.Agreement.{AreLogged, entry_number}
use Rattle.writeset_trackers.proofs.Newest.{has_digest}

-- an entry's number is one
pub some_number : (n : ℕ) → 1 ≤ n → entry_number n ≡ Some n
some_number n some = by (eqb n 0) refl
  where
    by : (b : Bool) → eqb n 0 ≡ b → cond b None (Some n) ≡ Some n
    by true e = absurd (omega (arith, some, eqb-true n 0 e))
    by false e = refl

-- and is what it was
pub number_back : (n : ℕ) → unwrap_or (entry_number n) 0 ≡ n
number_back n = by (eqb n 0) refl
  where
    by : (b : Bool) → eqb n 0 ≡ b → unwrap_or (cond b None (Some n)) 0 ≡ n
    by true e = sym (eqb-true n 0 e)
    by false e = refl

-- a digest is looked for from either side
pub has_either_way : (digest : ℕ) (digests : List ℕ) → list_any (λ d. eqb d digest) digests ≡ list_any (eqb digest) digests
has_either_way digest [] = refl
has_either_way digest (d ∷ digests) = λ i. nat_eq_equiv.symm d digest i || has_either_way digest digests i

-- the digests that have a last entry are those of the entries above the start
pub have_newest : (ts : List Table) (start : ℕ) (log : List Entry) (digest : ℕ) → AreLogged log →
    is_some (entry_number (newest_of ts start log digest)) ≡ list_any (eqb digest) (flat_map (digests_in ts) (above start log))
have_newest ts start [] digest are = refl
have_newest ts start (last ∷ older) digest are = by (nat_lt start last.sequence) (has_digest ts digest last) refl (have_newest ts start older digest are.1)
  where
    by : (is_above has : Bool) → has_digest ts digest last ≡ has →
        is_some (entry_number (newest_of ts start older digest)) ≡ list_any (eqb digest) (flat_map (digests_in ts) (above start older)) →
        is_some (entry_number (cond (is_above && has) last.sequence (newest_of ts start older digest)))
        ≡ list_any (eqb digest) (flat_map (digests_in ts) (cond is_above (last ∷ above start older) (above start older)))
    by false has e before = before
    by true has e before =
        with_digests has before
        ∙ ap (λ b. b || list_any (eqb digest) (flat_map (digests_in ts) (above start older))) (sym e ∙ has_either_way digest (digests_in ts last))
        ∙ sym (list_any-append (eqb digest) (digests_in ts last) (flat_map (digests_in ts) (above start older)))
      where
        with_digests : (has : Bool) → is_some (entry_number (newest_of ts start older digest)) ≡ list_any (eqb digest) (flat_map (digests_in ts) (above start older)) →
            is_some (entry_number (cond has last.sequence (newest_of ts start older digest))) ≡ (has || list_any (eqb digest) (flat_map (digests_in ts) (above start older)))
        with_digests true h = ap is_some (some_number last.sequence (omega (arith, are.0.number)))
        with_digests false h = h

-- the count of digests is the size of a history that has just those with a last entry
pub count-is : (ts : List Table) (start : ℕ) (log : List Entry) (numbers : Numbers) → AreLogged log →
    ((digest : ℕ) → get numbers digest ≡ entry_number (newest_of ts start log digest)) → len numbers ≡ digest_count ts start log
count-is ts start log numbers are at =
    len-entries numbers ∙ sym (length-map (entries numbers) (λ (e : ℕ × ℕ). e.0))
    ∙ ap length (keys-rising numbers (flat_map (digests_in ts) (above start log)) (λ digest. ap is_some (at digest) ∙ have_newest ts start log digest are))
