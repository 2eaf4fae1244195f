-- A history that agrees with a log goes on to agree with the longer one.
use Rattle.std.proofs.Common.{◌≡◌, ◌∙◌, sym, ap, subst, ℕ, ◌+◌, ◌<◌, ◌≤◌, Bool, true, false, ◌&&◌, ◌||◌, eqb, nat_lt, cond, List, [], ◌∷◌, length, Some, unwrap_or, nat_cmp, refl, arith}
use Rattle.std.specs.List.{list_any}
use Rattle.std.specs.FinMap.{len, get-empty}
use Rattle.std.proofs.lemmas.Bool.{lt-ltb}
use Rattle.schema.specs.declared.Table.{Table}
use Rattle.log_index.specs.declared.Entry.{Entry}
use Rattle.tracker_trait.specs.History.{digests_in, digest_count, start_of, newest_of}
use Rattle.writeset_history.specs.History.{History, new_history, entered, emptied, IsUpTo}
use Rattle.writeset_history.proofs.Entered.{enters_each}
use Rattle.writeset_trackers.specs.Agreement.{IsLogged, entry_number, IsHistoryOf}
use Rattle.writeset_trackers.specs.Noted.{empties, noted}
use Rattle.writeset_trackers.proofs.Starts.{starts_at, start-within}
use Rattle.writeset_trackers.proofs.Newest.{has_digest, newest-within, newest-past}
use Rattle.writeset_trackers.proofs.Counts.{some_number, number_back, count-is}

-- a new history is that of no entries
pub of_none : (ts : List Table) (limit : ℕ) → IsHistoryOf ts [] (new_history limit)
of_none ts limit = record { logged = tt; start = refl; numbers = λ digest. get-empty nat_cmp digest }

-- nothing in a history is later than the last entry
pub up_to : (ts : List Table) (log : List Entry) (h : History) (n : ℕ) → IsHistoryOf ts log h → length log ≤ n → IsUpTo h n
up_to ts log h n is long = record {
  start = omega (arith, is.start, start-within ts h.limit log is.logged, long);
  numbers = λ digest. subst (λ k. k ≤ n) (sym (ap (λ o. unwrap_or o 0) (is.numbers digest) ∙ number_back (newest_of ts h.start log digest)))
      (omega (arith, newest-within ts h.start log digest is.logged, long));
}

pub starts_before : (ts : List Table) (log : List Entry) (h : History) (n : ℕ) → IsHistoryOf ts log h → length log < n → h.start < n
starts_before ts log h n is long = omega (arith, is.start, start-within ts h.limit log is.logged, long)

module _ (ts : List Table) (older : List Entry) (h : History) (last : Entry) (digests : List ℕ) (is : IsHistoryOf ts older h) (logged : IsLogged (length older + 1) last)
    (set : digests ≡ digests_in ts last) where
  -- the history is emptied just where that of the log starts at the last entry
  same_test : empties h last.footprint digests ≡ starts_at ts h.limit last older
  same_test = λ i. last.footprint.flags.fk || nat_lt h.limit (count i + length (set i))
    where
      count : len h.numbers ≡ digest_count ts (start_of ts h.limit older) older
      count = count-is ts h.start older h.numbers is.logged is.numbers ∙ ap (λ start. digest_count ts start older) is.start

  if_emptied : empties h last.footprint digests ≡ true → IsHistoryOf ts (last ∷ older) (emptied h last.sequence)
  if_emptied e = record {
    logged = (logged, is.logged);
    start = sym (ap (λ b. cond b last.sequence (start_of ts h.limit older)) (sym same_test ∙ e));
    numbers = λ digest. get-empty nat_cmp digest ∙ sym (ap entry_number (newest-past ts last.sequence (last ∷ older) digest (logged, is.logged) (omega (arith, logged.number))));
  }

  -- the last entry is above the start
  is_above : nat_lt h.start last.sequence ≡ true
  is_above = lt-ltb h.start last.sequence (omega (arith, starts_before ts older h (length older + 1) is (omega arith), logged.number))

  chosen : (has : Bool) (number : ℕ) → cond has (Some last.sequence) (entry_number number) ≡ entry_number (cond has last.sequence number)
  chosen true number = sym (some_number last.sequence (omega (arith, logged.number)))
  chosen false number = refl

  if_entered : empties h last.footprint digests ≡ false → IsHistoryOf ts (last ∷ older) (entered h digests last.sequence)
  if_entered e = record {
    logged = (logged, is.logged);
    start = is.start ∙ sym (ap (λ b. cond b last.sequence (start_of ts h.limit older)) (sym same_test ∙ e));
    numbers = λ digest.
        enters_each h digests last.sequence digest
        ∙ (λ i. cond (list_any (λ d. eqb d digest) (set i)) (Some last.sequence) (is.numbers digest i))
        ∙ chosen (has_digest ts digest last) (newest_of ts h.start older digest)
        ∙ ap (λ b. entry_number (cond (b && has_digest ts digest last) last.sequence (newest_of ts h.start older digest))) (sym is_above);
  }

  pub goes_on : IsHistoryOf ts (last ∷ older) (noted h last.footprint digests last.sequence)
  goes_on = by (empties h last.footprint digests) refl
    where
      by : (b : Bool) → empties h last.footprint digests ≡ b → IsHistoryOf ts (last ∷ older) (cond b (emptied h last.sequence) (entered h digests last.sequence))
      by true e = if_emptied e
      by false e = if_entered e
