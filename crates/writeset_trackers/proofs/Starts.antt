-- Where the history of a log starts: at its last entry at most, and not before an entry that is foreign-key related.
use Rattle.std.proofs.Common.{◌≡◌, ℕ, ◌+◌, ◌≤◌, Bool, true, false, ◌||◌, nat_lt, cond, List, [], ◌∷◌, length, arith}
use Rattle.std.specs.List.{AllByRecursion}
use Rattle.schema.specs.declared.Table.{Table}
use Rattle.schema.proofs.Lists.{AllByRecursion-weaker}
use Rattle.log_index.specs.declared.Entry.{Entry}
use Rattle.tracker_trait.specs.History.{digests_in, digest_count, start_of}
use Rattle.writeset_trackers.specs.Agreement.{AreLogged}
use Rattle.writeset_trackers.proofs.Lists.{either_within, within_either}

-- whether the history starts at the last entry
abbrev pub starts_at : List Table → ℕ → Entry → List Entry → Bool
starts_at ts limit last older = last.footprint.flags.fk || nat_lt limit (digest_count ts (start_of ts limit older) older + length (digests_in ts last))

pub start-within : (ts : List Table) (limit : ℕ) (log : List Entry) → AreLogged log → start_of ts limit log ≤ length log
start-within ts limit [] are = omega arith
start-within ts limit (last ∷ older) are =
    either_within (starts_at ts limit last older) last.sequence (start_of ts limit older) (length (last ∷ older)) (omega (arith, are.0.number)) (omega (arith, start-within ts limit older are.1))

-- the entry starts at its own number, where it is foreign-key related
at_its_own : (fk over : Bool) (own start : ℕ) → fk ≡ true → own ≤ cond (fk || over) own start
at_its_own true over own start e = omega arith
at_its_own false over own start e = absurd cc

pub related-before : (ts : List Table) (limit : ℕ) (log : List Entry) → AreLogged log → AllByRecursion (λ e. e.footprint.flags.fk ≡ true → e.sequence ≤ start_of ts limit log) log
related-before ts limit [] are = tt
related-before ts limit (last ∷ older) are = (
  λ related. at_its_own last.footprint.flags.fk (nat_lt limit (digest_count ts (start_of ts limit older) older + length (digests_in ts last))) last.sequence (start_of ts limit older) related,
  AllByRecursion-weaker (λ (e : Entry). e.footprint.flags.fk ≡ true → e.sequence ≤ start_of ts limit older) (λ e. e.footprint.flags.fk ≡ true → e.sequence ≤ start_of ts limit (last ∷ older))
      (λ e before related. within_either (starts_at ts limit last older) last.sequence (start_of ts limit older) e.sequence
      (omega (arith, before related, start-within ts limit older are.1, are.0.number)) (before related))
      older (related-before ts limit older are.1),
)
