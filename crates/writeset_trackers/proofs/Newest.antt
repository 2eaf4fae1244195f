-- The last entry above a start that has a digest.
use Rattle.std.proofs.Common.{◌≡◌, ◌∙◌, ap, ℕ, ◌<◌, ◌≤◌, Bool, true, false, ◌&&◌, eqb, nat_lt, cond, List, [], ◌∷◌, length, refl, arith}
use Rattle.std.specs.List.{AllByRecursion, list_any}
use Rattle.std.proofs.lemmas.Bool.{le-ltb, lt-ltb}
use Rattle.schema.specs.declared.Table.{Table}
use Rattle.schema.proofs.Lists.{AllByRecursion-weaker}
use Rattle.log_index.specs.declared.Entry.{Entry}
use Rattle.tracker_trait.specs.History.{digests_in, newest_of}
use Rattle.writeset_trackers.specs.Agreement.{AreLogged}
use Rattle.writeset_trackers.proofs.Lists.{either_within, within_either}

-- whether the entry has the digest
abbrev pub has_digest : List Table → ℕ → Entry → Bool
has_digest ts digest entry = list_any (λ d. eqb d digest) (digests_in ts entry)

pub newest-within : (ts : List Table) (start : ℕ) (log : List Entry) (digest : ℕ) → AreLogged log → newest_of ts start log digest ≤ length log
newest-within ts start [] digest are = omega arith
newest-within ts start (last ∷ older) digest are =
    either_within (nat_lt start last.sequence && has_digest ts digest last) last.sequence (newest_of ts start older digest) (length (last ∷ older))
    (omega (arith, are.0.number)) (omega (arith, newest-within ts start older digest are.1))

-- none is above the last
pub newest-past : (ts : List Table) (start : ℕ) (log : List Entry) (digest : ℕ) → AreLogged log → length log ≤ start → newest_of ts start log digest ≡ 0
newest-past ts start [] digest are past = refl
newest-past ts start (last ∷ older) digest are past =
    ap (λ b. cond (b && has_digest ts digest last) last.sequence (newest_of ts start older digest)) (le-ltb start last.sequence (omega (arith, are.0.number, past)))
    ∙ newest-past ts start older digest are.1 (omega (arith, past))

reached : (above has : Bool) (own older : ℕ) → above ≡ true → has ≡ true → own ≤ cond (above && has) own older
reached true true own older a h = omega arith
reached true false own older a h = absurd cc
reached false has own older a h = absurd cc

-- an entry above the start that has the digest is the last such one at most
pub newest-at : (ts : List Table) (start : ℕ) (log : List Entry) → AreLogged log →
    AllByRecursion (λ e. (digest : ℕ) → start < e.sequence → has_digest ts digest e ≡ true → e.sequence ≤ newest_of ts start log digest) log
newest-at ts start [] are = tt
newest-at ts start (last ∷ older) are = (
  λ digest above has. reached (nat_lt start last.sequence) (has_digest ts digest last) last.sequence (newest_of ts start older digest) (lt-ltb start last.sequence above) has,
  AllByRecursion-weaker (λ (e : Entry). (digest : ℕ) → start < e.sequence → has_digest ts digest e ≡ true → e.sequence ≤ newest_of ts start older digest)
      (λ e. (digest : ℕ) → start < e.sequence → has_digest ts digest e ≡ true → e.sequence ≤ newest_of ts start (last ∷ older) digest)
      (λ e before digest above has. within_either (nat_lt start last.sequence && has_digest ts digest last) last.sequence (newest_of ts start older digest) e.sequence
      (omega (arith, before digest above has, newest-within ts start older digest are.1, are.0.number)) (before digest above has))
      older (newest-at ts start older are.1),
)
