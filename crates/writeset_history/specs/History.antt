-- Which sequence number touched each digest last.
use Rattle.std.specs.Prelude.{◌≡◌, ℕ, ◌<◌, ◌≤◌, List, fold, Some, unwrap_or, refl}
use Rattle.std.specs.Ordering.{nat_cmp}
use Rattle.std.specs.Coded.{Coded, code_by, coded×, coded_ℕ}
use Rattle.std.specs.FinMap.{FinMap, code, empty, get, insert, len}

-- the number that touched each of some digests last
abbrev pub Numbers : Type 0
Numbers = FinMap nat_cmp ℕ

pub record History : Type 0 where
  -- the greatest number of digests that it may have
  pub limit : ℕ
  -- what was touched up to this number is not known
  pub start : ℕ
  pub numbers : Numbers

abbrev pub history_code : Coded History
history_code =
    code_by (ℕ × (ℕ × Numbers)) (coded× coded_ℕ (coded× coded_ℕ (code coded_ℕ coded_ℕ))) (λ h. (h.limit, (h.start, h.numbers)))
    (λ p. record { limit = p.0; start = p.1.0; numbers = p.1.1 }) (λ _. refl)

-- no digest is known, and the first number is still to come
abbrev pub new_history : ℕ → History
new_history limit = record { limit = limit; start = 0; numbers = empty }

-- the number that touched the digest last, 0 where none is known
abbrev pub number_of : History → ℕ → ℕ
number_of h digest = unwrap_or (get h.numbers digest) 0

-- each of these digests is touched by this number last
abbrev pub entered : History → List ℕ → ℕ → History
entered h digests sequence = record h { numbers = fold (λ numbers digest. insert numbers digest sequence) h.numbers digests }

-- nothing is known of what was touched up to this number
abbrev pub emptied : History → ℕ → History
emptied h sequence = record h { start = sequence; numbers = empty }

-- nothing in the history is later than this number
pub record IsUpTo (h : History) (sequence : ℕ) : Type 0 where
  pub start : h.start ≤ sequence
  pub numbers : (digest : ℕ) → number_of h digest ≤ sequence

-- it is within its limit, and each of its numbers is above its start
pub record IsHistory (h : History) : Type 0 where
  pub within : len h.numbers ≤ h.limit
  pub above : (digest number : ℕ) → get h.numbers digest ≡ Some number → h.start < number
