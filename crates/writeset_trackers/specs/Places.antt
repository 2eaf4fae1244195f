-- The last entries of the sessions.
use Rattle.std.specs.Prelude.{◌≡◌, ℕ, ◌-◌, ◌≤◌, List, slice_index, refl}
use Rattle.std.specs.Coded.{Coded, code_by, coded×, coded_list, coded_ℕ}
use Rattle.log_index.specs.declared.Entry.{Entry}
use Rattle.tracker_trait.specs.History.{last_of}
use Rattle.writeset_history.specs.History.{History, history_code}

-- a history, and the number of each session's last entry, session 1 first
pub record Sessions : Type 0 where
  pub history : History
  pub last : List ℕ

abbrev pub sessions_code : Coded Sessions
sessions_code = code_by (History × List ℕ) (coded× history_code (coded_list coded_ℕ)) (λ s. (s.history, s.last)) (λ p. record { history = p.0; last = p.1 }) (λ _. refl)

-- each session's place has the number of its last entry, of entries that are listed with the newest first
abbrev pub AreLast : List Entry → List ℕ → Type 0
AreLast newest_first last = (session : ℕ) → 1 ≤ session → session ≤ 256 → slice_index last (session - 1) ≡ last_of newest_first session
