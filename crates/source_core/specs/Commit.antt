-- What a commit makes of the places of the sessions, and of their locks.
use Rattle.std.specs.Prelude.{ℕ, ◌-◌, Bool, if◌then◌else◌, List, [], ◌∷◌, map, slice_set, Option, None}
use Rattle.std.specs.Option.{option_map}
use Rattle.schema.specs.declared.Table.{Table}
use Rattle.rows.specs.Database.{Database}
use Rattle.overlay.specs.Pending.{Pending}
use Rattle.overlay.specs.Joining.{EachFollows, AllApart}
use Rattle.row_locks.specs.Locks.{AllLocks, released_all}
use Rattle.source_core.specs.declared.transaction.Transaction.{Transaction}
use Rattle.source_core.specs.Calls.{is_flushed_by}
use Rattle.source_core.specs.Core.{open_view, placed, pending_in}

-- whether the transaction in a place is a record up to this number
abbrev pub has_ended : ℕ → Option Transaction → Bool
has_ended last t = is_flushed_by last (option_map open_view t)

-- the places without the transactions that are records up to this number
abbrev pub without_ended : ℕ → List (Option Transaction) → List (Option Transaction)
without_ended last places = map (λ t. if has_ended last t then None else t) places

-- the places once those of these sessions are cleared, one after another
abbrev pub cleared : List ℕ → List (Option Transaction) → List (Option Transaction)
cleared [] places = places
cleared (session ∷ sessions) places = cleared sessions (slice_set places (session - 1) None)

-- the locks once these sessions gave theirs up, one after another
abbrev pub all_released : List ℕ → AllLocks → AllLocks
all_released [] locks = locks
all_released (session ∷ sessions) locks = all_released sessions (released_all locks session)

-- what the transactions of these sessions have pending, in order
abbrev pub pendings_of : List (Option Transaction) → List ℕ → List Pending
pendings_of places sessions = map (λ session. pending_in (placed places (session - 1))) sessions

-- over some database the transactions of these sessions each apply, and each is apart from those before it
pub record AreApart (places : List (Option Transaction)) (sessions : List ℕ) : Type 0 where
  pub tables : List Table
  pub rows : Database
  pub each : EachFollows tables rows (pendings_of places sessions)
  pub apart : AllApart tables rows (pendings_of places sessions)
