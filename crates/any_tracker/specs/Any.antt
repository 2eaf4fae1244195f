-- A tracker of any kind: what it was made for, and what it has seen.
use Rattle.std.specs.Prelude.{ℕ, if◌then◌else◌, List, [], codes, Option, Some, None}
use Rattle.std.specs.Str.{bytes_eq}
use Rattle.std.proofs.Common.{reverse}
use Rattle.schema.specs.declared.Table.{Table}
use Rattle.log_index.specs.declared.Entry.{Entry}
use Rattle.tracker_trait.specs.Kind.{Kind}
use Rattle.tracker_trait.specs.declared.Tracking.{Tracking}
use Rattle.tracker_trait.specs.declared.Tracking.TheVariants as modes
use Rattle.commit_order_tracker.specs.Tracker.{by_order}
use Rattle.writeset_trackers.specs.Agreement.{IsHistoryOf}
use Rattle.writeset_trackers.specs.Places.{AreLast}
use Rattle.any_tracker.specs.declared.AnyTracker.{AnyTracker}
use Rattle.any_tracker.specs.declared.AnyTracker.TheVariants as trackers

-- what a tracker is made for that this mode and this limit ask for; the commit order keeps no history
abbrev pub kind_for : Tracking → ℕ → Kind
kind_for modes.CommitOrder limit = by_order
kind_for modes.Writeset limit = record { mode = modes.Writeset; limit = limit }
kind_for modes.WritesetSession limit = record { mode = modes.WritesetSession; limit = limit }

-- what the tracker was made for
abbrev pub kind_of : AnyTracker → Kind
kind_of (trackers.CommitOrder tracker) = by_order
kind_of (trackers.Writeset history) = record { mode = modes.Writeset; limit = history.limit }
kind_of (trackers.WritesetSession tracker) = record { mode = modes.WritesetSession; limit = tracker.history.limit }

-- the tracker has seen just this log; that of the commit order looks at none
abbrev pub agrees : AnyTracker → List Table → List Entry → Type 0
agrees (trackers.CommitOrder tracker) ts log = Unit {0}
agrees (trackers.Writeset history) ts log = IsHistoryOf ts (reverse log) history
agrees (trackers.WritesetSession tracker) ts log = IsHistoryOf ts (reverse log) tracker.history × AreLast (reverse log) tracker.last

-- a new tracker, which has seen no log
abbrev pub IsNewTracker : {T : Type 0} → (T → List Table → List Entry → Type 0) → T → Type 0
IsNewTracker agrees tracker = (ts : List Table) → agrees tracker ts []

-- the mode of this name
abbrev pub mode_named : List ℕ → Option Tracking
mode_named name =
    if bytes_eq name (codes "commit-order") then Some modes.CommitOrder
    else if bytes_eq name (codes "writeset") then Some modes.Writeset
    else if bytes_eq name (codes "writeset-session") then Some modes.WritesetSession
    else None
