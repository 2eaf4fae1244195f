-- How a row is held, and which two ways clash.
use Rattle.std.specs.Prelude.{◌≡◌, ℕ, Bool, true, false, if◌then◌else◌, Option, Some, None, refl}
use Rattle.std.specs.Coded.{Coded, code_by, coded_bool}
use Rattle.row_locks.specs.declared.Mode.{Mode}
use Rattle.row_locks.specs.declared.Mode.TheVariants.{Share, Exclusive}

abbrev pub is_exclusive : Mode → Bool
is_exclusive Share = false
is_exclusive Exclusive = true

abbrev pub mode_of_bool : Bool → Mode
mode_of_bool false = Share
mode_of_bool true = Exclusive

pub mode_back : (m : Mode) → mode_of_bool (is_exclusive m) ≡ m
mode_back Share = refl
mode_back Exclusive = refl

abbrev pub coded_mode : Coded Mode
coded_mode = code_by Bool coded_bool is_exclusive mode_of_bool mode_back

-- Whether a row that a session holds so, or not at all, clashes with a lock of another session: it does unless
-- both are for sharing.
abbrev pub opposes : Option Mode → Mode → Bool
opposes None mode = false
opposes (Some Share) mode = is_exclusive mode
opposes (Some Exclusive) mode = true

-- 1 for a lock that clashes with another session's of this mode, and else 0
abbrev pub weight : Option Mode → Mode → ℕ
weight held mode = if opposes held mode then 1 else 0

-- how a session holds a row that it held so, once it took it again: exclusively where one of the two is
abbrev pub stronger : Option Mode → Mode → Mode
stronger None mode = mode
stronger (Some Share) mode = mode
stronger (Some Exclusive) mode = Exclusive
