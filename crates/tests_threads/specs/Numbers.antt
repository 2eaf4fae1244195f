-- Numbers of commits that are appended one behind another: from 1 on, or, where the order of the log is not kept, down to 1.
use Rattle.std.specs.Prelude.{◌≡◌, ℕ, ◌+◌, ◌-◌, ◌≤◌, Bool, true, false, List, length}
use Rattle.store_trait.specs.declared.Op.{Op}
use Rattle.scheduler.specs.Gnos.{has_gno}
use Rattle.published.specs.History.{gnos_of}

-- behind these operations the commit of this number is next: all below it are there, or it is not, and none below it
abbrev pub IsNext : Bool → List Op → ℕ → Type 0
IsNext true ops next = length ops ≡ next
IsNext false ops next = (gno : ℕ) → gno ≤ next → has_gno (gnos_of ops) gno ≡ false

-- the number behind this one
abbrev pub behind : Bool → ℕ → ℕ
behind true next = next + 1
behind false next = next - 1
