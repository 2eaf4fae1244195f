-- Operations that are appended to the rows that readers see.
use Rattle.std.specs.Prelude.{◌≡◌, ℕ, ◌+◌, ◌≤◌, ◌||◌, Bool, true, false, List, ◌++◌, length, map, take}
use Rattle.store_trait.specs.declared.Op.{Op}
use Rattle.store_trait.specs.Operation.{batch_of}
use Rattle.scheduler.specs.Gnos.{has_gno}
use Rattle.published.specs.History.{CommitsFrom, AreNew, gnos_of}
use Rattle.published.specs.Plain.{Shown}

-- the operations may be appended, one after another: in the order of the log the next commits, else commits that were not appended
abbrev pub MayAppendAll : {R : Type 0} → Bool → Shown R → List Op → Type 0
MayAppendAll true shown ops = CommitsFrom (shown.upto + length shown.waiting + 1) ops
MayAppendAll false shown ops = AreNew shown.gnos ops

-- the operations were appended
pub record AppendsAll {R : Type 0} (old new : Shown R) (ops : List Op) : Type 0 where
  pub leaves : new ≡ record old { gnos = new.gnos; waiting = old.waiting ++ map batch_of ops }
  pub gnos : (gno : ℕ) → has_gno new.gnos gno ≡ (has_gno old.gnos gno || has_gno (gnos_of ops) gno)

-- some of them, from the first on, were appended
pub record Appends {R : Type 0} (old new : Shown R) (ops : List Op) : Type 0 where
  pub count : ℕ
  pub within : count ≤ length ops
  pub all : AppendsAll old new (take count ops)
