-- Lists of operations that are published: the load of the base, and then commits.
use Rattle.std.specs.Prelude.{◌≡◌, ℕ, ◌+◌, ◌-◌, ◌≤◌, nat_lt, Bool, true, false, Option, None, Some, List, [], ◌∷◌, ◌++◌, length}
use Rattle.std.specs.List.{count_by}
use mathlib.Core.List.{IsPrefix}
use Rattle.store_trait.specs.declared.Op.{Op}
use Rattle.store_trait.specs.declared.Op.TheVariants.{Load, Commit}
use Rattle.scheduler.specs.Gnos.{has_gno}

-- the operation is the commit of this number
abbrev pub IsCommit : Op → ℕ → Type 0
IsCommit (Load batch) n = ⊥
IsCommit (Commit gno batch) n = gno ≡ n

-- commits whose numbers rise one by one, from this one on
abbrev pub CommitsFrom : ℕ → List Op → Type 0
CommitsFrom n [] = Unit {0}
CommitsFrom n (op ∷ ops) = IsCommit op n × CommitsFrom (n + 1) ops

-- the numbers of the commits among these, in order
abbrev pub gnos_of : List Op → List ℕ
gnos_of [] = []
gnos_of (Load base ∷ ops) = gnos_of ops
gnos_of (Commit gno batch ∷ ops) = gno ∷ gnos_of ops

-- how many of these numbers are above this one
abbrev pub count_above : ℕ → List ℕ → ℕ
count_above low gnos = count_by (λ gno. nat_lt low gno) gnos

-- commits of numbers from 1 on that are none of these, each of another one
abbrev pub AreNew : List ℕ → List Op → Type 0
AreNew gone [] = Unit {0}
AreNew gone (Load base ∷ ops) = ⊥
AreNew gone (Commit gno batch ∷ ops) = (1 ≤ gno) × (has_gno gone gno ≡ false) × AreNew (gone ++ gno ∷ []) ops

-- The load of a base, and then, where the order of the log is kept, the commits from 1 on; else commits of distinct numbers
abbrev pub IsHistory : Bool → List Op → Type 0
IsHistory preserve [] = ⊥
IsHistory true (Load base ∷ commits) = CommitsFrom 1 commits
IsHistory false (Load base ∷ commits) = AreNew [] commits
IsHistory preserve (Commit gno batch ∷ ops) = ⊥

-- The operation may be appended behind these, the load first: the commit of the next number where the order of the log is kept, else of one
-- that none of them has
abbrev pub MayAppend : Bool → List Op → Op → Type 0
MayAppend true ops op = IsCommit op (length ops)
MayAppend false ops (Load base) = ⊥
MayAppend false ops (Commit gno batch) = (1 ≤ gno) × (has_gno (gnos_of ops) gno ≡ false)

-- how many commits stand behind the load
abbrev pub commits_in : List Op → ℕ
commits_in ops = length ops - 1

-- what is published is a beginning of all that ever may be, if that is known
abbrev pub IsWithin : Option (List Op) → List Op → Type 0
IsWithin None ops = Unit {0}
IsWithin (Some all) ops = IsPrefix ops all
