-- What one thread sees of a store that it publishes to.
use Rattle.std.specs.Prelude.{◌≡◌, ℕ, ◌+◌, ◌≤◌, ◌||◌, Bool, true, false, List, [], ◌∷◌, length}
use Rattle.store_trait.specs.Batch.{Entry}
use Rattle.store_trait.specs.declared.Op.{Op}
use Rattle.store_trait.specs.declared.Op.TheVariants.{Load, Commit}
use Rattle.scheduler.specs.Gnos.{has_gno, first_gnos}
use Rattle.published.specs.History.{gnos_of}
pub use Rattle.published.specs.History.{IsCommit}

-- a store, and what is known of the commits in it
pub record Shown (S : Type 0) : Type 0 where
  pub store : S
  -- whether they come in the order of the log
  pub preserve : Bool
  -- the store shows the commits from 1 to this one
  pub upto : ℕ
  -- and so many of greater numbers
  pub more : ℕ
  -- the numbers of those shown and those that wait, in rising order
  pub gnos : List ℕ
  -- the batches that are appended behind those shown, and not yet shown
  pub waiting : List (List Entry)

-- The operation may be appended: the commit of the next number where the order of the log is kept, else of one that was not appended
abbrev pub MayFollow : {S : Type 0} → Bool → Shown S → Op → Type 0
MayFollow true shown op = IsCommit op (shown.upto + length shown.waiting + 1)
MayFollow false shown (Load base) = ⊥
MayFollow false shown (Commit gno batch) = (1 ≤ gno) × (has_gno shown.gnos gno ≡ false)

-- the numbers are the old ones and that of the commit
abbrev pub HasAdded : List ℕ → Op → List ℕ → Type 0
HasAdded old op new = (gno : ℕ) → has_gno new gno ≡ (has_gno old gno || has_gno (gnos_of (op ∷ [])) gno)

-- There is a number for each commit that is shown or waits, and in the order of the log these are those from 1 on
pub record IsCounted (preserve : Bool) (upto more : ℕ) (gnos : List ℕ) (waiting : List (List Entry)) : Type 0 where
  pub number : length gnos ≡ upto + more + length waiting
  pub first : preserve ≡ true → (gno : ℕ) → has_gno gnos gno ≡ has_gno (first_gnos (length gnos)) gno
  pub none : preserve ≡ true → more ≡ 0
