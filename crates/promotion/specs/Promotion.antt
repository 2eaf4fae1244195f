-- Whether a replica may become a source, and why not.
use Rattle.std.specs.Prelude.{◌≡◌, ℕ, List, length, IfSome}
use Rattle.store_trait.specs.Fits.{Fits}
use Rattle.replica_core.specs.Replica.{Replica, low_water, rows_at}
use Rattle.promotion.specs.declared.fault.PromotionFault.{PromotionFault}
use Rattle.promotion.specs.declared.fault.PromotionFault.TheVariants.{OwnName, Gaps, Misfit, Memory}

-- all up to the last commit are committed
abbrev pub HasNoGaps : Replica → Type 0
HasNoGaps r = low_water r ≡ length r.commits

-- the schema allows the rows behind the commits
abbrev pub FitsBehind : Replica → Type 0
FitsBehind r = IfSome (rows_at r (length r.commits)) (Fits r.tables)

-- it may become a source of this identifier
pub record IsPromotable (r : Replica) (identifier : List ℕ) : Type 0 where
  pub other_name : ¬ (identifier ≡ r.source)
  pub no_gaps : HasNoGaps r
  pub fits : FitsBehind r

-- The first cause that refuses it. Memory runs out only in the place of a promotion.
abbrev pub IsRefused : Replica → List ℕ → PromotionFault → Type 0
IsRefused r identifier OwnName = identifier ≡ r.source
IsRefused r identifier Gaps = ¬ (identifier ≡ r.source) × ¬ HasNoGaps r
IsRefused r identifier Misfit = ¬ (identifier ≡ r.source) × HasNoGaps r × ¬ FitsBehind r
IsRefused r identifier Memory = IsPromotable r identifier
