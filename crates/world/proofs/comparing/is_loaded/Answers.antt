use Rattle.std.proofs.Common.{refl, sym, subst, Bool, ◌≡◌}
use Rattle.std.specs.Bool.{Decides}
use Rattle.record_codec.proofs.Comparing.{along}
use Rattle.executor.proofs.Comparing.{option_Decides, columns_Decides}
use Rattle.world.proofs.comparing.is_loaded.Goals as goal

pub returns : goal.returns
returns c =
    along c.eq.result c.loaded_row.ensures refl
    (subst (λ (b : Bool). Decides b (c.loaded_row.result ≡ c.args.entry.now.1)) (sym c.eq.ensures) (option_Decides columns_Decides c.loaded_row.result c.args.entry.now.1))
