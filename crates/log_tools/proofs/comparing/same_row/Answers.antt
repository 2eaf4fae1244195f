use Rattle.std.proofs.Common.{◌≡◌, sym, subst}
use Rattle.std.specs.Bool.{Decides}
use Rattle.executor.proofs.Comparing.{option_Decides, columns_Decides}
use Rattle.log_tools.proofs.comparing.same_row.Goals as goal

pub returns : goal.returns
returns c =
    subst (λ b. Decides b (c.args.one.now ≡ c.args.other.now)) (sym c.eq.ensures) (option_Decides columns_Decides c.args.one.now c.args.other.now)
