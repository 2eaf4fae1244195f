use Rattle.std.proofs.lemmas.Result.{on_ok_weaker}
use Rattle.log_tools.proofs.dumping.rows.Goals as goal

pub returns : goal.returns
returns g c =
    on_ok_weaker c.show_rows.result (λ prints. record { described = c.in_ok-log.log.described; set = c.in_ok-log.log.set; is = c.in_ok-log.ensures.is; prints = prints }) c.show_rows.ensures
