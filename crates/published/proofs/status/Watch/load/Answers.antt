use Rattle.std.proofs.Common.{ap}
use Rattle.published.specs.Status.{Reported}
use Rattle.published.proofs.Words.{finds_no_less}
use Rattle.published.proofs.status.Watch.load.Goals as goal

pub returns-clause-rises : goal.returns-clause-rises
returns-clause-rises g c = finds_no_less c.args.self.now.stored _ _ c.look.result _ (ap (λ (r : Reported). r.stored) c.self.view_is) c.look.ensures.finds
