use Rattle.std.proofs.Common.{◌∙◌, ap}
use Rattle.overlay.specs.Joining.{joined}
use Rattle.overlay.proofs.Joining.{in_order-rising}
use Rattle.overlay.proofs.Pending.batch.Goals as goal

pub returns : goal.returns
returns c =
    c.into_batch.ensures ∙ c.in_ok-add.ensures.ok ∙ ap (λ es. joined es c.args.self.now) c.new-joined.ensures
    ∙ in_order-rising c.args.self.now.left c.in_ok-add.ensures.left
