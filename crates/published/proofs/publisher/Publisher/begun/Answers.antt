use Rattle.published.proofs.Steps.{tied_begun}
use Rattle.published.proofs.publisher.Publisher.begun.Goals as goal

pub invariant_of-result : goal.invariant_of-result
invariant_of-result g c =
    rw (c.requires.shown.0, c.requires.none)
    (tied_begun g.J.Naming.preserve g.J.Naming.known _ c.args.notice c.new.result.gnos c.requires.load.0 c.requires.load.1 c.requires.known c.requires.shown.1 c.new.ensures)
