use Rattle.std.proofs.Common.{◌∙◌, ap}
use Rattle.relay.specs.Relay.{Relay}
use Rattle.relay.proofs.Parts.{none_gone}
use Rattle.relay.proofs.Relay.into_parts.Goals as goal

pub returns-clause-accepted : goal.returns-clause-accepted
returns-clause-accepted c =
    let was = c.self.inside in
    none_gone was.gone was.kept.items (ap (λ (r : Relay). r.gone) c.self.view_is ∙ c.requires) ∙ ap (λ (r : Relay). r.accepted) c.self.view_is
