use Rattle.std.proofs.Common.{◌∙◌, ap, List, ℕ, nat_eq}
use Rattle.std.specs.List.{list_any}
use Rattle.commit_stages.specs.Queues.{Queues, is_waiting}
use Rattle.commit_stages.proofs.Sessions.{found}
use Rattle.commit_stages.proofs.Stages.contains.Goals as goal

pub returns : goal.returns
returns c =
    c.contains.ensures.value
    ∙ ap (λ (l : List ℕ). list_any (λ y. nat_eq y c.args.session) l) c.deref.ensures.value
    ∙ found _ _ _ c.self.inside.sizes.items c.args.session c.self.invariant.0.in_order
    ∙ ap (λ (q : Queues). is_waiting q c.args.session) c.self.view_is
