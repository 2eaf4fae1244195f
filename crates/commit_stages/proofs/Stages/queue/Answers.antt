use Rattle.std.proofs.Common.{rules, ◌∙◌, ap, arith}
use Rattle.commit_stages.specs.Queues.{Queues, is_waiting}
use Rattle.commit_stages.proofs.Sessions.{has_room, queued_line}
use Rattle.commit_stages.proofs.Stages.queue.Goals as goal

pub unwrap-requires : goal.unwrap-requires
unwrap-requires c =
    let room = has_room _ _ _ _ c.self.inside.sizes.items c.args.session c.self.invariant.0 (c.requires.least, c.requires.greatest)
    (ap (λ (q : Queues). is_waiting q c.args.session) c.self.view_is ∙ c.requires.free) in
    c.push.ensures.succeeds (omega (arith, room, c.self.inside.line.ok.0))

pub invariant_of-self : goal.invariant_of-self
invariant_of-self c = (
  queued_line _ _ _ _ c.self.inside.sizes.items c.args.session c.self.invariant.0 (c.requires.least, c.requires.greatest)
      (ap (λ (q : Queues). is_waiting q c.args.session) c.self.view_is ∙ c.requires.free) _ _ (search rules) (search rules),
  c.self.invariant.1,
)
