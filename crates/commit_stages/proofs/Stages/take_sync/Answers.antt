use Rattle.std.proofs.Common.{◌∙◌, ap, ◌+◌}
use Rattle.commit_stages.specs.Queues.{oldest_size, sync_taken}
use Rattle.commit_stages.specs.Line.{queues_in}
use Rattle.commit_stages.proofs.Parts.{sync_moves}
use Rattle.commit_stages.proofs.Sizes.{first_size, oldest_within, synced_parts}
use Rattle.commit_stages.proofs.Stages.take_sync.Goals as goal

pub invariant_of-self : goal.invariant_of-self
invariant_of-self c =
    let a = c.self.inside in
    synced_parts a.line.items a.sync_from a.flush_from _ a.sizes.items _ c.self.invariant
    _ (c.unwrap_or-count.ensures ∙ first_size _ _ _ c.pop_front.ensures.items c.pop_front.ensures.rest) _ c.pop_front.ensures.rest _ c.pop_front.ensures.capacity

pub returns-clause-queues : goal.returns-clause-queues
returns-clause-queues c =
    let a = c.self.inside in
    (λ i. queues_in a.line.items (a.sync_from + (c.unwrap_or-count.ensures ∙ first_size _ _ _ c.pop_front.ensures.items c.pop_front.ensures.rest) i) a.flush_from (c.pop_front.ensures.rest i))
    ∙ sync_moves a.line.items a.sync_from a.flush_from a.sizes.items c.self.invariant.0.in_order (oldest_within _ _ c.self.invariant.1.are)
    ∙ ap sync_taken c.self.view_is

pub returns-clause-count : goal.returns-clause-count
returns-clause-count c = c.unwrap_or-count.ensures ∙ first_size _ _ _ c.pop_front.ensures.items c.pop_front.ensures.rest ∙ ap oldest_size c.self.view_is
