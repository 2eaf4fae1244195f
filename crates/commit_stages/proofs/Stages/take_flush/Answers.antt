use Rattle.std.proofs.Common.{◌∙◌, ap}
use Rattle.commit_stages.specs.Queues.{flush_taken}
use Rattle.commit_stages.specs.Line.{queues_in}
use Rattle.commit_stages.proofs.Parts.{flush_moves}
use Rattle.commit_stages.proofs.Sizes.{sizes_are, size_room, flushed_parts}
use Rattle.commit_stages.proofs.Stages.take_flush.Goals as goal

pub keep_size-requires : goal.keep_size-requires
keep_size-requires c =
    let a = c.self.inside in
    size_room a.line.items a.sync_from a.flush_from _ a.sizes.items _ _ _ c.self.invariant.0 c.self.invariant.1 (c.len.ensures ∙ a.line.ok.0) a.sizes.ok.0

pub invariant_of-self : goal.invariant_of-self
invariant_of-self c =
    let a = c.self.inside in
    flushed_parts a.line.items a.sync_from a.flush_from _ a.sizes.items _ c.self.invariant
    _ (c.len-self-inside.ensures ∙ a.line.ok.0) _ (sizes_are a.line.items a.flush_from _ (c.len.ensures ∙ a.line.ok.0) a.sizes.items _ c.keep_size.ensures.sizes) _ c.keep_size.ensures.room

pub returns-clause-queues : goal.returns-clause-queues
returns-clause-queues c =
    let a = c.self.inside in
    (λ i. queues_in a.line.items a.sync_from ((c.len-self-inside.ensures ∙ a.line.ok.0) i)
    (sizes_are a.line.items a.flush_from _ (c.len.ensures ∙ a.line.ok.0) a.sizes.items _ c.keep_size.ensures.sizes i))
    ∙ flush_moves _ _ _ _ c.self.invariant.0.in_order
    ∙ ap flush_taken c.self.view_is
