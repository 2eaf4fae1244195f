use Rattle.std.proofs.Common.{rules, ◌≡◌, ◌∙◌}
use Rattle.std.proofs.lemmas.List.Sorted.{answers_always}
use Rattle.store_trait.specs.Batch.{IsRising, in_order}
use Rattle.overlay.proofs.Order.{sorted-in_order}
use Rattle.overlay.proofs.joined.Joined.into_batch.Goals as goal
use Rattle.overlay.proofs.joined.Joined.into_batch.Goals.{After-sort_unstable_by_key}

in_place : (c : After-sort_unstable_by_key) → IsRising c.sort_unstable_by_key.new.self.items × (c.sort_unstable_by_key.new.self.items ≡ in_order c.self.inside.entries.items)
in_place c =
    sorted-in_order c.self.inside.entries.items c.sort_unstable_by_key.new.self.items c.self.invariant c.sort_unstable_by_key.ensures.permutation
    (c.sort_unstable_by_key.ensures.sorted (λ e. e.0) (answers_always _ (λ a r. r ≡ a.0.now.0) _ (λ f a r q k. search rules)))

pub from_rising-requires : goal.from_rising-requires
from_rising-requires c = (in_place c).0

pub returns : goal.returns
returns c = c.from_rising.ensures ∙ (in_place (goal.at.returns c).After-sort_unstable_by_key).1 ∙ c.self.view_is
