use Rattle.std.proofs.Common.{◌≡◌, ◌∙◌, ap, eqb, ◌++◌, map, filter}
use Rattle.std.specs.List.{dedup}
use Rattle.std.proofs.lemmas.List.Filters.{dedup_is}
use Rattle.std.proofs.lemmas.Map.Keys.{IsStrictlyIncreasing-dedup}
use Rattle.write_set.specs.Digest.{rising, digest_of, mark_digest, is_keyed}
use Rattle.write_set.proofs.Rising.{sorted_once}
use Rattle.write_set.proofs.digests.Goals as goal

left : (c : goal.After-dedup) → c.dedup.new.self.items ≡ dedup eqb c.sort_unstable.new.self.items
left c = dedup_is eqb c.sort_unstable.new.self.items c.dedup.new.self.items c.dedup.ensures.filtered

pub invariant_of-result : goal.invariant_of-result
invariant_of-result c = rw (left c) (IsStrictlyIncreasing-dedup c.sort_unstable.new.self.items c.sort_unstable.ensures.sorted)

pub returns : goal.returns
returns c =
    left c ∙ sorted_once c.in_ok-digests.digests.items c.sort_unstable.new.self.items c.sort_unstable.ensures.permutation c.sort_unstable.ensures.sorted
    ∙ ap rising c.in_ok-digests.ensures
    ∙ (λ i. rising (map digest_of (filter (is_keyed c.args.schema.now) (c.list.ensures i)) ++ map mark_digest (c.list-2.ensures i)))
