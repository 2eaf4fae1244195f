use Rattle.std.proofs.Common.{◌≡◌, rules}
use Rattle.store_trait.proofs.Rising.{sorted_from_keys}
use Rattle.published.proofs.merge.merged.Goals as goal

pub from_rising-requires : goal.from_rising-requires
from_rising-requires c =
    let same : c.in_ok-collect.field-0.items ≡ c.loop-batch.rows.entries = search rules in
    rw same (sorted_from_keys c.loop-batch.rows.entries c.into_iter.ensures.into_iter_gives.5)
