use Rattle.store_trait.proofs.Values.{fits_of_tables}
use Rattle.source_core.proofs.New.{is_start}
use Rattle.source_core.proofs.making.Opening.of.Goals as goal

pub snapshot-requires : goal.snapshot-requires
snapshot-requires g c = fits_of_tables _ _ c.requires

pub invariant_of-result : goal.invariant_of-result
invariant_of-result g c =
    let of_rows = c.in_ok-base.ensures in is_start _ _ _ _ _ of_rows.rows of_rows.loads c.requires c.in_ok-index.ensures c.in_ok-children.ensures
