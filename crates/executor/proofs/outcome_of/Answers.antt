use Rattle.std.proofs.Common.{sym, subst, List}
use Rattle.std.specs.List.Sorted.{IsSorted}
use Rattle.schema.specs.declared.RowId.{RowId}
use Rattle.schema.specs.RowId.{row_cmp, row_total}
use Rattle.record_codec.proofs.Searching.{rising_is_sorted}
use Rattle.executor.proofs.outcome_of.Goals as goal

pub touches_exactly-requires-clause-refs : goal.touches_exactly-requires-clause-refs
touches_exactly-requires-clause-refs c =
    subst (λ (l : List RowId). IsSorted row_cmp l) (sym c.list.ensures.value) (rising_is_sorted row_total c.args.rec.now.refs c.list.ensures.valid.rising)

pub touches_exactly-requires-clause-marks : goal.touches_exactly-requires-clause-marks
touches_exactly-requires-clause-marks c =
    subst (λ (l : List RowId). IsSorted row_cmp l) (sym c.list-2.ensures.value) (rising_is_sorted row_total c.args.rec.now.marks c.list-2.ensures.valid.rising)
