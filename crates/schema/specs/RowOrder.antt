-- The laws that `Ord` and `PartialOrd` ask of the order of row ids.
use Rattle.std.proofs.Common.{◌≡◌, ◌==◌, ◌&&◌, Some, refl, rules, int_eq, is_eq}
use Rattle.std.specs.Ordering.{as_partial_cmp}
use Rattle.std.specs.Cmp.{IsPartialOrder, partial_order_from_total, partial_order_from_own_ties}
use Rattle.std.specs.Cmp.Rules.{comparing}
use Rattle.schema.specs.declared.RowId.{RowId}
use Rattle.schema.specs.RowId.{row_cmp, row_total}

-- two row ids compare as equal where both parts are equal
pub alike : (a b : RowId) → ((a.table == b.table) && int_eq a.key b.key) ≡ is_eq (row_cmp a b)
alike = search (comparing, rules)

pub answered : (a b : RowId) → as_partial_cmp row_cmp a b ≡ Some (row_cmp a b)
answered a b = refl

pub ordered : IsPartialOrder (λ (a b : RowId). (a.table == b.table) && int_eq a.key b.key) (as_partial_cmp row_cmp)
ordered = partial_order_from_own_ties (partial_order_from_total row_total) alike
