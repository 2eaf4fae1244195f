use Rattle.std.proofs.Common.{◌≡◌, ◌∙◌, ap, None}
use Rattle.std.specs.FinMap.{get, get-empty}
use Rattle.schema.specs.RowId.{row_cmp}
use Rattle.row_locks.proofs.tally.Tally.new.Goals as goal

pub invariant_of-result : goal.invariant_of-result
invariant_of-result c row count h _ =
    let none : get c.new.result.map row ≡ None = ap (λ m. get m row) c.new.ensures ∙ get-empty row_cmp row in
    cc
