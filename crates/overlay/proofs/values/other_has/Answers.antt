use Rattle.std.proofs.Common.{◌≡◌, ◌∙◌, sym, ap, true, not, ◌&&◌}
use Rattle.schema.specs.RowId.{same_row}
use Rattle.schema.proofs.RowMaps.{row_eq-same_row}
use Rattle.overlay.specs.Values.{left_has}
use Rattle.overlay.proofs.values.other_has.Goals as goal

pub returns-then-ne : goal.returns-then-ne
returns-then-ne c =
    let id = c.args.id in
    let other : not (same_row id c.args.row) ≡ true = ap not (sym (row_eq-same_row id c.args.row)) ∙ sym c.ne.ensures ∙ c.if-ne.true in
    c.has_mark.ensures id.key ∙ (λ i. sym other i && left_has c.args.schema.now c.args.mark (id, sym c.in-Some.is i))
