use Rattle.std.proofs.Common.{◌∙◌, sym, rules, w64, FitsSigned, to_z-of_z}
use Rattle.store_trait.proofs.Values.{holder_is_first, no_unique_no_holder}
use Rattle.store_trait.proofs.holder_of.Goals as goal

pub returns-in_err-column : goal.returns-in_err-column
returns-in_err-column g c =
    c.from_residual.ensures
    ∙ sym (no_unique_no_holder c.args.schema.now (g.S.RowStore.contents c.args.store.now) c.args.mark (sym (rw c.table.ensures at c.unique_of.ensures) ∙ c.in_err-column.was))

pub returns : goal.returns
returns g c =
    let fits : FitsSigned w64 c.value.result = search rules in
    holder_is_first c.args.schema.now (g.S.RowStore.contents c.args.store.now) c.args.mark c.in_ok-column.column c.holder.result
    (sym (rw c.table.ensures at c.unique_of.ensures) ∙ c.in_ok-column.was)
    (rw (c.table-2.ensures, c.value.ensures) at (rw (to_z-of_z fits) at c.holder.ensures))
