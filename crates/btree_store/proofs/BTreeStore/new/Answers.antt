use Rattle.std.proofs.Common.{◌∙◌, sym, ap}
use Rattle.std.specs.FinMap.{get, get-empty}
use Rattle.std.proofs.lemmas.Option.{none-some}
use Rattle.schema.specs.RowId.{row_cmp}
use Rattle.rows.specs.Database.{Database}
use Rattle.btree_store.proofs.Maps.{contents-empty}
use Rattle.btree_store.proofs.BTreeStore.new.Goals as goal

pub invariant_of-result : goal.invariant_of-result
invariant_of-result c = λ id columns there.
    absurd (none-some columns (sym (ap (λ (db : Database). get db id) (contents-empty c.new.result c.new.ensures.empty) ∙ get-empty row_cmp id) ∙ there))
