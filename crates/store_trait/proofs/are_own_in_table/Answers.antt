use Rattle.std.proofs.Common.{◌≡◌, ◌∙◌, sym, subst, ℕ, Some}
use Rattle.std.proofs.lemmas.Option.{same_Some}
use Rattle.schema.specs.Schema.{unique_of}
use Rattle.store_trait.specs.Fits.{OwnInColumn}
use Rattle.store_trait.proofs.are_own_in_table.Goals as goal

pub returns-in-Some : goal.returns-in-Some
returns-in-Some g c =
    let db = g.S.RowStore.contents c.args.store.now in
    let is : unique_of c.args.schema.now c.args.table ≡ Some c.in-Some.column = sym c.unique_of.ensures ∙ c.in-Some.is in (
      λ yes column unique. subst (λ (n : ℕ). OwnInColumn db c.args.table n) (same_Some c.in-Some.column column (sym is ∙ unique)) (c.are_own_in_column.ensures.0 yes),
      λ own. c.are_own_in_column.ensures.1 (own c.in-Some.column is),
    )
