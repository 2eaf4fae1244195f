use Rattle.std.proofs.Common.{◌∙◌, subst, List}
use Rattle.std.specs.FinMap.{empty}
use Rattle.store_trait.specs.Batch.{Entry, put_batch}
use Rattle.row_index.specs.Counts.{CountsChildren}
use Rattle.row_index.proofs.Counts.{loaded_counts, few_come}
use Rattle.row_index.proofs.children.Children.of.Goals as goal

pub take_up-requires-clause-fits : goal.take_up-requires-clause-fits
take_up-requires-clause-fits c row = few_come c.args.schema.now c.entries-entries.result.now c.reserve.new.self.map row (c.in_ok-reserve.ensures.map ∙ c.new-children.ensures)

pub returns : goal.returns
returns c =
    subst (λ (l : List Entry). CountsChildren c.args.schema.now (put_batch l empty) c.take_up.new.self.map) c.entries-entries.ensures.value
    (loaded_counts c.args.schema.now c.entries-entries.result.now c.reserve.new.self.map c.take_up.new.self.map c.entries-entries.ensures.rising
    (c.in_ok-reserve.ensures.map ∙ c.new-children.ensures) c.take_up.ensures)
