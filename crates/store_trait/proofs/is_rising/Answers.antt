use Rattle.std.proofs.Common.{is_lt, rules, tests}
use Rattle.std.proofs.lemmas.List.Sorted.{answers_always}
use Rattle.schema.specs.RowId.{row_cmp}
use Rattle.store_trait.proofs.Rising.{rising_answer}
use Rattle.store_trait.proofs.is_rising.Goals as goal

pub returns : goal.returns
returns c =
    rising_answer c.args.entries.now c.is_sorted_by.result
    (c.is_sorted_by.ensures.cases (λ x y. is_lt (row_cmp x.0 y.0)) (answers_always _ _ _ (λ f a r f' k. search (rules, tests))))
