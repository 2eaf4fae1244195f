use Rattle.std.proofs.Common.{◌≡◌, rules, IsPermutation, map, List, Option, Some, None}
use Rattle.std.specs.Option.{SomeIff, IfNone}
use Rattle.std.proofs.lemmas.List.Sorted.{answers_always}
use Rattle.store_trait.specs.Batch.{Entry}
use Rattle.store_trait.proofs.Sorting.{sorted_rows_rise}
use Rattle.log_tools.specs.Head.{present}
use Rattle.log_tools.proofs.describing.batch_of.Goals as goal
use Rattle.log_tools.proofs.describing.batch_of.Goals.{After-sort_unstable_by_key}

none_where : (made : Option (List Entry)) (P Q : Type 0) (v : List Entry) → SomeIff made P v → (Q → P) → IfNone made (¬ Q)
none_where None P Q v told gives = λ q. told (gives q)
none_where (Some batch) P Q v told gives = tt

moves : (c : After-sort_unstable_by_key) → IsPermutation (map present c.args.rows.now) c.sort_unstable_by_key.new.self.items
moves c = rw (← c.in_ok-entries.ensures) c.sort_unstable_by_key.ensures.permutation

pub returns-clause-rows : goal.returns-clause-rows
returns-clause-rows c =
    let same : IsPermutation (map present c.args.rows.now) c.sort_unstable_by_key.new.self.items = rw (← c.in_ok-entries.ensures) c.sort_unstable_by_key.ensures.permutation in
    search rules

pub returns-clause-twice : goal.returns-clause-twice
returns-clause-twice c =
    none_where c.from_entries.result _ _ _ c.from_entries.ensures
    (λ distinct. sorted_rows_rise (map present c.args.rows.now) c.sort_unstable_by_key.new.self.items distinct (moves (goal.at.returns-clause-twice c).After-sort_unstable_by_key)
    (c.sort_unstable_by_key.ensures.sorted (λ e. e.0) (answers_always _ (λ a r. r ≡ a.0.now.0) _ (λ f a r q k. search rules))))
