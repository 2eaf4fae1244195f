use Rattle.std.proofs.Common.{◌≡◌, rules, IsPermutation, map, List, Option, Some, None}
use Rattle.std.specs.Option.{SomeIff, IfSome, IfNone}
use Rattle.std.proofs.lemmas.List.Sorted.{answers_always}
use Rattle.store_trait.specs.Batch.{Entry}
use Rattle.store_trait.proofs.Sorting.{sorted_rows_rise, rising_rows_differ}
use Rattle.mtr.specs.Pair.{present}
use Rattle.mtr.proofs.pair.base_of.Goals as goal
use Rattle.mtr.proofs.pair.base_of.Goals.{After-sort_unstable_by_key}

some_where : (made : Option (List Entry)) (P Q : Type 0) (v : List Entry) → SomeIff made P v → (P → Q) → IfSome made (λ _. Q)
some_where None P Q v told gives = tt
some_where (Some batch) P Q v told gives = gives told.0

none_where : (made : Option (List Entry)) (P Q : Type 0) (v : List Entry) → SomeIff made P v → (Q → P) → IfNone made (¬ Q)
none_where None P Q v told gives = λ q. told (gives q)
none_where (Some batch) P Q v told gives = tt

moves : (c : After-sort_unstable_by_key) → IsPermutation (map present c.args.rows.now) c.sort_unstable_by_key.new.self.items
moves c = rw (← c.in_ok-entries.ensures) c.sort_unstable_by_key.ensures.permutation

pub returns-clause-rows : goal.returns-clause-rows
returns-clause-rows c =
    let same : IsPermutation (map present c.args.rows.now) c.sort_unstable_by_key.new.self.items = rw (← c.in_ok-entries.ensures) c.sort_unstable_by_key.ensures.permutation in
    search rules

pub returns-clause-once : goal.returns-clause-once
returns-clause-once c =
    some_where c.from_entries.result _ _ _ c.from_entries.ensures
    (rising_rows_differ (map present c.args.rows.now) c.sort_unstable_by_key.new.self.items (moves (goal.at.returns-clause-once c).After-sort_unstable_by_key))

pub returns-clause-twice : goal.returns-clause-twice
returns-clause-twice c =
    none_where c.from_entries.result _ _ _ c.from_entries.ensures
    (λ distinct. sorted_rows_rise (map present c.args.rows.now) c.sort_unstable_by_key.new.self.items distinct (moves (goal.at.returns-clause-twice c).After-sort_unstable_by_key)
    (c.sort_unstable_by_key.ensures.sorted (λ e. e.0) (answers_always _ (λ a r. r ≡ a.0.now.0) _ (λ f a r q k. search rules))))
