use Rattle.std.proofs.Common.{◌≡◌, ◌∙◌, ap, sym, subst, List, length, take, rules}
use Rattle.std.specs.List.{AllByRecursion}
use Rattle.std.specs.List.Sorted.{IsNonDecreasingBy}
use Rattle.std.proofs.lemmas.List.{with_items_is}
use Rattle.std.proofs.lemmas.List.Sorted.{IsNonDecreasingBy-from_sort_by_key}
use Rattle.gtid_set.specs.declared.intervals.Interval.{Interval}
use Rattle.gtid_set.specs.Numbers.{IsInterval, AreThoseOf}
use Rattle.gtid_set.proofs.Joining.{each_sorted, those_of_sorted}
use Rattle.gtid_set.proofs.intervals.settle.Goals as goal

pub join-kept-requires-clause-each : goal.join-kept-requires-clause-each
join-kept-requires-clause-each c =
    let each = each_sorted c.args.intervals.now.items c.sort_unstable_by_key.new.self.items c.sort_unstable_by_key.ensures.permutation c.requires in
    subst (λ (l : List Interval). AllByRecursion IsInterval l) (sym c.deref_mut.ensures.value) each

pub join-kept-requires-clause-sorted : goal.join-kept-requires-clause-sorted
join-kept-requires-clause-sorted c =
    let sorted = IsNonDecreasingBy-from_sort_by_key (λ (i : Interval). i.first) c.sort_unstable_by_key.new.self.items c.sort_unstable_by_key.ensures.sorted (λ a r q k. search rules) in
    subst (λ (l : List Interval). IsNonDecreasingBy (λ i. i.first) l) (sym c.deref_mut.ensures.value) sorted

pub returns : goal.returns
returns c =
    let long : length c.join-kept.new.intervals ≡ c.sort_unstable_by_key.new.self.len = c.join-kept.auto.intervals ∙ c.deref_mut.ensures.len in
    let left = c.truncate.ensures.items ∙ ap (take c.join-kept.result) (with_items_is c.sort_unstable_by_key.new.self c.join-kept.new.intervals long) in
    let joined = those_of_sorted c.args.intervals.now.items c.sort_unstable_by_key.new.self.items (take c.join-kept.result c.join-kept.new.intervals) c.sort_unstable_by_key.ensures.permutation
    (subst (λ (l : List Interval). AreThoseOf l (take c.join-kept.result c.join-kept.new.intervals)) c.deref_mut.ensures.value c.join-kept.ensures) in
    subst (λ (l : List Interval). AreThoseOf c.args.intervals.now.items l) (sym left) joined
