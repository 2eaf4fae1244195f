use Rattle.std.proofs.Common.{◌∙◌, ap, subst, rules, List, length, ◌<◌, ◌≤◌, Ok, Err}
use Rattle.std.specs.List.Sorted.{IsBinarySearchResult}
use Rattle.std.proofs.lemmas.List.Sorted.{answers_always}
use Rattle.schema.specs.RowId.{row_cmp}
use Rattle.executor.specs.Held.{Holder, held}
use Rattle.executor.proofs.Searched.{held_at, not_held}
use Rattle.executor.proofs.holders.Holders.holder.Goals as goal

pub returns-in-Ok : goal.returns-in-Ok
returns-in-Ok c =
    let by_key = c.in-Ok.ensures.position (λ (holder : Holder). holder.0) (answers_always _ _ _ (λ f a r g called. search rules)) in
    let same = c.deref.ensures.value in
    ap (λ (holder : Holder). holder.1) c.index.ensures
    ∙ held_at c.self.inside.list.items c.args.mark c.in-Ok.place c.index.result.now c.self.invariant
    (subst (λ (l : List Holder). c.in-Ok.place < length l) same c.in-Ok.ensures.bound)
    (subst (λ (l : List Holder). IsBinarySearchResult (λ (holder : Holder). row_cmp holder.0 c.args.mark) l (Ok c.in-Ok.place)) same by_key)
    ∙ ap (λ (l : List Holder). held l c.args.mark) c.self.view_is

pub returns-in-Err : goal.returns-in-Err
returns-in-Err c =
    let by_key = c.in-Err.ensures.position (λ (holder : Holder). holder.0) (answers_always _ _ _ (λ f a r g called. search rules)) in
    let same = c.deref.ensures.value in
    not_held c.self.inside.list.items c.args.mark c.in-Err.field-0 c.self.invariant
    (subst (λ (l : List Holder). c.in-Err.field-0 ≤ length l) same c.in-Err.ensures.bound)
    (subst (λ (l : List Holder). IsBinarySearchResult (λ (holder : Holder). row_cmp holder.0 c.args.mark) l (Err c.in-Err.field-0)) same by_key)
    ∙ ap (λ (l : List Holder). held l c.args.mark) c.self.view_is
