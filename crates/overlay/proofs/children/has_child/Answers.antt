use Rattle.std.proofs.Common.{◌∙◌, sym, ap, ◌||◌, nat_lt}
use Rattle.overlay.specs.Pending.{Pending}
use Rattle.store_trait.proofs.Batches.{in_order_rises}
use Rattle.overlay.specs.Children.{left_names, changed_children}
use Rattle.overlay.proofs.Entries.{any_left}
use Rattle.overlay.proofs.ChildCounts.{told_by_count}
use Rattle.overlay.proofs.children.has_child.Goals as goal

pub returns-then-any_left_names-clause-value : goal.returns-then-any_left_names-clause-value
returns-then-any_left_names-clause-value g c =
    let ts = c.args.schema.now in
    let pending = c.args.pending.now in
    let db = g.S.RowStore.contents c.args.store.now in
    let own = any_left (left_names ts c.args.row) c.pending.inside.lists.left.entries pending c.any_left_names.result
    (ap (λ (p : Pending). p.left) c.pending.view_is) c.any_left_names.ensures.distinct c.any_left_names.ensures.value in
    c.if-any_left_names.true ∙ sym (ap (λ b. b || nat_lt (changed_children ts db pending c.args.row) c.args.count) (sym own ∙ c.if-any_left_names.true))

pub returns-then-any_left_names-clause-rising : goal.returns-then-any_left_names-clause-rising
returns-then-any_left_names-clause-rising g c = rw (← c.pending.view_is) (in_order_rises c.pending.inside.lists.left.entries)

pub returns-else-any_left_names-clause-value : goal.returns-else-any_left_names-clause-value
returns-else-any_left_names-clause-value g c =
    sym (ap (λ b. b || c.has_more.result) c.if-any_left_names.false)
    ∙ told_by_count c.args.schema.now (g.S.RowStore.contents c.args.store.now) c.args.pending.now c.pending.inside.lists.left.entries c.args.count c.args.row c.any_left_names.result c.has_more.result
    (ap (λ (p : Pending). p.left) c.pending.view_is) c.any_left_names.ensures.distinct c.any_left_names.ensures.value c.has_more.ensures

pub returns-else-any_left_names-clause-rising : goal.returns-else-any_left_names-clause-rising
returns-else-any_left_names-clause-rising g c = rw (← c.pending.view_is) (in_order_rises c.pending.inside.lists.left.entries)
