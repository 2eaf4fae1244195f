use Rattle.std.proofs.Common.{◌≡◌, ◌∙◌, sym, ap, refl, true, ◌&&◌, not}
use Rattle.std.specs.List.{list_any}
use Rattle.std.specs.Option.{option_map_or}
use Rattle.rows.specs.Database.{target}
use Rattle.store_trait.specs.Contents.{row_at}
use Rattle.store_trait.proofs.Batches.{in_order_rises}
use Rattle.overlay.specs.Pending.{Pending}
use Rattle.overlay.specs.Values.{other_has, gives_way}
use Rattle.overlay.proofs.Entries.{any_left}
use Rattle.overlay.proofs.ValueRows.{value_told}
use Rattle.overlay.proofs.values.value_holds.Goals as goal
use Rattle.overlay.proofs.values.value_holds.Goals.{After-any_other_has}

-- the rows that the transaction changed, in the order of row ids
other_told : (c : After-any_other_has) → c.any_other_has.result ≡ list_any (other_has c.args.schema.now c.target-row.result c.in-Some.mark) c.args.pending.now.left
other_told c =
    any_left (other_has c.args.schema.now c.target-row.result c.in-Some.mark) c.pending.inside.lists.left.entries c.args.pending.now c.any_other_has.result
    (ap (λ (p : Pending). p.left) c.pending.view_is) c.any_other_has.ensures.distinct c.any_other_has.ensures.value

pub returns-in_default-clause-rising : goal.returns-in_default-clause-rising
returns-in_default-clause-rising c = rw (← c.pending.view_is) (in_order_rises c.pending.inside.lists.left.entries)

pub returns-then-not-any_other_has-clause-value : goal.returns-then-not-any_other_has-clause-value
returns-then-not-any_other_has-clause-value c =
    let here = goal.at.returns-then-not-any_other_has-clause-value c in
    let row = c.target-row.ensures in
    let pending = c.args.pending.now in
    sym (ap (λ b. not b && c.holder_gives_way.result) c.if-not-any_other_has.true)
    ∙ value_told c.args.schema.now pending c.args.change.now c.args.takes c.args.holder c.in-Some.mark c.any_other_has.result c.holder_gives_way.result c.in-Some.is
    (other_told here.After-any_other_has ∙ ap (λ q. list_any (other_has c.args.schema.now q c.in-Some.mark) pending.left) row)
    (c.holder_gives_way.ensures ∙ ap (λ q. option_map_or (λ key. gives_way pending q (row_at c.in-Some.mark.table key)) c.args.holder true) row)

pub returns-then-not-any_other_has-clause-rising : goal.returns-then-not-any_other_has-clause-rising
returns-then-not-any_other_has-clause-rising c = rw (← c.pending.view_is) (in_order_rises c.pending.inside.lists.left.entries)

pub returns-else-not-any_other_has-clause-value : goal.returns-else-not-any_other_has-clause-value
returns-else-not-any_other_has-clause-value c =
    let here = goal.at.returns-else-not-any_other_has-clause-value c in
    let pending = c.args.pending.now in
    let way = option_map_or (λ key. gives_way pending (target c.args.change.now) (row_at c.in-Some.mark.table key)) c.args.holder true in
    ap not c.if-not-any_other_has.false ∙ sym (ap (λ b. not b && way) c.if-not-any_other_has.false)
    ∙ value_told c.args.schema.now pending c.args.change.now c.args.takes c.args.holder c.in-Some.mark c.any_other_has.result way c.in-Some.is
    (other_told here.After-any_other_has ∙ ap (λ q. list_any (other_has c.args.schema.now q c.in-Some.mark) pending.left) c.target-row.ensures) refl

pub returns-else-not-any_other_has-clause-rising : goal.returns-else-not-any_other_has-clause-rising
returns-else-not-any_other_has-clause-rising c = rw (← c.pending.view_is) (in_order_rises c.pending.inside.lists.left.entries)
