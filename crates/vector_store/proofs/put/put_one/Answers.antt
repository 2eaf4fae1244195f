use Rattle.std.proofs.Common.{◌∙◌, ap, drop, take}
use Rattle.std.specs.FinMap.{insert}
use Rattle.rows.specs.Database.{Database}
use Rattle.vector_store.specs.Contents.{contents_of}
use Rattle.vector_store.specs.Gap.{around}
use Rattle.vector_store.proofs.Order.{behind_lesser, order_between, contents-between}
use Rattle.vector_store.proofs.Gaps.{insert-remove}
use Rattle.vector_store.proofs.put.put_one.Goals as goal

pub returns-in-None-clause-behind : goal.returns-in-None-clause-behind
returns-in-None-clause-behind c = λ q less. behind_lesser q c.args.id _ less c.part-parted.ensures.parted.behind

pub returns-in-Some-clause-order : goal.returns-in-Some-clause-order
returns-in-Some-clause-order c =
    let p = c.part-parted.ensures.parted in
    rw (c.fill.ensures.front, c.fill.ensures.back) (order_between c.args.id c.in-Some.row _ _ p.order p.before p.behind)

pub returns-in-Some-clause-put : goal.returns-in-Some-clause-put
returns-in-Some-clause-put c =
    let p = c.part-parted.ensures.parted in
    let front = take c.part-parted.result.start c.part-parted.new.rows in
    let back = drop c.part-parted.result.end c.part-parted.new.rows in
    let old = contents_of (around c.args.gap c.args.rows.now) in
    rw (c.in-Some.is, c.fill.ensures.front, c.fill.ensures.back)
    (contents-between c.args.id front back p.before c.in-Some.row ∙ ap (λ (db : Database). insert db c.args.id c.in-Some.row) p.removed ∙ insert-remove old c.args.id c.in-Some.row)

pub returns-in-Some-clause-behind : goal.returns-in-Some-clause-behind
returns-in-Some-clause-behind c = λ q less.
    rw c.fill.ensures.back (less, behind_lesser q c.args.id (drop c.part-parted.result.end c.part-parted.new.rows) less c.part-parted.ensures.parted.behind)
