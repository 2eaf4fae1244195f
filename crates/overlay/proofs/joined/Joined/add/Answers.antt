use Rattle.std.proofs.Common.{◌∙◌, ap, ◌++◌, List}
use Rattle.store_trait.specs.Batch.{Entry, in_order}
use Rattle.store_trait.proofs.Batches.{in_order_rises}
use Rattle.overlay.specs.Pending.{Pending}
use Rattle.overlay.specs.Joining.{joined}
use Rattle.overlay.proofs.Joining.{in_order-append, distinct-append, not_found_yet}
use Rattle.overlay.proofs.joined.Joined.add.Goals as goal

pub returns-in_err-append-clause-rising : goal.returns-in_err-append-clause-rising
returns-in_err-append-clause-rising c = in_order_rises c.append.new.entries.items

pub returns-in_err-append-clause-left : goal.returns-in_err-append-clause-left
returns-in_err-append-clause-left c = rw (← c.pending.view_is) (in_order_rises c.pending.inside.lists.left.entries)

pub invariant_of-self-2 : goal.invariant_of-self-2
invariant_of-self-2 c =
    let es = c.self.inside.entries.items in
    let fs = c.pending.inside.lists.left.entries in
    rw c.in_ok-append.ensures.ok (distinct-append es fs c.self.invariant c.append.ensures.distinct
    (not_found_yet es fs c.args.self.now c.args.pending.now c.self.view_is (ap (λ (p : Pending). p.left) c.pending.view_is) c.requires.apart))

pub returns-clause-ok : goal.returns-clause-ok
returns-clause-ok c =
    let es = c.self.inside.entries.items in
    let fs = c.pending.inside.lists.left.entries in
    ap in_order c.in_ok-append.ensures.ok ∙ in_order-append es fs
    ∙ ap (λ (l : List Entry). in_order (l ++ in_order fs)) c.self.view_is
    ∙ ap (λ (p : Pending). joined c.args.self.now p) c.pending.view_is

pub returns-clause-rising : goal.returns-clause-rising
returns-clause-rising c = in_order_rises c.append.new.entries.items

pub returns-clause-left : goal.returns-clause-left
returns-clause-left c = rw (← c.pending.view_is) (in_order_rises c.pending.inside.lists.left.entries)
