use Rattle.std.proofs.Common.{◌≡◌, ◌++◌, ◌∷◌, [], List, ℕ, drop, false, ap, subst, sym, ◌∙◌}
use Rattle.store_trait.specs.declared.Op.TheVariants.{Commit}
use Rattle.scheduler.specs.Gnos.{has_gno}
use Rattle.published.specs.History.{IsWithin, MayAppend}
use Rattle.published.specs.Copies.{puts_in}
use Rattle.published.specs.Publication.{Publishing}
use Rattle.published.proofs.Steps.{puts_in-put, tied_put, new_number, same_publishing}
use Rattle.published.proofs.publisher.Publisher.append.Goals as goal

pub room_for-requires : goal.room_for-requires
room_for-requires g c =
    let may = subst (λ (p : Publishing). MayAppend g.J.Naming.preserve (p.published ++ p.waiting) c.args.op.now) (sym c.self.view_is) c.requires.next in
    (new_number c.self.invariant c.in-Commit.is may).0

pub add-requires-2-clause-new : goal.add-requires-2-clause-new
add-requires-2-clause-new g c =
    let may = subst (λ (p : Publishing). MayAppend g.J.Naming.preserve (p.published ++ p.waiting) c.args.op.now) (sym c.self.view_is) c.requires.next in
    let none = (new_number c.self.invariant c.in-Commit.is may).1 in
    subst (λ (l : List ℕ). has_gno l c.in-Commit.gno ≡ false) (sym c.room_for.ensures.same) none

pub invariant_of-self-2 : goal.invariant_of-self-2
invariant_of-self-2 g c =
    let steps = drop c.self.inside.writer.behind c.self.inside.writer.log.items in
    let op = c.args.op.now in
    let may = subst (λ (p : Publishing). MayAppend g.J.Naming.preserve (p.published ++ p.waiting) op) (sym c.self.view_is) c.requires.next in
    let within = subst (λ (p : Publishing). IsWithin g.J.Naming.known (p.published ++ p.waiting ++ op ∷ [])) (sym c.self.view_is) c.requires.known in
    let same : Commit c.in-Commit.gno c.in_ok-batch.batch ≡ op = ap (Commit c.in-Commit.gno) c.in_ok-batch.ensures ∙ sym c.in-Commit.is in
    let longer = ap puts_in c.in_ok-add.ensures.ok ∙ puts_in-put steps (Commit c.in-Commit.gno c.in_ok-batch.batch) ∙ ap (λ o. puts_in steps ++ o ∷ []) same in
    rw c.add.ensures.desk
    (tied_put c.self.invariant c.add-2.new.self.gnos c.in-Commit.is may within longer
    (rw (← c.room_for.ensures.same) c.add-2.ensures.has) (rw (← c.room_for.ensures.same) c.add-2.ensures.count))

pub returns-clause-ok : goal.returns-clause-ok
returns-clause-ok g c =
    let steps = drop c.self.inside.writer.behind c.self.inside.writer.log.items in
    let op = c.args.op.now in
    let same : Commit c.in-Commit.gno c.in_ok-batch.batch ≡ op = ap (Commit c.in-Commit.gno) c.in_ok-batch.ensures ∙ sym c.in-Commit.is in
    let longer = ap puts_in c.in_ok-add.ensures.ok ∙ puts_in-put steps (Commit c.in-Commit.gno c.in_ok-batch.batch) ∙ ap (λ o. puts_in steps ++ o ∷ []) same in
    same_publishing _ _
    (ap (λ d. d.shown.value.by) c.add.ensures.desk ∙ ap (λ (v : Publishing). v.published) c.self.view_is)
    (longer ∙ ap (λ (v : Publishing). v.waiting ++ op ∷ []) c.self.view_is)
    (ap (λ (v : Publishing). v.history) c.self.view_is)
