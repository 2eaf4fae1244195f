use Rattle.std.proofs.Common.{◌≡◌, ◌∙◌, sym, ap, subst, true, false, not, nat_le, List, arith}
use Rattle.std.specs.List.{list_any}
use Rattle.std.proofs.lemmas.Bool.{le-leb, leb-true, false_from_ne_true}
use Rattle.store_trait.specs.declared.Op.{Op}
use Rattle.scheduler.specs.Gnos.{low_of}
use Rattle.published.specs.History.{gnos_of}
use Rattle.replica_core.specs.Sound.{IsSound}
use Rattle.replica_shared.specs.Awaited.{has_each, is_commit_in}
use Rattle.replica_shared.specs.Together.{State}
use Rattle.replica_shared.proofs.Awaiting.{told_front, told_last, told_none}
use Rattle.replica_shared.proofs.Standing.{shown_are}
use Rattle.replica_shared.proofs.coordinator.Coordinator.shows.Goals as goal

pub returns-then-interval-upto : goal.returns-then-interval-upto
returns-then-interval-upto g c =
    let i = c.args.interval in
    let upto = c.upto-2.result in
    let under = c.if-interval-upto.true in
    let sound = subst (λ (s : State). IsSound s.core) (sym c.self.view_is) c.requires.sound in
    let low : upto ≡ low_of (gnos_of c.self.inside.publisher.published) = c.upto-2.ensures.mark ∙ ap (λ (ops : List Op). low_of (gnos_of ops)) c.tell.ensures in
    let all = told_front _ _ _ _ (shown_are c.self.invariant.stand i sound c.requires.first) (le-leb i.last _ (omega (arith, under, low))) in
    subst (λ (s : State). nat_le i.last upto ≡ has_each (gnos_of s.publication.published) i) c.self.view_is (le-leb i.last upto under ∙ sym all)

pub returns-then-has_committed : goal.returns-then-has_committed
returns-then-has_committed g c =
    let i = c.args.interval in
    let over = c.if-interval-upto.false in
    let sound = subst (λ (s : State). IsSound s.core) (sym c.self.view_is) c.requires.sound in
    let low : c.upto-2.result ≡ low_of (gnos_of c.self.inside.publisher.published) = c.upto-2.ensures.mark ∙ ap (λ (ops : List Op). low_of (gnos_of ops)) c.tell.ensures in
    let whole = subst (λ (s : State). has_each s.core.commits i ≡ true) (sym c.self.view_is) (sym c.has_committed.ensures ∙ c.if-has_committed.true) in
    let last = told_last _ _ _ _ (shown_are c.self.invariant.stand i sound c.requires.first) (false_from_ne_true _ (λ t. let le = leb-true i.last _ t in omega (arith, le, over, low))) whole in
    subst (λ (s : State). not c.has_commit_in.result ≡ has_each (gnos_of s.publication.published) i) c.self.view_is
    (ap not (c.has_commit_in.ensures ∙ ap (list_any (is_commit_in i)) c.pending.ensures) ∙ sym last)

pub returns-else-has_committed : goal.returns-else-has_committed
returns-else-has_committed g c =
    let i = c.args.interval in
    let over = c.if-interval-upto.false in
    let sound = subst (λ (s : State). IsSound s.core) (sym c.self.view_is) c.requires.sound in
    let low : c.upto-2.result ≡ low_of (gnos_of c.self.inside.publisher.published) = c.upto-2.ensures.mark ∙ ap (λ (ops : List Op). low_of (gnos_of ops)) c.tell.ensures in
    let gone = subst (λ (s : State). has_each s.core.commits i ≡ false) (sym c.self.view_is) (sym c.has_committed.ensures ∙ c.if-has_committed.false) in
    let none = told_none _ _ _ _ (shown_are c.self.invariant.stand i sound c.requires.first) (false_from_ne_true _ (λ t. let le = leb-true i.last _ t in omega (arith, le, over, low))) gone in
    subst (λ (s : State). c.has_committed.result ≡ has_each (gnos_of s.publication.published) i) c.self.view_is (c.if-has_committed.false ∙ sym none)
