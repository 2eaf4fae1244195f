use Rattle.std.proofs.Common.{rules, ◌≡◌, ◌++◌, ◌∷◌, [], List, ℕ, false, subst, sym}
use Rattle.scheduler.specs.Gnos.{has_gno}
use Rattle.published.specs.Plain.{Shown, MayFollow}
use Rattle.published.proofs.Counted.{follows, counted_put}
use Rattle.published.proofs.plain.Plain.append.Goals as goal

pub add-requires-clause-new : goal.add-requires-clause-new
add-requires-clause-new g c =
    let may = subst (λ (s : Shown _). MayFollow s.preserve s c.args.op.now) (sym c.self.view_is) c.requires in
    let none = (follows _ c.args.op.now c.in-Commit.gno c.in-Commit.batch c.self.invariant may c.in-Commit.is).1 in
    subst (λ (l : List ℕ). has_gno l c.in-Commit.gno ≡ false) (sym c.room_for.ensures.same) none

pub invariant_of-self-2 : goal.invariant_of-self-2
invariant_of-self-2 g c =
    let may = subst (λ (s : Shown _). MayFollow s.preserve s c.args.op.now) (sym c.self.view_is) c.requires in
    let waits : c.push.new.self.items ≡ c.self.inside.waiting.items ++ c.in_ok-copy.field-0 ∷ [] = search rules in
    counted_put _ c.args.op.now c.in-Commit.gno c.in-Commit.batch c.add.new.self.gnos c.push.new.self.items c.in_ok-copy.field-0 c.self.invariant may c.in-Commit.is
    (rw (← c.room_for.ensures.same) c.add.ensures.has) (rw (← c.room_for.ensures.same) c.add.ensures.count) waits
