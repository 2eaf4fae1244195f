use Rattle.std.proofs.Common.{◌≡◌, ℕ, ◌+◌, ◌-◌, ◌<◌, ◌≤◌, ◌||◌, ◌==◌, ◌++◌, ◌∙◌, false, ap, sym, subst, length, ⊎_elim, arith, vec_len, vec_capacity}
use Rattle.core.specs.declared.int.u64.TheConstants.{MAX}
use Rattle.scheduler.specs.Gnos.{has_gno, low_of, first_gnos}
use Rattle.published.specs.Gaps.{Noted, HasRoom}
use Rattle.published.proofs.Numbers.{rise_from, mark_is_low, new_is_above, has_next, has_ahead, next_count, ahead_count, lacks_ahead}
use Rattle.published.proofs.gaps.Gaps.add.Goals as goal

pub put-requires-clause-rise : goal.put-requires-clause-rise
put-requires-clause-rise c = rise_from (c.self.inside.upto + 1) 0 MAX c.self.inside.ahead.items (omega arith) c.self.invariant

pub put-requires-clause-new : goal.put-requires-clause-new
put-requires-clause-new c =
    lacks_ahead c.self.inside.upto c.self.inside.ahead.items c.args.gno (subst (λ (n : Noted). has_gno n.gnos c.args.gno ≡ false) (sym c.self.view_is) c.requires.new)

pub put-requires-clause-room : goal.put-requires-clause-room
put-requires-clause-room c =
    let room = subst (λ (n : Noted). HasRoom n c.args.gno) (sym c.self.view_is) c.requires.room in
    let low = mark_is_low c.self.inside.upto MAX c.self.inside.ahead.items c.self.invariant in
    ⊎_elim
    (λ (next : c.args.gno ≡ low_of (first_gnos c.self.inside.upto ++ c.self.inside.ahead.items) + 1). absurd (c.if-gno-self.false (omega (arith, next, low))))
    (λ (some : 1 ≤ vec_capacity c.self.inside.ahead - vec_len c.self.inside.ahead). omega (arith, some))
    room

pub invariant_of-self-else-gno-self : goal.invariant_of-self-else-gno-self
invariant_of-self-else-gno-self c =
    let above = new_is_above c.self.inside.upto c.self.inside.ahead.items c.args.gno c.requires.some (subst (λ (n : Noted). has_gno n.gnos c.args.gno ≡ false) (sym c.self.view_is) c.requires.new) in
    let gap : c.self.inside.upto + 1 < c.args.gno = ahead c.self.inside.upto c.args.gno above c.if-gno-self.false in
    c.put.ensures.rise (c.self.inside.upto + 1) gap c.self.invariant where
      ahead : (upto gno : ℕ) → upto < gno → (gno - 1 ≡ upto → ⊥) → upto + 1 < gno
      ahead upto gno above other = omega (arith, above, other)

pub returns-then-gno-self-clause-has : goal.returns-then-gno-self-clause-has
returns-then-gno-self-clause-has c other =
    let next : c.args.gno ≡ c.self.inside.upto + 1 = omega (arith, c.if-gno-self.true, c.requires.some) in
    has_next c.self.inside.upto c.args.gno c.self.inside.ahead.items _ next c.pass-self-inside.ensures.same other
    ∙ ap (λ (n : Noted). has_gno n.gnos other || (c.args.gno == other)) c.self.view_is

pub returns-then-gno-self-clause-count : goal.returns-then-gno-self-clause-count
returns-then-gno-self-clause-count c =
    let next : c.args.gno ≡ c.self.inside.upto + 1 = omega (arith, c.if-gno-self.true, c.requires.some) in
    next_count c.self.inside.upto c.args.gno c.self.inside.ahead.items _ next c.pass-self-inside.ensures.same
    ∙ ap (λ (n : Noted). length n.gnos + 1) c.self.view_is

pub returns-else-gno-self-clause-has : goal.returns-else-gno-self-clause-has
returns-else-gno-self-clause-has c other =
    has_ahead c.self.inside.upto c.self.inside.ahead.items c.put.new.ahead.items c.args.gno c.put.ensures.has other
    ∙ ap (λ (n : Noted). has_gno n.gnos other || (c.args.gno == other)) c.self.view_is

pub returns-else-gno-self-clause-count : goal.returns-else-gno-self-clause-count
returns-else-gno-self-clause-count c =
    ahead_count c.self.inside.upto c.self.inside.ahead.items c.put.new.ahead.items c.put.ensures.count
    ∙ ap (λ (n : Noted). length n.gnos + 1) c.self.view_is
