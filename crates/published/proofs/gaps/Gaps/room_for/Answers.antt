use Rattle.std.proofs.Common.{◌≡◌, ◌+◌, ◌∙◌, ap, inl, arith}
use Rattle.scheduler.specs.Gnos.{low_of}
use Rattle.published.specs.Gaps.{Noted}
use Rattle.published.proofs.Numbers.{mark_is_low}
use Rattle.published.proofs.gaps.Gaps.room_for.Goals as goal

pub returns-then-gno-self-clause-room : goal.returns-then-gno-self-clause-room
returns-then-gno-self-clause-room c =
    let next : c.args.gno ≡ c.self.inside.upto + 1 = omega (arith, c.if-gno-self.true, c.requires) in
    inl (next ∙ ap (λ n. n + 1) (mark_is_low c.self.inside.upto _ c.self.inside.ahead.items c.self.invariant ∙ ap (λ (n : Noted). low_of n.gnos) c.self.view_is))
