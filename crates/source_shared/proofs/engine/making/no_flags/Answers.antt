use Rattle.std.proofs.Common.{arith, ◌≡◌, ◌∙◌, ap, false, replicate}
use Rattle.source_shared.proofs.engine.making.no_flags.Goals as goal

pub returns : goal.returns
returns c =
    let all : c.loop-place._place ≡ 256 = omega arith in
    c.loop-place.invariant ∙ ap (λ n. replicate n false) all
