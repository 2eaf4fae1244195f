use Rattle.std.proofs.Common.{arith, ◌≡◌, ◌∙◌, ap, None, replicate}
use Rattle.source_shared.proofs.engine.making.empty_places.Goals as goal

pub returns : goal.returns
returns g c =
    let all : c.loop-place._place ≡ 256 = omega arith in
    c.loop-place.invariant ∙ ap (λ n. replicate n None) all
