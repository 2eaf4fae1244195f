use Rattle.std.proofs.Common.{arith, ◌≡◌, ◌∙◌, ap, replicate}
use Rattle.std.specs.FinMap.{empty}
use Rattle.row_locks.proofs.sessions.empty_places.Goals as goal

pub returns : goal.returns
returns c =
    let all : c.loop-place._place ≡ 256 = omega arith in
    c.loop-place.invariant ∙ ap (λ n. replicate n empty) all
