use Rattle.std.proofs.Common.{ap, arith}
use Rattle.source_shared.proofs.Places.{placed_some}
use Rattle.source_shared.proofs.leading.place_one.Goals as goal

pub returns-then-session-len-clause-placed : goal.returns-then-session-len-clause-placed
returns-then-session-len-clause-placed g c =
    placed_some _ 1 _ _ _ (omega (arith, ap (λ r. r.session) c.receipt.ensures, c.if-session-gt0.true)) (rw c.receipt.ensures c.requires.known) c.requires.placed
