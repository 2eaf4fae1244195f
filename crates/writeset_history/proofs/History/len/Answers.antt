use Rattle.writeset_history.proofs.Moves.{valid}
use Rattle.writeset_history.proofs.History.len.Goals as goal

pub returns-clause-valid : goal.returns-clause-valid
returns-clause-valid c = let a = c.self.inside in valid a.slots.items a.start a.limit a.len c.self.invariant c.args.self.now c.self.view_is
