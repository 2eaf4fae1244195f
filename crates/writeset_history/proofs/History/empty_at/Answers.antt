use Rattle.writeset_history.proofs.Moves.{emptied_at, emptied-sound}
use Rattle.writeset_history.proofs.History.empty_at.Goals as goal

pub invariant_of-self : goal.invariant_of-self
invariant_of-self c =
    let a = c.self.inside in
    emptied-sound a.slots.items a.start a.limit a.len c.self.invariant c.args.self.now c.self.view_is c.args.sequence c.requires

pub returns : goal.returns
returns c =
    let a = c.self.inside in
    emptied_at a.slots.items a.start a.limit a.len c.self.invariant c.args.self.now c.self.view_is c.args.sequence c.requires
