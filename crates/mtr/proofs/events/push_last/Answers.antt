use Rattle.std.proofs.Common.{arith}
use Rattle.script_text.specs.Command.{event_of}
use Rattle.mtr.specs.Events.{one_or_none}
use Rattle.mtr.proofs.EventLists.{last_grown}
use Rattle.mtr.proofs.events.push_last.Goals as goal

pub returns-clause-ok : goal.returns-clause-ok
returns-clause-ok c =
    last_grown c.push.result c.args.pieces.now.items c.len-last.result c.index_mut.result.now c.push.new.self (one_or_none (event_of c.args.name.now c.args.words)) (omega (arith, c.len-last.ensures))
    (omega (arith, c.len-last.ensures, c.requires)) c.index_mut.ensures.value c.push.ensures.ok
