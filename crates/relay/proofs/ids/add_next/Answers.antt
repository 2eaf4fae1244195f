use Rattle.relay.proofs.Judged.{next_put}
use Rattle.relay.proofs.ids.add_next.Goals as goal

pub returns-in-Ok-clause-ok : goal.returns-in-Ok-clause-ok
returns-in-Ok-clause-ok c = next_put c.args.source c.args.gno c.args.ids.now c.add.new.self c.requires.number.0 c.requires.number.1 c.requires.before c.in-Ok.ensures.ok.1
