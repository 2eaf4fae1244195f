use Rattle.mtr.specs.Script.{said}
use Rattle.mtr.proofs.ScriptLines.{event_added}
use Rattle.mtr.proofs.script.Script.add_event.Goals as goal

pub returns : goal.returns
returns c = event_added c.push.result (said c.args.self.now) c.args.name.now c.args.words c.push.new.self c.push.ensures.good c.push.ensures.ok
