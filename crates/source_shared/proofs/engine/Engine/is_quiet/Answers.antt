use Rattle.source_shared.proofs.Calling.{calls_nobody}
use Rattle.source_shared.proofs.engine.Engine.is_quiet.Goals as goal

pub returns-then-not-may_call-clause-nobody : goal.returns-then-not-may_call-clause-nobody
returns-then-not-may_call-clause-nobody g c = λ calm. calls_nobody c.args.self.now c.args.leads (c.is_calm.ensures calm).ended (c.may_call.ensures c.if-not-may_call.true)
