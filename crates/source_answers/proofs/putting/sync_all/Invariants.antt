use Rattle.std.proofs.Common.{length}
use Rattle.source_answers.proofs.Steps.{Leads}
use Rattle.source_answers.proofs.putting.sync_all.Given as goal

-- the syncs so far answered so that a put goes on
abbrev pub invariant-groups : goal.invariant-groups
invariant-groups g l = Leads l.initial.source l.source

-- each puts a group on the log
abbrev pub decreases-groups : goal.decreases-groups
decreases-groups g l = length l.source.unsynced
