use Rattle.source_core.proofs.New.{is_sound_at_log}
use Rattle.source_core.proofs.laws.at_log.Goals as goal

pub returns-clause-sound : goal.returns-clause-sound
returns-clause-sound c = is_sound_at_log
