use Rattle.std.specs.Prelude.{codes}
use Rattle.clap.specs.Words.{found_of}
use Rattle.any_tracker.specs.Any.{mode_named}
use Rattle.mtr.proofs.Choices.{none_found, some_found}
use Rattle.mtr.proofs.command_line.tracker.Goals as goal

pub returns-in_err-get_str : goal.returns-in_err-get_str
returns-in_err-get_str c = none_found mode_named (found_of c.args.found.now) (codes "tracker") c.get_str.result _ c.get_str.ensures c.in_err-get_str.was c.from_residual.ensures

pub returns : goal.returns
returns c = some_found mode_named (found_of c.args.found.now) (codes "tracker") c.get_str.result _ c.in_ok-get_str.field-0 c.get_str.ensures c.in_ok-get_str.was c.mode_named.ensures
