use Rattle.log_feed.proofs.Follow.{two_processes}
use Rattle.log_feed.proofs.laws.two_processes.Goals as goal

pub returns : goal.returns
returns c = two_processes
