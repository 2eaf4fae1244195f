use Rattle.replica_answers.specs.Followed.{HasStayed}
use Rattle.replica_answers.proofs.following.hand_on.Given as goal

-- no byte was read
abbrev pub invariant-loop : goal.invariant-loop
invariant-loop g l = HasStayed l.fn.wire l.wire
