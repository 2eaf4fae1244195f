use Rattle.std.proofs.Common.{◌≡◌, [], take}
use Rattle.overlay.specs.Joining.{joined_all}
use Rattle.source_core.specs.Commit.{pendings_of}
use Rattle.source_core.proofs.committing.join_all.Given as goal

abbrev pub invariant-loop-session : goal.invariant-loop-session
invariant-loop-session l = l.rows ≡ joined_all [] (pendings_of l.places (take l.session-index l.sessions))
