use Rattle.std.proofs.Common.{◌≡◌, take}
use Rattle.writeset_trackers.specs.Noted.{last_number}
use Rattle.writeset_trackers.proofs.noting.last_number.Given as goal

abbrev pub invariant-loop-digest : goal.invariant-loop-digest
invariant-loop-digest l = l.last ≡ last_number l.history (take l.digest-index l.digests)
