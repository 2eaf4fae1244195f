use Rattle.std.proofs.Common.{◌≡◌, ◌+◌, ◌≤◌, length, take}
use Rattle.std.specs.FinMap.{len}
use Rattle.writeset_history.specs.History.{entered}
use Rattle.writeset_history.proofs.History.enter.Given as goal

abbrev pub invariant-loop-digest : goal.invariant-loop-digest
invariant-loop-digest l = record {
  so_far : l.self ≡ entered l.initial.self (take l.digest-index l.digests) l.sequence;
  room : len l.self.numbers + length l.digests ≤ l.self.limit + l.digest-index;
}
