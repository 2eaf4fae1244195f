use Rattle.std.proofs.Common.{◌≡◌, ◌≤◌, map, take, length}
use Rattle.std.specs.Vec.{vec_capacity}
use Rattle.world.specs.Legal.{stamp_of}
use Rattle.source_answers.proofs.flushing.stamps_of.Given as goal

-- the records so far have their stamps, and there is room for the others
abbrev pub invariant-loop-made : goal.invariant-loop-made
invariant-loop-made l = record {
  stamps : l.list.items ≡ map stamp_of (take l.made-index l.records);
  room : length l.records ≤ vec_capacity l.list;
}
