-- The program's world, seen as the values of its parts.
use Rattle.world.specs.declared.machine.World.{World as Machine}
use Rattle.world.specs.State.{World}

abbrev pub seen : {S T D R : Type 0} → Machine S T D R → World D R
seen w = record {
  source = w.source;
  wire = record {
    log = w.log.log;
    firsts = w.log.firsts;
    starts = w.log.starts;
    past = w.log.past;
    device = w.log.device;
    spare = w.spare.items;
    unsynced = w.unsynced.items;
  };
  replica = w.replica;
  jobs = w.jobs.items;
  shown = w.shown;
}
