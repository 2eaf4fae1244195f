use Rattle.std.proofs.Common.{rules, ◌≡◌}
use Rattle.tests_source.proofs.tests.recovering.recovered.Goals as goal

pub recovered-requires-clause-legal : goal.recovered-requires-clause-legal
recovered-requires-clause-legal g c =
    let all : c.log.result.now ≡ c.args.source.now.log = c.log.ensures.all (search rules) in
    rw (c.in_ok-log.ensures, all, c.in_ok-schema.ensures, ← c.requires, c.in_ok-base.ensures, c.base.ensures) c.flushed-count.ensures.sound.legal
