use Rattle.mtr.proofs.Readings.{knows_more}
use Rattle.mtr.proofs.threads.reading.Reader.into_shown.Goals as goal

pub returns-clause-told : goal.returns-clause-told
returns-clause-told g c = record {
  known = c.learn.new.self;
  learnt = c.learn.ensures.learnt;
  seen = knows_more g.K.Naming.preserve c.self.inside.seat c.learn.new.self c.self.inside.shown.items c.learn.ensures.kept c.self.invariant;
}
