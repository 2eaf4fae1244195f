use Rattle.std.proofs.Common.{refl}
use Rattle.writeset_trackers.proofs.Stamps.{is_up_to, is_above, has_gone_on}
use Rattle.writeset_trackers.proofs.noting.note.Goals as goal

pub note_at-requires-clause-up_to : goal.note_at-requires-clause-up_to
note_at-requires-clause-up_to c = is_up_to c.requires.0 c.args.log.now.entries c.args.history.now c.args.history.now c.len.result refl c.requires.1 c.len.ensures.value

pub note_at-requires-clause-above : goal.note_at-requires-clause-above
note_at-requires-clause-above c = is_above c.requires.0 c.args.log.now.entries c.args.history.now c.args.history.now c.len.result refl c.requires.1 c.len.ensures.value

pub returns-clause-goes_on : goal.returns-clause-goes_on
returns-clause-goes_on c ts session parent is of_ =
    has_gone_on ts c.args.log.now.entries c.args.t.now c.args.w.now (record { of_tables = of_; seen = c.args.history.now; is = is; h = c.args.history.now; same = refl })
    _ session parent c.len.result c.len.ensures.value c.note_at.ensures
