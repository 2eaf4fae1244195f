use Rattle.std.proofs.Common.{refl, sym, rules, codes, ◌^◌}
use Rattle.script_text.specs.Words.{alone, number_in, row_id_in}
use Rattle.script_text.specs.Command.{at_row, event_of}
use Rattle.script_text.specs.declared.kept.KeptEvent.TheVariants as kepts
use Rattle.script_text.proofs.Names.{named}
use Rattle.script_text.proofs.Keeping.{mapped, bare_by}
use Rattle.script_text.proofs.command.bare_of.Goals as goal

pub returns-then-is_word-clause-event : goal.returns-then-is_word-clause-event
unfolding event_of
returns-then-is_word-clause-event c =
    named c.args.words c.args.name.now (codes "begin") c.if-is_word.ensures (mapped (λ n. kepts.Begin n) (alone (number_in (2 ^ 16) c.args.words)) (search rules))

pub returns-then-is_word-2-clause-event : goal.returns-then-is_word-2-clause-event
unfolding event_of
returns-then-is_word-2-clause-event c =
    named c.args.words c.args.name.now (codes "delete") c.if-is_word-2.ensures (mapped (λ at. kepts.Delete at.0 at.1.table at.1.key) (at_row c.args.words) (search rules))

pub returns-then-is_word-3-clause-event : goal.returns-then-is_word-3-clause-event
unfolding event_of
returns-then-is_word-3-clause-event c =
    named c.args.words c.args.name.now (codes "see") c.if-is_word-3.ensures (mapped (λ at. kepts.See at.0 at.1.table at.1.key) (at_row c.args.words) (search rules))

pub returns-then-is_word-4-clause-event : goal.returns-then-is_word-4-clause-event
unfolding event_of
returns-then-is_word-4-clause-event c =
    named c.args.words c.args.name.now (codes "prepare") c.if-is_word-4.ensures (mapped (λ n. kepts.Prepare n) (alone (number_in (2 ^ 16) c.args.words)) (search rules))

pub returns-then-is_word-5-clause-event : goal.returns-then-is_word-5-clause-event
unfolding event_of
returns-then-is_word-5-clause-event c =
    named c.args.words c.args.name.now (codes "queue") c.if-is_word-5.ensures (mapped (λ n. kepts.Queue n) (alone (number_in (2 ^ 16) c.args.words)) (search rules))

pub returns-then-is_word-6-clause-event : goal.returns-then-is_word-6-clause-event
unfolding event_of
returns-then-is_word-6-clause-event c =
    named c.args.words c.args.name.now (codes "abort") c.if-is_word-6.ensures (mapped (λ n. kepts.Abort n) (alone (number_in (2 ^ 16) c.args.words)) (search rules))

pub returns-then-is_word-7-clause-event : goal.returns-then-is_word-7-clause-event
unfolding event_of
returns-then-is_word-7-clause-event c = named c.args.words c.args.name.now (codes "flush") c.if-is_word-7.ensures (bare_by c.args.words kepts.Flush (search rules))

pub returns-then-is_word-8-clause-event : goal.returns-then-is_word-8-clause-event
unfolding event_of
returns-then-is_word-8-clause-event c = named c.args.words c.args.name.now (codes "sync") c.if-is_word-8.ensures (bare_by c.args.words kepts.Sync (search rules))

pub returns-then-is_word-9-clause-event : goal.returns-then-is_word-9-clause-event
unfolding event_of
returns-then-is_word-9-clause-event c = named c.args.words c.args.name.now (codes "commit") c.if-is_word-9.ensures (bare_by c.args.words kepts.Commit (search rules))

pub returns-then-is_word-10-clause-event : goal.returns-then-is_word-10-clause-event
unfolding event_of
returns-then-is_word-10-clause-event c =
    named c.args.words c.args.name.now (codes "deliver") c.if-is_word-10.ensures (mapped (λ n. kepts.Deliver n) (alone (number_in (2 ^ 64) c.args.words)) (search rules))

pub returns-then-is_word-11-clause-event : goal.returns-then-is_word-11-clause-event
unfolding event_of
returns-then-is_word-11-clause-event c = named c.args.words c.args.name.now (codes "dispatch") c.if-is_word-11.ensures (bare_by c.args.words kepts.Dispatch (search rules))

pub returns-then-is_word-12-clause-event : goal.returns-then-is_word-12-clause-event
unfolding event_of
returns-then-is_word-12-clause-event c =
    named c.args.words c.args.name.now (codes "finish") c.if-is_word-12.ensures (mapped (λ n. kepts.Finish n) (alone (number_in (2 ^ 64) c.args.words)) (search rules))

pub returns-then-is_word-13-clause-event : goal.returns-then-is_word-13-clause-event
unfolding event_of
returns-then-is_word-13-clause-event c = named c.args.words c.args.name.now (codes "next") c.if-is_word-13.ensures (bare_by c.args.words kepts.Next (search rules))

pub returns-then-is_word-14-clause-event : goal.returns-then-is_word-14-clause-event
unfolding event_of
returns-then-is_word-14-clause-event c = named c.args.words c.args.name.now (codes "publish") c.if-is_word-14.ensures (bare_by c.args.words kepts.Publish (search rules))

pub returns-then-is_word-15-clause-event : goal.returns-then-is_word-15-clause-event
unfolding event_of
returns-then-is_word-15-clause-event c = named c.args.words c.args.name.now (codes "executed") c.if-is_word-15.ensures (bare_by c.args.words kepts.Executed (search rules))

pub returns-then-is_word-16-clause-event : goal.returns-then-is_word-16-clause-event
unfolding event_of
returns-then-is_word-16-clause-event c =
    named c.args.words c.args.name.now (codes "read") c.if-is_word-16.ensures (mapped (λ id. kepts.Read id.table id.key) (alone (row_id_in c.args.words)) (search rules))

pub returns-then-is_word-17-clause-event : goal.returns-then-is_word-17-clause-event
unfolding event_of
returns-then-is_word-17-clause-event c = named c.args.words c.args.name.now (codes "rotate") c.if-is_word-17.ensures (bare_by c.args.words kepts.Rotate (search rules))

pub returns-then-is_word-18-clause-event : goal.returns-then-is_word-18-clause-event
unfolding event_of
returns-then-is_word-18-clause-event c = named c.args.words c.args.name.now (codes "log") c.if-is_word-18.ensures (bare_by c.args.words kepts.Log (search rules))

pub returns-else-is_word-18-clause-event : goal.returns-else-is_word-18-clause-event
unfolding event_of
returns-else-is_word-18-clause-event c =
    rw (
      sym c.if-is_word.ensures,
      c.requires.no_insert,
      c.requires.no_set,
      sym c.if-is_word-2.ensures,
      sym c.if-is_word-3.ensures,
      sym c.if-is_word-4.ensures,
      sym c.if-is_word-5.ensures,
      sym c.if-is_word-6.ensures,
      sym c.if-is_word-7.ensures,
      sym c.if-is_word-8.ensures,
      sym c.if-is_word-9.ensures,
      sym c.if-is_word-10.ensures,
      sym c.if-is_word-11.ensures,
      sym c.if-is_word-12.ensures,
      sym c.if-is_word-13.ensures,
      sym c.if-is_word-14.ensures,
      sym c.if-is_word-15.ensures,
      sym c.if-is_word-16.ensures,
      sym c.if-is_word-17.ensures,
      sym c.if-is_word-18.ensures,
    ) refl
