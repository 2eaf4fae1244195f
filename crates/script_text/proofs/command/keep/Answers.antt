use Rattle.std.proofs.Common.{codes, refl}
use Rattle.script_text.specs.Command.{event_of}
use Rattle.script_text.proofs.Names.{named}
use Rattle.script_text.proofs.Keeping.{keeps_as}
use Rattle.script_text.proofs.command.keep.Goals as goal

pub returns-then-is_word-clause-kept : goal.returns-then-is_word-clause-kept
unfolding event_of
returns-then-is_word-clause-kept c =
    keeps_as c.insert_of.result _ _ c.args.columns.now.items c.insert_of.new.columns.items (named c.args.words c.args.name.now (codes "insert") c.if-is_word.ensures refl) c.insert_of.ensures.kept

pub returns-then-is_word-2-clause-kept : goal.returns-then-is_word-2-clause-kept
unfolding event_of
returns-then-is_word-2-clause-kept c =
    keeps_as c.set_of.result _ _ c.args.columns.now.items c.set_of.new.columns.items (named c.args.words c.args.name.now (codes "set") c.if-is_word-2.ensures refl) c.set_of.ensures.kept
