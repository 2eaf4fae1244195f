use Rattle.std.proofs.Common.{◌∙◌, sym}
use Rattle.std.specs.Map.{keys_of}
use Rattle.row_index.proofs.Nothing.{no_marks_left, no_marks_at, nothing_taken_up}
use Rattle.row_index.proofs.index.marked_entries.Goals as goal

pub returns-else-has_unique-clause-left : goal.returns-else-has_unique-clause-left
returns-else-has_unique-clause-left c = sym (no_marks_left c.args.schema.now (sym c.has_unique.ensures ∙ c.if-has_unique.false) c.args.batch.now)

pub returns-else-has_unique-clause-before : goal.returns-else-has_unique-clause-before
returns-else-has_unique-clause-before c db = sym (no_marks_at c.args.schema.now (sym c.has_unique.ensures ∙ c.if-has_unique.false) (keys_of c.args.batch.now) db)

pub returns-else-has_unique-clause-taken_up : goal.returns-else-has_unique-clause-taken_up
returns-else-has_unique-clause-taken_up c keys = sym (nothing_taken_up c.args.schema.now (sym c.has_unique.ensures ∙ c.if-has_unique.false) c.args.batch.now keys)
