use Rattle.std.proofs.Common.{◌∙◌, sym}
use Rattle.std.specs.Map.{keys_of}
use Rattle.row_index.proofs.Nothing.{no_parents_left, no_parents_at}
use Rattle.row_index.proofs.children.child_entries.Goals as goal

pub returns-else-has_parent-clause-left : goal.returns-else-has_parent-clause-left
returns-else-has_parent-clause-left c = sym (no_parents_left c.args.schema.now (sym c.has_parent.ensures ∙ c.if-has_parent.false) c.args.batch.now)

pub returns-else-has_parent-clause-before : goal.returns-else-has_parent-clause-before
returns-else-has_parent-clause-before c db = sym (no_parents_at c.args.schema.now (sym c.has_parent.ensures ∙ c.if-has_parent.false) (keys_of c.args.batch.now) db)
