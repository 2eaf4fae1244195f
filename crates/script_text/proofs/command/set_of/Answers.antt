use Rattle.std.proofs.Common.{sym, refl, ◌∙◌, w64, FitsSigned, rules}
use Rattle.std.proofs.lemmas.Int.{to_z-of_z}
use Rattle.rows.specs.declared.Change.TheVariants.{Update}
use Rattle.script_text.specs.Words.{naming_in}
use Rattle.script_text.proofs.Keeping.{write_unread, write_refused, set_kept}
use Rattle.script_text.proofs.command.set_of.Goals as goal

pub returns-in_default-clause-kept : goal.returns-in_default-clause-kept
returns-in_default-clause-kept c = (write_unread naming_in (λ id columns. Update id columns) c.args.words (sym c.written_of.ensures ∙ c.in_default.is), refl)

pub returns-in_default-2-clause-kept : goal.returns-in_default-2-clause-kept
returns-in_default-2-clause-kept c =
    write_refused naming_in (λ id columns. Update id columns) c.args.words (sym c.in-Some.ensures) (rw c.in_default-2.is at c.in_ok-mask.ensures.put)

pub returns-clause-kept : goal.returns-clause-kept
returns-clause-kept c =
    let fits : FitsSigned w64 c.in-Some.field-0-1.key = search rules in
    rw (to_z-of_z w64 c.in-Some.field-0-1.key fits)
    (set_kept c.args.words c.args.columns.now.items c.put_named.new.columns.items (sym c.in-Some.ensures) (rw c.in-Some-2.is at c.in_ok-mask.ensures.put))
