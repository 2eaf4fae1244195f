use mathlib.Core.Bool.{true≢false}
use Rattle.std.proofs.Common.{sym, ◌∙◌}
use Rattle.std.proofs.KnownBytes.{Appends-nil}
use Rattle.log_tools.proofs.Differences.{line_same, line_other}
use Rattle.log_tools.proofs.comparing.write_if_changed.Goals as goal

pub returns-then-same_row : goal.returns-then-same_row
returns-then-same_row g c =
    let same = line_same (g.S.RowStore.contents c.args.store.now) c.args.entry.now (c.same_row.ensures.0 c.if-same_row.true ∙ c.get-theirs.ensures) in
    rw (same) (Appends-nil _)

pub returns-else-same_row : goal.returns-else-same_row
returns-else-same_row g c =
    let other = line_other (g.S.RowStore.contents c.args.store.now) c.args.entry.now
    (λ is. true≢false (sym (c.same_row.ensures.1 (is ∙ sym c.get-theirs.ensures)) ∙ c.if-same_row.false)) in
    rw (other, ← c.get-theirs.ensures) c.write_difference.ensures
