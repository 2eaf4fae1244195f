use Rattle.std.proofs.Common.{sym, subst, ◌+◌, arith}
use Rattle.writeset_history.specs.History.{History, IsUpTo}
use Rattle.writeset_history.proofs.Entered.{kept_up_to}
use Rattle.tests_source.proofs.tests.histories.touch.Goals as goal

pub returns-then-has_room : goal.returns-then-has_room
returns-then-has_room c =
    subst (λ (h : History). IsUpTo h (c.args.before + 1)) (sym c.enter.ensures)
    (kept_up_to.entered c.args.history.now c.args.digests.now c.args.before (c.args.before + 1) c.requires.up_to (omega arith))

pub returns-else-has_room : goal.returns-else-has_room
returns-else-has_room c =
    subst (λ (h : History). IsUpTo h (c.args.before + 1)) (sym c.empty_at.ensures) (kept_up_to.emptied c.args.history.now (c.args.before + 1))
