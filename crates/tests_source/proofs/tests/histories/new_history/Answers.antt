use Rattle.std.proofs.Common.{◌≡◌, sym, subst, ℕ, Result, IfOk}
use Rattle.std.proofs.lemmas.Result.{IfOk-weaker}
use Rattle.writeset_history.specs.History.{History, new_history, IsUpTo}
use Rattle.writeset_history.proofs.Entered.{kept_up_to}
use Rattle.tests_source.proofs.tests.histories.new_history.Goals as goal

up_to : {E : Type 0} (made : Result History E) (limit : ℕ) → IfOk made (λ h. h ≡ new_history limit) → IfOk made (λ h. IsUpTo h 0)
up_to made limit h = IfOk-weaker made (λ h. h ≡ new_history limit) (λ h. IsUpTo h 0) (λ history e. subst (λ (h : History). IsUpTo h 0) (sym e) (kept_up_to.new limit)) h

pub returns-in-Err-again : goal.returns-in-Err-again
returns-in-Err-again c = up_to c.with_limit-2.result c.args.limit c.with_limit-2.ensures

pub returns-in_default : goal.returns-in_default
returns-in_default c = up_to c.with_limit.result c.args.limit c.with_limit.ensures
