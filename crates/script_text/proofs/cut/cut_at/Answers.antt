use Rattle.std.proofs.Common.{sym, ap, ◌+◌, ◌-◌, take, drop, length, arith}
use Rattle.std.proofs.lemmas.List.{take_all, length-drop}
use Rattle.script_text.proofs.Splits.{cut_there, cut_nowhere}
use Rattle.script_text.proofs.cut.cut_at.Goals as goal

pub returns-in_err-at-clause-parts : goal.returns-in_err-at-clause-parts
returns-in_err-at-clause-parts c = rw c.from_residual.ensures (cut_nowhere c.args.mark c.args.text.now (sym c.in_err-at.ensures))

pub returns-clause-parts : goal.returns-clause-parts
returns-clause-parts c =
    let text = c.args.text.now in
    let behind = c.in_ok-at.at + 1 in
    cut_there c.args.mark text (take c.in_ok-at.at text) (take (length text - behind) (drop behind text)) c.in_ok-at.at (sym c.in_ok-at.ensures) (ap (λ n. take n text) (omega arith))
    (take_all (length text - behind) (drop behind text) (omega (arith, length-drop behind text)))
