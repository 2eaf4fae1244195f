use Rattle.std.proofs.Common.{◌∙◌, ap, true, false, length}
use Rattle.std.proofs.lemmas.Result.{on_ok_weaker, IfErr-weaker}
use Rattle.log_tools.proofs.Compared.{counted, compared_logs}
use Rattle.log_tools.proofs.comparing.compare_read.Goals as goal

pub returns-clause-alike : goal.returns-clause-alike
returns-clause-alike g c =
    on_ok_weaker c.compare_found.result (λ compares. compared_logs true c.args.upto _ _ c.args.mine.now.set c.args.theirs.now.set
    c.unwrap_or-upto.result c.in_ok-left.left.log c.in_ok-right.right.log _ _ c.requires.mine c.requires.theirs
    (counted c.args.upto _ _ _ _ _ _ c.unwrap_or-upto.ensures c.min-both.ensures c.count.ensures.value c.count-2.ensures.value)
    (c.in_ok-left.ensures.log ∙ c.deref.ensures.value ∙ c.in_ok-my_records.ensures.records) (c.in_ok-right.ensures.log ∙ c.deref-2.ensures.value ∙ c.in_ok-their_records.ensures.records)
    (ap (λ l. length l) (c.in_ok-left.ensures.log ∙ c.deref.ensures.value) ∙ c.in_ok-my_records.ensures.count)
    (ap (λ l. length l) (c.in_ok-right.ensures.log ∙ c.deref-2.ensures.value) ∙ c.in_ok-their_records.ensures.count)
    compares) c.compare_found.ensures.alike

pub returns-clause-different : goal.returns-clause-different
returns-clause-different g c =
    IfErr-weaker c.compare_found.result _ _ (λ stop compares is. compared_logs false c.args.upto _ _ c.args.mine.now.set c.args.theirs.now.set
    c.unwrap_or-upto.result c.in_ok-left.left.log c.in_ok-right.right.log _ _ c.requires.mine c.requires.theirs
    (counted c.args.upto _ _ _ _ _ _ c.unwrap_or-upto.ensures c.min-both.ensures c.count.ensures.value c.count-2.ensures.value)
    (c.in_ok-left.ensures.log ∙ c.deref.ensures.value ∙ c.in_ok-my_records.ensures.records) (c.in_ok-right.ensures.log ∙ c.deref-2.ensures.value ∙ c.in_ok-their_records.ensures.records)
    (ap (λ l. length l) (c.in_ok-left.ensures.log ∙ c.deref.ensures.value) ∙ c.in_ok-my_records.ensures.count)
    (ap (λ l. length l) (c.in_ok-right.ensures.log ∙ c.deref-2.ensures.value) ∙ c.in_ok-their_records.ensures.count)
    (compares is)) c.compare_found.ensures.different
