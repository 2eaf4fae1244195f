use Rattle.std.proofs.Common.{◌∙◌, sym, ap, subst, refl, reverse, inl, inr, None, List, ◌==◌}
use Rattle.std.specs.List.{find}
use Rattle.source_core.specs.declared.transaction.Receipt.{Receipt}
use Rattle.world.specs.declared.events.Reply.TheVariants as replies
use Rattle.source_answers.specs.declared.putting.PutReply.{PutReply}
use Rattle.source_answers.specs.Puts.{said_by, receipt_for, ToldIsOnLog}
use Rattle.source_answers.proofs.Answered.{commit_refused}
use Rattle.source_answers.proofs.Steps.{told_on_log}
use Rattle.source_answers.proofs.putting.put.Goals as goal

pub returns-in-Ok-clause-puts : goal.returns-in-Ok-clause-puts
returns-in-Ok-clause-puts g c =
    let w = c.in_default.ensures.walks in
    let given = c.deref.ensures.value ∙ c.in-Ok.ensures.receipts in
    record {
      syncs = w.0;
      told = None;
      before = c.lead.new.source;
      walks = w.1;
      says =
          (c.in_default.ensures.all, inr (c.said.ensures ∙ ap (λ (l : List Receipt). said_by (find (λ r. r.session == c.args.session) (reverse l))) given, c.in-Ok.ensures.ok));
    }

pub returns-in-Ok-clause-on_log : goal.returns-in-Ok-clause-on_log
returns-in-Ok-clause-on_log g c =
    let w = c.in_default.ensures.walks in
    let given = c.deref.ensures.value ∙ c.in-Ok.ensures.receipts in
    let said = c.said.ensures ∙ ap (λ (l : List Receipt). said_by (find (λ r. r.session == c.args.session) (reverse l))) given in
    subst (λ (r : PutReply). ToldIsOnLog c.args.session c.args.source.now r c.commit.new.self) (sym said)
    (told_on_log c.args.session w.0 c.args.source.now c.lead.new.source c.commit.new.self (receipt_for c.lead.new.source.source c.args.session) w.1 c.in_default.ensures.all
    c.in-Ok.ensures.ok c.in-Ok.ensures.sound c.log-log.ensures.logged refl)

pub returns-in-Err-commit-clause-puts : goal.returns-in-Err-commit-clause-puts
returns-in-Err-commit-clause-puts g c =
    let w = c.in_default.ensures.walks in
    let e = c.in-Err-commit.ensures in
    let refused = commit_refused c.lead.new.source c.commit.new.self c.in-Err-commit.fault e.exact e.refused e.no_memory e.err in
    record {
      syncs = w.0;
      told = None;
      before = c.lead.new.source;
      walks = w.1;
      says = (c.in_default.ensures.all, inl (replies.Source c.in-Err-commit.fault, refused.0, refused.1, refl));
    }
