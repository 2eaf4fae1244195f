use Rattle.std.proofs.Common.{eqb, rules, tests}
use Rattle.std.proofs.lemmas.Iterator.Adapters.{YieldsList-from_rev_slice}
use Rattle.std.proofs.lemmas.Iterator.Search.{find_from_yields_List}
use Rattle.source_core.specs.declared.transaction.Receipt.{Receipt}
use Rattle.source_answers.proofs.putting.last_of.Goals as goal

pub returns : goal.returns
returns c =
    find_from_yields_List (λ (r : Receipt). eqb r.session c.args.session) _ _ _ c.find.ensures.ran (YieldsList-from_rev_slice c.args.receipts.now cc) (λ x b q k. search (rules, tests))
