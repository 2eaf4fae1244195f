use Rattle.promotion.proofs.Seen.{seen_leads_on, gapped_leads_on}
use Rattle.promotion.proofs.laws.seen_leads_on.Goals as goal

pub returns : goal.returns
returns c = record { in_order = seen_leads_on; gapped = gapped_leads_on }
