use Rattle.std.proofs.Common.{sym, subst, List, ◌++◌}
use Rattle.record_codec.specs.declared.records.Record.{Record}
use Rattle.relay.specs.Kept.{IsKept}
use Rattle.relay.proofs.Last.{none_kept}
use Rattle.relay.proofs.Relay.new.Goals as goal

pub invariant_of-result : goal.invariant_of-result
invariant_of-result c =
    subst (λ (l : List Record). IsKept c.args.schema c.args.source l c.new-2.result c.new-3.result.rows.map c.new-3.result.marks.map) (λ i. sym c.none.ensures i ++ sym c.new.ensures.items i)
    (none_kept c.args.schema c.args.source c.new-2.result c.new-3.result.rows.map c.new-3.result.marks.map c.new-2.ensures c.new-3.ensures.rows c.new-3.ensures.marks)
