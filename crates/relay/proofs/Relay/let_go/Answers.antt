use Rattle.std.proofs.Common.{sym, subst, List}
use Rattle.record_codec.specs.declared.records.Record.{Record}
use Rattle.relay.specs.Kept.{IsKept}
use Rattle.relay.proofs.Relay.let_go.Goals as goal

pub invariant_of-self : goal.invariant_of-self
invariant_of-self c =
    let was = c.self.inside in
    subst (λ (l : List Record). IsKept was.schema was.source l was.ids was.touches.rows.map was.touches.marks.map) (sym c.let_go.ensures.same) c.self.invariant
