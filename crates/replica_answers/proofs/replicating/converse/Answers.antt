use Rattle.std.proofs.Common.{subst, List, [], ◌∷◌}
use Rattle.store_trait.specs.declared.Op.{Op}
use Rattle.store_trait.specs.declared.Op.TheVariants.{Load}
use Rattle.replica_answers.specs.Conversation.{TellsAll, Converses}
use Rattle.replica_answers.proofs.Told.{tells_none, unless_then}
use Rattle.replica_answers.proofs.replicating.converse.Goals as goal

pub returns : goal.returns
returns g c =
    let names = g.K.ReplicaNaming.names in
    let before = g.W.Write.contents c.args.output.now in
    let printed = g.W.Write.contents c.converse.new.output in
    unless_then c.converse.result (TellsAll names c.in-Some.seat c.converse.new.seat before printed) (Converses names before printed) c.converse.ensures
    (λ tells. (c.converse.new.seat, subst (λ (s : List Op). TellsAll names s c.converse.new.seat before printed) c.in-Some.ensures tells))

pub returns-in_default : goal.returns-in_default
returns-in_default g c =
    let seen = Load g.K.ReplicaNaming.names.base ∷ [] in
    (seen, tells_none g.K.ReplicaNaming.names seen (g.W.Write.contents c.args.output.now))
