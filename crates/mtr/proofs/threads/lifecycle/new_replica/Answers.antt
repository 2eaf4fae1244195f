use Rattle.std.proofs.Common.{◌≡◌, ◌∷◌, [], List, sym, ap, subst}
use Rattle.std.specs.List.{All}
use Rattle.std.proofs.lemmas.List.Elements.{All-replicate}
use Rattle.store_trait.specs.Batch.{Entry}
use Rattle.store_trait.specs.declared.Op.{Op}
use Rattle.store_trait.specs.declared.Op.TheVariants.{Load}
use Rattle.replica_shared.proofs.Known.{load_is_known}
use Rattle.mtr.proofs.threads.lifecycle.new_replica.Goals as goal

pub open-requires-clause-known : goal.open-requires-clause-known
open-requires-clause-known g c = load_is_known g.K.ReplicaNaming.names _ _ _ c.requires.replica.3 c.requires.replica.2

pub new-requires-clause-seats : goal.new-requires-clause-seats
new-requires-clause-seats g c =
    let base = g.K.ReplicaNaming.names.base in
    let same : Load c.args.publication.base ∷ [] ≡ Load base ∷ [] = ap (λ (b : List Entry). Load b ∷ []) c.requires.replica.2 in
    subst (All (λ (seat : List Op). seat ≡ Load base ∷ [])) (sym c.in-Ok.ensures.seats)
    (All-replicate (λ (seat : List Op). seat ≡ Load base ∷ []) c.args.plan.now.seats (Load c.args.publication.base ∷ []) same)
