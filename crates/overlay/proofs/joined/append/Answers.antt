use Rattle.std.proofs.Common.{rules, ◌≡◌, ◌∙◌, ap, ◌++◌, Result, Ok, Err, OnOk}
use Rattle.std.proofs.lemmas.List.{map-id}
use Rattle.std.proofs.lemmas.Iterator.{YieldsList-from_map}
use Rattle.std.proofs.lemmas.Iterator.Adapters.{items_from_extend}
use Rattle.std.proofs.lemmas.Iterator.Consumers.{YieldsList-at, YieldsList-from_rest}
use Rattle.store_trait.specs.Batch.{Entry}
use Rattle.overlay.proofs.joined.append.Goals as goal

where_ok : {E P : Type 0} (r : Result (Unit {0}) E) (x : Unit {0}) → OnOk r P → r ≡ Ok x → P
where_ok (Ok y) x h e = h
where_ok (Err y) x h e = absurd (cc e)

pub returns-in-Ok-clause-ok : goal.returns-in-Ok-clause-ok
returns-in-Ok-clause-ok c =
    (where_ok c.extend.result _
    (items_from_extend c.extend.result c.extend.ensures.ran
    (YieldsList-from_map _ (λ (e : Entry). e) (YieldsList-at c.map-rows.ensures.source (YieldsList-from_rest c.args.left.now.entries c.iter.ensures.rest)) c.map-rows.ensures.closure
    (λ x r q k. search rules)))
    c.in-Ok.is).0
    ∙ ap (λ l. c.args.entries.now.items ++ l) (map-id c.args.left.now.entries)
