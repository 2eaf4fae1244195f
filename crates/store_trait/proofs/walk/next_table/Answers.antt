use Rattle.std.proofs.Common.{◌≡◌, ◌∙◌, sym, subst, rules, tests, nat_le, min, Option, ℕ}
use Rattle.std.specs.List.{reduce}
use Rattle.std.proofs.lemmas.Iterator.{YieldsList-from_slice, YieldsList-from_map}
use Rattle.std.proofs.lemmas.Iterator.Adapters.{option_map_id}
use Rattle.std.proofs.lemmas.Iterator.Consumers.{YieldsList-at, YieldsList-from_filter, min_from_yields_List}
use Rattle.store_trait.specs.Walk.{IsNextTable}
use Rattle.store_trait.proofs.Tables.{ids_from, next_table_is}
use Rattle.store_trait.proofs.walk.next_table.Goals as goal

pub returns : goal.returns
returns c =
    let ts = c.args.tables.now in
    let is : c.min.result ≡ reduce min (ids_from c.args.from ts) = sym (option_map_id c.min.result) ∙ min_from_yields_List c.filter.result c.min.result c.min.ensures.ran
    (YieldsList-from_filter _ (λ id. nat_le c.args.from id)
    (YieldsList-at c.filter.ensures.source (YieldsList-from_map _ (λ t. t.id) (YieldsList-at c.map.ensures.source (YieldsList-from_slice ts cc)) c.map.ensures.closure (λ x r q k. search rules)))
    c.filter.ensures.closure (λ x r q k. search (rules, tests)))
    in
    subst (λ (next : Option ℕ). IsNextTable ts c.args.from next) (sym is) (next_table_is c.args.from ts)
