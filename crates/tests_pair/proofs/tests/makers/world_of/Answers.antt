use Rattle.std.proofs.Common.{◌≡◌, refl, sym, subst, ℕ, List}
use Rattle.std.specs.FinMap.{empty}
use Rattle.std.specs.Option.{IfSome}
use Rattle.schema.specs.declared.Table.{Table}
use Rattle.store_trait.specs.Batch.{Entry, put_batch, all_rows}
use Rattle.tracker_trait.specs.Kind.{Kind}
use Rattle.source_core.specs.Source.{Source, new_source}
use Rattle.tests_pair.proofs.tests.makers.world_of.Goals as goal

-- a new source over these rows is the new one of its own tables, limit and kind
new_of_its_own : (s : Source) (ts : List Table) (base : List Entry) (limit : ℕ) (kind : Kind) → s ≡ new_source ts base limit kind → s ≡ new_source s.tables base s.limit s.kind
new_of_its_own s ts base limit kind new = subst (λ (x : Source). x ≡ new_source x.tables base x.limit x.kind) (sym new) refl

pub into_world-requires-clause-source : goal.into_world-requires-clause-source
into_world-requires-clause-source g c =
    let s = c.in-Some.sides.source in
    let base : List Entry = all_rows (put_batch c.args.base empty) in
    let kind : Kind = g.T.Tracker.kind c.args.parts.tracker in
    new_of_its_own s c.args.schema base 66000 kind
    (subst (λ o. IfSome o (λ pair. pair.source ≡ new_source c.args.schema base 66000 kind)) c.in-Some.is c.in_ok-sides.ensures.source)
