use Rattle.std.proofs.Common.{◌≡◌, ◌∙◌, ap, refl, sym, subst, ℕ, Bool, List, [], map}
use Rattle.std.specs.FinMap.{empty}
use Rattle.std.specs.List.Sorted.{IsPermutation}
use Rattle.std.specs.Option.{IfSome}
use Rattle.schema.specs.declared.Table.{Table}
use Rattle.store_trait.specs.Batch.{Entry, put_batch, all_rows}
use Rattle.tracker_trait.specs.Kind.{Kind}
use Rattle.source_core.specs.Source.{Source, new_source}
use Rattle.replica_core.specs.Replica.{Replica}
use Rattle.replica_core.specs.Calls.{new_over}
use Rattle.world.specs.Run.{HasRun}
use Rattle.world.specs.Fresh.{IsFirstFile}
use Rattle.world.specs.Seen.{seen}
use Rattle.world.specs.Legal.{Setup}
use Rattle.mtr.specs.Pair.{present}
use Rattle.mtr.proofs.run.open.Goals as goal

-- a new source over these rows is the new one of its own tables, limit and kind
new_of_its_own : (s : Source) (ts : List Table) (base : List Entry) (limit : ℕ) (kind : Kind) → s ≡ new_source ts base limit kind → s ≡ new_source s.tables base s.limit s.kind
new_of_its_own s ts base limit kind new = subst (λ (x : Source). x ≡ new_source x.tables base x.limit x.kind) (sym new) refl

-- what a world is set up with that is made of a new source and a new replica over these
set_up : {s : Source} {r : Replica} {own named identifier : List ℕ} {ts tables : List Table} {base : List Entry} {limit : ℕ} {kind mode : Kind} {workers : ℕ} {preserve : Bool} →
    s ≡ new_source ts base limit kind → own ≡ named → r ≡ new_over ts named base workers preserve → named ≡ identifier → ts ≡ tables → kind ≡ mode →
    ◌≡◌ {A = Setup} (record { identifier = own; tables = s.tables; base = s.base; limit = s.limit; kind = s.kind; workers = r.workers; preserve = r.preserve })
    (record { identifier = identifier; tables = tables; base = base; limit = limit; kind = mode; workers = workers; preserve = preserve })
set_up {s = s} {tables = tables} {mode = mode} source its replica told over is =
    let same = its ∙ told in
    let in_tables : s.tables ≡ tables = ap (λ (x : Source). x.tables) source ∙ over in
    let in_kind : s.kind ≡ mode = ap (λ (x : Source). x.kind) source ∙ is in
    λ i. record { identifier = same i; tables = in_tables i; base = (source i).base; limit = (source i).limit; kind = in_kind i; workers = (replica i).workers; preserve = (replica i).preserve }

pub into_world-requires-clause-source : goal.into_world-requires-clause-source
into_world-requires-clause-source g c =
    let base : List Entry = all_rows (put_batch c.in-Some.base empty) in
    let kind : Kind = g.T.Tracker.kind c.parts_over-parts.result.tracker in
    new_of_its_own c.in-Some-2.pair.source c.in_ok-schema.schema base 9223372036854775807 kind
    (subst (λ o. IfSome o (λ pair. pair.source ≡ new_source c.in_ok-schema.schema base 9223372036854775807 kind)) c.in-Some-2.is c.in_ok-pair.ensures.source)

pub into_world-requires-clause-log : goal.into_world-requires-clause-log
into_world-requires-clause-log g c =
    subst (λ o. IfSome o (λ pair. IsFirstFile g.D.Device.seen g.D.Device.may_leave pair.log)) c.in-Some-2.is c.in_ok-pair.ensures.log

pub returns-in_ok-into_world-in-Some-2 : goal.returns-in_ok-into_world-in-Some-2
returns-in_ok-into_world-in-Some-2 g c =
    let schema = c.in_ok-schema.schema in
    let rows : List Entry = all_rows (put_batch c.in-Some.base empty) in
    let kind : Kind = g.T.Tracker.kind c.parts_over-parts.result.tracker in
    let identifier = c.from_bytes-from.result in
    let source : c.in-Some-2.pair.source ≡ new_source schema rows 9223372036854775807 kind =
    subst (λ o. IfSome o (λ pair. pair.source ≡ new_source schema rows 9223372036854775807 kind)) c.in-Some-2.is c.in_ok-pair.ensures.source in
    let replica : c.in-Some-2.pair.replica ≡ new_over schema identifier rows c.args.sides.workers c.args.sides.preserve =
    subst (λ o. IfSome o (λ pair. pair.replica ≡ new_over schema identifier rows c.args.sides.workers c.args.sides.preserve)) c.in-Some-2.is c.in_ok-pair.ensures.replica in
    let named : c.in-Some-2.pair.log.log.head.source ≡ identifier =
    subst (λ o. IfSome o (λ pair. pair.log.log.head.source ≡ identifier)) c.in-Some-2.is c.in_ok-pair.ensures.identifier in
    record {
      base = c.in-Some.base;
      given = subst (λ o. IfSome o (λ batch. IsPermutation (map present c.args.rows.now) batch)) c.in-Some.is c.in_ok-base.ensures.rows;
      starts = subst (λ setup. HasRun g.S.RowStore.contents setup [] [] (seen c.in_ok-into_world-in-Some-2.field-0))
          (c.in_ok-into_world-in-Some-2.ensures.setup
          ∙ set_up source named replica c.from_bytes-from.ensures c.in_ok-schema.ensures.value (ap g.T.Tracker.kind c.parts_over-parts.ensures.tracker))
          c.in_ok-into_world-in-Some-2.ensures.starts;
    }
