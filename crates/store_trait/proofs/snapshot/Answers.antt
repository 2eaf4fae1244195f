use Rattle.std.proofs.Common.{◌≡◌, ◌∙◌, sym, ap, subst, arith, rules, List, [], ◌∷◌, ◌++◌, Some, None}
use Rattle.std.specs.FinMap.{len, empty}
use Rattle.store_trait.specs.Batch.{Entry, put_batch, all_rows}
use Rattle.store_trait.proofs.Batches.{put_batch-all_rows}
use Rattle.store_trait.proofs.Visits.{none_ahead}
use Rattle.store_trait.proofs.Copies.{Copies, none_copied, copies_on, all_copied}
use Rattle.store_trait.proofs.snapshot.Goals as goal
use Rattle.store_trait.proofs.snapshot.Goals.{After-from_rising, else-loop-test, then-loop-test+in_default}

pub loop-init : goal.loop-init
loop-init g c =
    subst (Copies c.args.schema.now (g.S.RowStore.contents c.args.store.now) None 0) (sym c.in_ok-entries.ensures.items) (none_copied c.args.schema.now (g.S.RowStore.contents c.args.store.now))

pub loop-preserved : goal.loop-preserved
loop-preserved g c =
    let pushed : c.push.new.self.items ≡ c.loop.entries.items ++ (c.in-Some.id, Some c.in-Some.row) ∷ [] = search rules in
    rw pushed (copies_on c.args.schema.now (g.S.RowStore.contents c.args.store.now) c.loop.last c.loop.counter c.loop.entries.items c.loop.invariant c.in-Some.id c.in-Some.row
    (rw c.tables.ensures.value at c.in-Some.ensures))

all_in : (g : _) (c : After-from_rising g) → c.from_rising.result ≡ all_rows (g.S.RowStore.contents c.args.store.now)
all_in g c =
    let db = g.S.RowStore.contents c.args.store.now in
    c.from_rising.ensures ∙ elim c.loop-test.branch [
      | else-loop-test w ↦ let size : c.loop.counter ≡ len db = omega arith in all_copied c.args.schema.now db c.loop.last c.loop.counter c.loop.entries.items c.loop.invariant size
      | then-loop-test+in_default w ↦ absurd (none_ahead c.args.schema.now db c.loop.last c.loop.counter c.loop.invariant.visits (omega arith) (rw w.tables.ensures.value at w.in_default.ensures)
          c.requires)
    ]

pub returns-clause-rows : goal.returns-clause-rows
returns-clause-rows g c = all_in g c

pub returns-clause-loads : goal.returns-clause-loads
returns-clause-loads g c =
    ap (λ (batch : List Entry). put_batch batch empty) (all_in g c) ∙ put_batch-all_rows (g.S.RowStore.contents c.args.store.now)
