use Rattle.std.proofs.Common.{◌≡◌, ℕ, ap, sym, subst, ◌+◌, arith, length, drop, [], ◌∷◌, Option}
use Rattle.std.proofs.lemmas.List.{drop_all}
use Rattle.schema.specs.declared.RowId.{RowId}
use Rattle.store_trait.specs.Batch.{Entry}
use Rattle.rows.specs.Step.{parent_at}
use Rattle.row_map.specs.RoomyMap.{RoomyMap}
use Rattle.row_index.specs.Counts.{parents_left, Recounts}
use Rattle.row_index.proofs.Recounts.{next_got, is_below}
use Rattle.row_index.proofs.Walked.{some_listed, none_listed}
use Rattle.row_index.proofs.children.Children.take_up.Goals as goal
use Rattle.row_index.proofs.children.Children.take_up.Goals.{In-Some, in-Some, in_default}

-- what is still to come, where the entry gives its row a parent
next : (c : In-Some) → parents_left c.args.schema.now (drop c.loop-entry.entry-index c.args.entries.now)
    ≡ c.in-Some.parent ∷ parents_left c.args.schema.now (drop (c.loop-entry.entry-index + 1) c.args.entries.now)
next c =
    some_listed (λ (e : Entry). parent_at c.args.schema.now e.0.table e.1) c.args.entries.now c.loop-entry.entry-index c.entry-item.result c.parent_left.result c.in-Some.parent
    c.loop-entry-test.true c.entry-item.is c.parent_left.ensures c.in-Some.is

pub take_up_one-requires-clause-room : goal.take_up_one-requires-clause-room
take_up_one-requires-clause-room c =
    let here = goal.at.take_up_one-requires-clause-room c in
    omega (arith, ap length (next here.In-Some), c.loop-entry.invariant.room)

pub take_up_one-requires-clause-fits : goal.take_up_one-requires-clause-fits
take_up_one-requires-clause-fits c =
    let here = goal.at.take_up_one-requires-clause-fits c in
    let all = parents_left c.args.schema.now c.args.entries.now in
    let rest = parents_left c.args.schema.now (drop (c.loop-entry.entry-index + 1) c.args.entries.now) in
    is_below all rest c.in-Some.parent c.args.self.now.map c.loop-entry.self.map c.args.rows
    (subst (λ l. Recounts l all c.args.self.now.map c.loop-entry.self.map) (next here.In-Some) c.loop-entry.invariant.counts) (c.requires.fits c.in-Some.parent)

pub loop-entry-preserved : goal.loop-entry-preserved
loop-entry-preserved c =
    let f : Entry → Option RowId = λ (e : Entry). parent_at c.args.schema.now e.0.table e.1 in
    let entries = c.args.entries.now in
    let i = c.loop-entry.entry-index in
    let entry = c.entry-item.result in
    let all = parents_left c.args.schema.now entries in
    let rest = parents_left c.args.schema.now (drop (i + 1) entries) in
    let before = c.args.self.now.map in
    elim c.match-parent_left.branch [
      | in-Some w ↦
          let on = some_listed f entries i entry c.parent_left.result w.in-Some.parent c.loop-entry-test.true c.entry-item.is c.parent_left.ensures w.in-Some.is in
          record {
            counts = next_got all rest w.in-Some.parent before c.loop-entry.self.map c.match-parent_left.self.map
                (subst (λ l. Recounts l all before c.loop-entry.self.map) on c.loop-entry.invariant.counts)
                (subst (λ (t : RoomyMap ℕ). Recounts [] (w.in-Some.parent ∷ []) c.loop-entry.self.map t.map) (sym w.self-is) w.take_up_one.ensures.counts);
            room = omega (arith, ap length on, c.loop-entry.invariant.room, w.take_up_one.ensures.room, ap (λ (t : RoomyMap ℕ). t.room) w.self-is);
          }
      | in_default w ↦
          let on = none_listed f entries i entry c.parent_left.result c.loop-entry-test.true c.entry-item.is c.parent_left.ensures w.in_default.is in
          record {
            counts = subst (λ (t : RoomyMap ℕ). Recounts rest all before t.map) (sym w.self-is) (subst (λ l. Recounts l all before c.loop-entry.self.map) on c.loop-entry.invariant.counts);
            room = omega (arith, ap length on, c.loop-entry.invariant.room, ap (λ (t : RoomyMap ℕ). t.room) w.self-is);
          }
    ]

pub returns : goal.returns
returns c =
    subst (λ l. Recounts (parents_left c.args.schema.now l) (parents_left c.args.schema.now c.args.entries.now) c.args.self.now.map c.loop-entry.self.map)
    (drop_all c.loop-entry.entry-index c.args.entries.now c.loop-entry-test.false) c.loop-entry.invariant.counts
