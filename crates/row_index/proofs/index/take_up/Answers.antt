use Rattle.std.proofs.Common.{◌∙◌, ℤ, ap, sym, arith, ◌+◌, length, drop, rules, w64, FitsSigned, to_z-of_z}
use Rattle.std.specs.FinMap.{insert}
use Rattle.std.proofs.lemmas.List.{drop_all}
use Rattle.row_map.specs.RoomyMap.{RoomyMap}
use Rattle.row_index.specs.Keys.{taken_up, mark_left}
use Rattle.row_index.proofs.Walked.{mark_comes, none_comes, some_listed, none_listed}
use Rattle.row_index.proofs.index.take_up.Goals as goal
use Rattle.row_index.proofs.index.take_up.Goals.{in-Some, in_default}

pub set-requires : goal.set-requires
set-requires c =
    let on = some_listed (mark_left c.args.schema.now) c.args.entries.now c.loop-entry.entry-index c.entry-item.result c.mark_left.result c.in-Some.mark c.loop-entry-test.true c.entry-item.is
    c.mark_left.ensures c.in-Some.is in
    omega (arith, ap length on, c.loop-entry.invariant.room)

pub loop-entry-preserved : goal.loop-entry-preserved
loop-entry-preserved c =
    let ts = c.args.schema.now in
    let entries = c.args.entries.now in
    let i = c.loop-entry.entry-index in
    let entry = c.entry-item.result in
    let keys = c.loop-entry.keys.map in
    let all = taken_up ts entries c.args.keys.now.map in
    elim c.match-mark_left.branch [
      | in-Some w ↦
          let on = some_listed (mark_left ts) entries i entry c.mark_left.result w.in-Some.mark c.loop-entry-test.true c.entry-item.is c.mark_left.ensures w.in-Some.is in
          let fits : FitsSigned w64 entry.0.key = search rules in
          record {
            map = ap (λ (e : RoomyMap ℤ). taken_up ts (drop (i + 1) entries) e.map) w.keys-is
                ∙ ap (taken_up ts (drop (i + 1) entries)) (w.set.ensures.map ∙ (λ k. insert keys (w.as_row.ensures k) (to_z-of_z fits k)))
                ∙ mark_comes ts entries i entry c.loop-entry-test.true c.entry-item.is w.in-Some.mark keys all (sym c.mark_left.ensures ∙ w.in-Some.is) c.loop-entry.invariant.map;
            room = omega (arith, ap length on, c.loop-entry.invariant.room, w.set.ensures.room, ap (λ (e : RoomyMap ℤ). e.room) w.keys-is);
          }
      | in_default w ↦
          let on = none_listed (mark_left ts) entries i entry c.mark_left.result c.loop-entry-test.true c.entry-item.is c.mark_left.ensures w.in_default.is in
          record {
            map = ap (λ (e : RoomyMap ℤ). taken_up ts (drop (i + 1) entries) e.map) w.keys-is
                ∙ none_comes ts entries i entry c.loop-entry-test.true c.entry-item.is keys all (sym c.mark_left.ensures ∙ w.in_default.is) c.loop-entry.invariant.map;
            room = omega (arith, ap length on, c.loop-entry.invariant.room, ap (λ (e : RoomyMap ℤ). e.room) w.keys-is);
          }
    ]

pub returns : goal.returns
returns c =
    ap (λ l. taken_up c.args.schema.now l c.loop-entry.keys.map) (sym (drop_all c.loop-entry.entry-index c.args.entries.now c.loop-entry-test.false)) ∙ c.loop-entry.invariant.map
