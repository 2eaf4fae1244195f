use Rattle.std.proofs.Common.{◌∙◌, ◌<◌, length, get_or, pos, w64, FitsSigned, arith, rules}
use Rattle.std.proofs.lemmas.List.{set-get_or}
use Rattle.std.proofs.lemmas.Int.{to_z-of_z}
use Rattle.rows.proofs.Assigned.{room_ahead, room_named, room_other, assign_named, assign_other}
use Rattle.rows.proofs.naming.assign.Goals as goal
use Rattle.rows.proofs.naming.assign.Goals.{then-rest-eq1, else-rest-eq1}

pub bounds-values-used : goal.bounds-values-used
bounds-values-used c = room_ahead c.loop-column.rest c.loop-column.used _ c.loop-column.invariant.room c.if-rest-eq1.true

pub loop-column-preserved : goal.loop-column-preserved
loop-column-preserved c =
    let here : c.loop-column.column-index < length c.loop-column.columns = omega arith in
    elim c.if-rest-eq1.branch [
      | then-rest-eq1 w ↦
          let room = room_ahead c.loop-column.rest c.loop-column.used _ c.loop-column.invariant.room w.if-rest-eq1.true in
          let fits : FitsSigned w64 (get_or c.args.values.now c.loop-column.used (pos 0)) = search rules in
          let same = to_z-of_z w64 (get_or c.args.values.now c.loop-column.used (pos 0)) fits in
          rw (w.columns-is, w.used-is, same) (record {
            room = room_named c.loop-column.rest c.loop-column.used _ c.loop-column.invariant.room w.if-rest-eq1.true;
            so_far = c.loop-column.invariant.so_far ∙ assign_named c.loop-column.rest c.loop-column.used c.loop-column.column-index _ c.loop-column.columns here w.if-rest-eq1.true room;
          })
      | else-rest-eq1 w ↦
          rw (w.columns-is, w.used-is, set-get_or c.loop-column.columns c.loop-column.column-index (pos 0)) (record {
            room = room_other c.loop-column.rest c.loop-column.used _ c.loop-column.invariant.room w.if-rest-eq1.false;
            so_far = c.loop-column.invariant.so_far ∙ assign_other c.loop-column.rest c.loop-column.used c.loop-column.column-index _ c.loop-column.columns here w.if-rest-eq1.false;
          })
    ]
