use Rattle.std.proofs.Common.{◌≡◌, ◌∙◌, ap, subst, ℕ, List, length, [], ◌∷◌, ◌++◌, arith}
use Rattle.std.proofs.lemmas.Grind.{common_steps}
use Rattle.record_codec.specs.declared.records.Record.{Record}
use Rattle.gtid_set.specs.Ids.{first_ids}
use Rattle.relay.specs.Relay.{Relay, with_accepted}
use Rattle.relay.specs.Touches.{LastTouches, LastMarks, Notes, NotesMarks}
use Rattle.relay.proofs.Parts.{pushed_past}
use Rattle.relay.proofs.Judged.{next_of, ids_before}
use Rattle.relay.proofs.Last.{one_more_kept}
use Rattle.relay.proofs.Relay.accept.Goals as goal

pub take_room-taken-requires-clause-before : goal.take_room-taken-requires-clause-before
take_room-taken-requires-clause-before c =
    let was = c.self.inside in
    let r : Relay = record { tables = was.schema; source = was.source; accepted = was.gone ++ was.kept.items; gone = length was.gone } in
    let next = next_of r c.args.self.now c.args.from c.args.new c.self.view_is c.requires in
    ids_before was.source c.args.from (length (was.gone ++ was.kept.items)) c.args.new.gno was.ids next.0 next.1.gno c.self.invariant.ids_are

pub invariant_of-self-2 : goal.invariant_of-self-2
invariant_of-self-2 c =
    let was = c.self.inside in
    let r : Relay = record { tables = was.schema; source = was.source; accepted = was.gone ++ was.kept.items; gone = length was.gone } in
    let pushed : c.push_reserved.new.self.items ≡ was.kept.items ++ c.args.new ∷ [] = grind (arith, common_steps) in
    let new = c.args.new in
    let next = next_of r c.args.self.now c.args.from new c.self.view_is c.requires in
    one_more_kept was.schema was.source (was.gone ++ was.kept.items) was.ids was.touches.rows.map was.touches.marks.map new (record {
      kept = c.self.invariant;
      next = next.1;
      left = was.gone ++ c.push_reserved.new.self.items;
      left_is = pushed_past was.gone was.kept.items c.push_reserved.new.self.items new pushed;
      with_next = c.take_room-taken.new.ids;
      ids_are = c.in_default.ensures.ids ∙ ap (λ (s : List ℕ). first_ids s new.gno) next.0;
      now = c.note.new.self.rows.map;
      notes = subst (λ (t : LastTouches). Notes t new c.note.new.self.rows.map) c.take_room-taken.ensures.rows c.note.ensures.rows;
      marks_now = c.note.new.self.marks.map;
      notes_marks = subst (λ (t : LastMarks). NotesMarks new.gno t new.marks c.note.new.self.marks.map) c.take_room-taken.ensures.marks c.note.ensures.marks;
    })

pub returns-clause-ok : goal.returns-clause-ok
returns-clause-ok c =
    let was = c.self.inside in
    let pushed : c.push_reserved.new.self.items ≡ was.kept.items ++ c.args.new ∷ [] = grind (arith, common_steps) in
    ap (λ (l : List Record). record { tables = was.schema; source = was.source; accepted = l; gone = length was.gone })
    (pushed_past was.gone was.kept.items c.push_reserved.new.self.items c.args.new pushed)
    ∙ ap (λ (r : Relay). with_accepted r c.args.new) c.self.view_is
