use Rattle.std.proofs.Common.{◌∙◌, refl, sym, ap, Some, None, Vec, Global}
use Rattle.std.proofs.lemmas.List.{append-nil}
use Rattle.schema.specs.declared.Mark.{Mark}
use Rattle.rows.specs.Database.{mark_in}
use Rattle.row_index.proofs.Walked.{one_listed, listed_all}
use Rattle.row_index.proofs.index.marks_before.Goals as goal
use Rattle.row_index.proofs.index.marks_before.Goals.{in-Some+in_ok-push, in_default}

pub loop-entry-preserved : goal.loop-entry-preserved
loop-entry-preserved g c =
    let f = mark_in c.args.schema.now (g.S.RowStore.contents c.args.store.now) in
    let entries = c.marked_entries-entry-items.result.now in
    let found = c.loop-entry.marks.items in
    elim c.match-mark_in.branch [
      | in-Some+in_ok-push w ↦
          one_listed f entries c.loop-entry.entry-index c.entry-item.result found
          (Some w.in-Some.mark) c.loop-entry-test.true c.entry-item.is c.loop-entry.invariant
          w.in-Some.is c.mark_in.ensures (ap (λ (v : Vec Mark Global). v.items) w.marks-is) w.in_ok-push.ensures.items
      | in_default w ↦
          one_listed f entries c.loop-entry.entry-index c.entry-item.result found None c.loop-entry-test.true c.entry-item.is c.loop-entry.invariant
          w.in_default.is c.mark_in.ensures (ap (λ (v : Vec Mark Global). v.items) w.marks-is) (sym (append-nil found))
    ]

pub returns : goal.returns
returns g c =
    let db = g.S.RowStore.contents c.args.store.now in
    listed_all (mark_in c.args.schema.now db) c.marked_entries-entry-items.result.now c.marked_entries-entry-items.result.now c.loop-entry.entry-index c.loop-entry.marks.items
    c.loop-entry-test.false refl c.loop-entry.invariant
    ∙ c.marked_entries-entry-items.ensures.before db
