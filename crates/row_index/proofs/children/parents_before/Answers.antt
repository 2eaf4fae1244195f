use Rattle.std.proofs.Common.{◌∙◌, refl, sym, ap, Some, None, Vec, Global}
use Rattle.std.proofs.lemmas.List.{append-nil}
use Rattle.schema.specs.declared.RowId.{RowId}
use Rattle.rows.specs.Database.{parent_in}
use Rattle.row_index.proofs.Walked.{one_listed, listed_all}
use Rattle.row_index.proofs.children.parents_before.Goals as goal
use Rattle.row_index.proofs.children.parents_before.Goals.{in-Some+in_ok-push, in_default}

pub loop-entry-preserved : goal.loop-entry-preserved
loop-entry-preserved g c =
    let f = parent_in c.args.schema.now (g.S.RowStore.contents c.args.store.now) in
    let entries = c.child_entries-entry-items.result.now in
    let found = c.loop-entry.parents.items in
    elim c.match-parent_in.branch [
      | in-Some+in_ok-push w ↦
          one_listed f entries c.loop-entry.entry-index c.entry-item.result found
          (Some w.in-Some.parent) c.loop-entry-test.true c.entry-item.is c.loop-entry.invariant
          w.in-Some.is c.parent_in.ensures (ap (λ (v : Vec RowId Global). v.items) w.parents-is) w.in_ok-push.ensures.items
      | in_default w ↦
          one_listed f entries c.loop-entry.entry-index c.entry-item.result found None c.loop-entry-test.true c.entry-item.is
          c.loop-entry.invariant
          w.in_default.is c.parent_in.ensures (ap (λ (v : Vec RowId Global). v.items) w.parents-is) (sym (append-nil found))
    ]

pub returns : goal.returns
returns g c =
    let db = g.S.RowStore.contents c.args.store.now in
    listed_all (parent_in c.args.schema.now db) c.child_entries-entry-items.result.now c.child_entries-entry-items.result.now c.loop-entry.entry-index c.loop-entry.parents.items
    c.loop-entry-test.false refl c.loop-entry.invariant
    ∙ c.child_entries-entry-items.ensures.before db
