use Rattle.std.proofs.Common.{◌≡◌, ap, ◌∙◌}
use Rattle.std.specs.FinMap.{put}
use Rattle.schema.specs.RowId.{row_cmp}
use Rattle.store_trait.specs.Batch.{in_order}
use Rattle.overlay.specs.Pending.{Pending, pushed}
use Rattle.overlay.proofs.Order.{in_order-updates}
use Rattle.overlay.proofs.Pending.push.Goals as goal

same_parts : {a b : Pending} → a.changes ≡ b.changes → a.left ≡ b.left → a.kin ≡ b.kin → a.marks ≡ b.marks → a ≡ b
same_parts changes left kin marks = λ i. record { changes = changes i; left = left i; kin = kin i; marks = marks i }

pub returns-clause-ok : goal.returns-clause-ok
returns-clause-ok c =
    let rows = c.make_room.new.self.left.entries in
    let step = c.args.step.now in
    let left = in_order-updates rows c.insert.new.self.entries c.target.result step.left c.in_ok-insert.ensures.updates.0 ∙ ap (λ q. put row_cmp q step.left (in_order rows)) c.target.ensures in
    same_parts c.put_last.ensures.changes (ap (λ m. in_order m.entries) c.put_last.ensures.left ∙ left) c.put_last.ensures.kin c.put_last.ensures.marks
    ∙ ap (λ (p : Pending). pushed p c.args.change step) (c.make_room.ensures.same ∙ c.self.view_is)
