use Rattle.std.proofs.Common.{◌≡◌, ◌∙◌, rules, is_some}
use Rattle.std.specs.List.{count_by}
use Rattle.store_trait.specs.Batch.{Entry}
use Rattle.rows.specs.Step.{parent_at}
use Rattle.row_index.proofs.Walked.{count_listed}
use Rattle.row_index.proofs.children.parents_in.Goals as goal

pub returns : goal.returns
returns c =
    let counted : c.count.result ≡ count_by (λ (e : Entry). is_some (parent_at c.args.schema.now e.0.table e.1)) c.args.entries.now = search rules in
    counted ∙ count_listed (λ (e : Entry). parent_at c.args.schema.now e.0.table e.1) c.args.entries.now
