use Rattle.std.proofs.Common.{◌≡◌, ◌∙◌, rules, is_some}
use Rattle.std.specs.List.{count_by}
use Rattle.store_trait.specs.Batch.{Entry}
use Rattle.row_index.specs.Keys.{mark_left}
use Rattle.row_index.proofs.Walked.{count_listed}
use Rattle.row_index.proofs.index.marks_in.Goals as goal

pub returns : goal.returns
returns c =
    let counted : c.count.result ≡ count_by (λ (e : Entry). is_some (mark_left c.args.schema.now e)) c.args.entries.now = search rules in
    counted ∙ count_listed (mark_left c.args.schema.now) c.args.entries.now
