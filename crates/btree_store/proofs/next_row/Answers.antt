use Rattle.std.proofs.Common.{◌≡◌, ◌∙◌, ap, subst, rules, w64, ℤ, FitsSigned, to_z-of_z}
use Rattle.std.specs.BTreeMap.Range.{IsRangeOf}
use Rattle.std.specs.declared.ops.Bound.{Bound}
use Rattle.std.specs.declared.ops.Bound.TheVariants.{Excluded}
use Rattle.schema.specs.declared.RowId.{RowId}
use Rattle.schema.specs.RowId.{row_cmp}
use Rattle.store_trait.specs.Contents.{row_at}
use Rattle.btree_store.proofs.Ranges.{start_of, end_of, none_next, first_next}
use Rattle.btree_store.proofs.next_row.Goals as goal
use Rattle.btree_store.proofs.next_row.Goals.{in-None, in-Some, After-range}

starts : (c : After-range) → c.match-above.start ≡ start_of c.args.table c.args.above
starts c = elim c.match-above.branch [
  | in-None w ↦ rw w.in-None.is w.start-is
  | in-Some w ↦ let fits : FitsSigned w64 w.in-Some.key = search rules in rw w.in-Some.is (w.start-is ∙ ap (λ (key : ℤ). Excluded (row_at c.args.table key)) (to_z-of_z fits))
]

range_of : (c : After-range) → IsRangeOf row_cmp (start_of c.args.table c.args.above) (end_of c.args.table) c.args.rows.now c.range.result
range_of c = subst (λ (start : Bound RowId). IsRangeOf row_cmp start (end_of c.args.table) c.args.rows.now c.range.result) (starts c) (c.range.ensures.in_range tt)

pub returns-in_err-id : goal.returns-in_err-id
returns-in_err-id c =
    rw c.from_residual.ensures (none_next c.args.rows.now c.args.table c.args.above c.range.result (range_of (goal.at.returns-in_err-id c).After-range) c.requires c.in_err-id.ensures.steps.0)

pub returns : goal.returns
returns c =
    let fits : FitsSigned w64 c.in_ok-id.id.now.key = search rules in
    let least = first_next c.args.rows.now c.args.table c.args.above c.range.result
    (range_of (goal.at.returns c).After-range) c.requires c.in_ok-id.id.now c.in_ok-id.row.now c.next.new.self c.in_ok-id.ensures.steps in
    rw (c.row.ensures, to_z-of_z fits) least
