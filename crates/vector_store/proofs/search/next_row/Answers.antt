use Rattle.std.proofs.Common.{rules, w64, FitsSigned, to_z-of_z}
use Rattle.vector_store.proofs.Passing.{none_left, other_table, same_table}
use Rattle.vector_store.proofs.search.next_row.Goals as goal

pub returns-in_err-id : goal.returns-in_err-id
returns-in_err-id c =
    let p = c.passed_rows in
    rw c.from_residual.ensures (none_left c.args.rows.now c.args.table c.args.above p.result c.requires p.ensures.within p.ensures.passed c.in_err-id.ensures.lookup.3)

pub returns-then-id-table : goal.returns-then-id-table
returns-then-id-table c =
    let fits : FitsSigned w64 c.in_ok-id.field-0.now.0.key = search rules in
    let p = c.passed_rows in
    let found = c.in_ok-id.ensures.lookup in
    let least = same_table c.args.rows.now c.args.table c.args.above p.result c.requires p.ensures.within p.ensures.passed c.in_ok-id.field-0.now found.3.0 found.1 c.if-id-table.true in
    rw (to_z-of_z fits) least

pub returns-else-id-table : goal.returns-else-id-table
returns-else-id-table c =
    let p = c.passed_rows in
    let found = c.in_ok-id.ensures.lookup in
    other_table c.args.rows.now c.args.table c.args.above p.result c.requires p.ensures.within p.ensures.passed c.in_ok-id.field-0.now found.3.0 found.1 c.if-id-table.false
