use Rattle.std.proofs.Common.{rules, of_calls}
use Rattle.std.proofs.lemmas.Fn.{always_returns_same}
use Rattle.vector_store.specs.Contents.{KeyedRow}
use Rattle.vector_store.specs.Places.{is_passed}
use Rattle.vector_store.proofs.Passing.{are_parted}
use Rattle.vector_store.proofs.search.passed_rows.Goals as goal

pub returns-clause-passed : goal.returns-clause-passed
returns-clause-passed c =
    c.partition_point.ensures.partitioned (λ (row : KeyedRow). is_passed c.args.table c.args.above row.0) (always_returns_same _ _ _ (λ a r f called. search (rules, of_calls)))
    (are_parted c.args.rows.now c.args.table c.args.above c.requires)
