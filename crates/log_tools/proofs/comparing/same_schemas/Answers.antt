use Rattle.std.proofs.lemmas.Slice.Eq.{slice_eq-Decides}
use Rattle.record_codec.proofs.Comparing.{along}
use Rattle.executor.proofs.Comparing.{table_Decides}
use Rattle.log_tools.proofs.comparing.same_schemas.Goals as goal

pub returns : goal.returns
returns c =
    along c.eq.result c.tables.ensures.value c.tables-2.ensures.value
    (slice_eq-Decides (table_Decides) c.tables.result.now c.tables-2.result.now c.eq.result c.eq.ensures)
