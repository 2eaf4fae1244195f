use Rattle.std.proofs.lemmas.Slice.Eq.{slice_eq-Decides}
use Rattle.record_codec.proofs.Comparing.{along, row_id_Decides}
use Rattle.executor.proofs.Comparing.{pair_Decides, option_Decides, columns_Decides}
use Rattle.log_tools.proofs.comparing.same_batches.Goals as goal

pub returns : goal.returns
returns c =
    along c.eq.result c.entries.ensures.value c.entries-2.ensures.value
    (slice_eq-Decides (pair_Decides row_id_Decides (option_Decides columns_Decides)) c.entries.result.now c.entries-2.result.now c.eq.result c.eq.ensures)
