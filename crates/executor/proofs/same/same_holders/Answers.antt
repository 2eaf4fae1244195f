use Rattle.std.proofs.lemmas.Bool.Decides.{Decides-int_eq}
use Rattle.std.proofs.lemmas.Slice.Eq.{slice_eq-Decides}
use Rattle.record_codec.proofs.Comparing.{along, row_id_Decides}
use Rattle.executor.proofs.Comparing.{pair_Decides, option_Decides}
use Rattle.executor.proofs.same.same_holders.Goals as goal

pub returns : goal.returns
returns c =
    along c.eq.result c.list.ensures.value c.list-2.ensures.value
    (slice_eq-Decides (pair_Decides row_id_Decides (option_Decides Decides-int_eq)) c.list.result.now c.list-2.result.now c.eq.result c.eq.ensures)
