use Rattle.std.proofs.Common.{◌≡◌, ◌∙◌, ℤ, ap, subst}
use Rattle.std.specs.FinMap.{get, empty}
use Rattle.row_map.specs.RoomyMap.{RoomyMap}
use Rattle.store_trait.specs.Batch.{IsRising}
use Rattle.row_index.specs.Keys.{Keys, taken_up}
use Rattle.row_index.proofs.Keys.{loaded_keys}
use Rattle.row_index.proofs.index.Index.of.Goals as goal

pub returns : goal.returns
returns c apart mark =
    let ts = c.args.schema.now in
    let keys_are : c.take_up.new.keys.map ≡ taken_up ts c.args.batch.now empty =
    c.take_up.ensures ∙ (λ i. taken_up ts (c.entries.ensures.value i) ((ap (λ (k : RoomyMap ℤ). k.map) c.index.view_is ∙ c.in_ok-reserve.ensures.map ∙ c.new-index.ensures) i)) in
    ap (λ (k : Keys). get k mark) keys_are ∙ loaded_keys ts c.args.batch.now (subst IsRising c.entries.ensures.value c.entries.ensures.rising) apart mark
