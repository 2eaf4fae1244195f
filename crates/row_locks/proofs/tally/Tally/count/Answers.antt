use Rattle.std.proofs.Common.{◌∙◌, ap}
use Rattle.std.specs.Prelude.{unwrap_or}
use Rattle.std.specs.FinMap.{get}
use Rattle.row_map.specs.RoomyMap.{RoomyMap}
use Rattle.row_locks.specs.declared.tally.Count.{Count}
use Rattle.row_locks.specs.Tally.{opposing, nobody}
use Rattle.row_locks.proofs.Counts.{found_or_nobody}
use Rattle.row_locks.proofs.tally.Tally.count.Goals as goal

pub returns : goal.returns
returns c = λ mode.
    ap (λ count. opposing count mode) (c.unwrap_or.ensures ∙ ap (λ o. unwrap_or o nobody) (c.get.ensures ∙ ap (λ (k : RoomyMap Count). get k.map c.args.row) c.self.view_is))
    ∙ found_or_nobody (get c.args.self.now.map c.args.row) mode
