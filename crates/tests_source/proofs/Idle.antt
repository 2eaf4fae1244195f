-- A source all of whose records are committed: all are synced.
use Rattle.std.proofs.Common.{◌≡◌, sym, false, length, arith}
use Rattle.std.proofs.lemmas.Bool.{ltb-false}
use Rattle.source_core.specs.Source.{Source, IsSound}
use Rattle.source_core.specs.Calls.{is_busy}

pub all_synced : (s : Source) → IsSound s → false ≡ is_busy s → s.synced ≡ length s.log
all_synced s sound idle =
    let all = ltb-false s.committed (length s.log) (sym idle) in omega (arith, all, sound.synced_within, sound.committed_within)
