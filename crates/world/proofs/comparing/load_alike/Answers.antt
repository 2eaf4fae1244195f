use Rattle.world.proofs.Alike.{alike_then, alike_else}
use Rattle.world.proofs.comparing.load_alike.Goals as goal

pub returns-then-all_loaded : goal.returns-then-all_loaded
returns-then-all_loaded c =
    let one = c.entries.ensures.value in
    let other = c.entries-then-all_loaded.ensures.value in
    alike_then c.args.one.now c.args.other.now c.all_loaded.result c.all_loaded-then-all_loaded.result (rw one at c.entries.ensures.rising) (rw other at c.entries-then-all_loaded.ensures.rising)
    (rw one at c.all_loaded.ensures) (rw other at c.all_loaded-then-all_loaded.ensures) c.if-all_loaded.true

pub returns-else-all_loaded : goal.returns-else-all_loaded
returns-else-all_loaded c =
    let one = c.entries.ensures.value in
    alike_else c.args.one.now c.args.other.now c.all_loaded.result (rw one at c.entries.ensures.rising) (rw one at c.all_loaded.ensures) c.if-all_loaded.false
