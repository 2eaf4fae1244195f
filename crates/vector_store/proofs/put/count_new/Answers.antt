use mir.Val.{bool_byte}
use Rattle.std.proofs.Common.{◌≡◌, Bool, true, false, refl}
use Rattle.vector_store.specs.Gap.{count_of}
use Rattle.vector_store.proofs.Merging.{front_order, counting_on}
use Rattle.vector_store.proofs.put.count_new.Goals as goal

byte_of : (b : Bool) → bool_byte b ≡ count_of b
byte_of true = refl
byte_of false = refl

pub look_up-place-requires : goal.look_up-place-requires
look_up-place-requires c =
    front_order c.args.entries.now c.loop-entry.left.now c.in-Some.before.now c.in-Some.entry.now c.args.rows.now c.loop-entry.end c.loop-entry.count c.loop-entry.invariant c.in-Some.ensures.cases.0
    c.requires.rising c.requires.order

pub loop-entry-preserved : goal.loop-entry-preserved
loop-entry-preserved c =
    let l = c.look_up-place in
    rw (c.from-count.ensures, byte_of l.result.1)
    (counting_on c.args.entries.now c.loop-entry.left.now c.in-Some.before.now c.in-Some.entry.now c.args.rows.now c.loop-entry.end c.loop-entry.count c.loop-entry.invariant c.in-Some.ensures.cases.0
    c.requires.rising c.requires.order
    l.result.0 l.result.1 l.ensures.within l.ensures.behind (rw c.is_some.ensures at l.ensures.adds))
