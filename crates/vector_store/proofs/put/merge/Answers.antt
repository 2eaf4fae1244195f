use Rattle.vector_store.specs.Contents.{contents_of}
use Rattle.vector_store.specs.Gap.{around}
use Rattle.vector_store.proofs.Merging.{none_merged, next_behind, next_room, merging_on}
use Rattle.vector_store.proofs.put.merge.Goals as goal

pub loop-entry-init : goal.loop-entry-init
loop-entry-init c = none_merged c.args.entries.now c.args.gap c.args.rows.now c.requires.gap c.requires.order c.requires.last c.requires.room

pub put_one-gap-requires-clause-behind : goal.put_one-gap-requires-clause-behind
put_one-gap-requires-clause-behind c =
    next_behind c.args.entries.now c.loop-entry.left.now c.in-Some.before.now c.in-Some.entry.now
    (contents_of (around c.args.gap c.args.rows.now)) c.loop-entry.gap c.loop-entry.rows c.loop-entry.invariant c.in-Some.ensures.cases.0 c.requires.rising

pub put_one-gap-requires-clause-room : goal.put_one-gap-requires-clause-room
put_one-gap-requires-clause-room c =
    next_room c.args.entries.now c.loop-entry.left.now c.in-Some.before.now c.in-Some.entry.now
    (contents_of (around c.args.gap c.args.rows.now)) c.loop-entry.gap c.loop-entry.rows c.loop-entry.invariant c.in-Some.ensures.cases.0 c.requires.rising

pub loop-entry-preserved : goal.loop-entry-preserved
loop-entry-preserved c =
    let p = c.put_one-gap in
    merging_on c.args.entries.now c.loop-entry.left.now c.in-Some.before.now c.in-Some.entry.now
    (contents_of (around c.args.gap c.args.rows.now)) c.loop-entry.gap c.loop-entry.rows c.loop-entry.invariant c.in-Some.ensures.cases.0 c.requires.rising
    p.result p.new.rows p.ensures.gap p.ensures.order p.ensures.put p.ensures.behind p.ensures.room
