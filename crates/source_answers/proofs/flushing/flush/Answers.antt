use Rattle.std.proofs.Common.{◌∙◌, sym, ap, arith, ◌-◌, List, length, map, drop, ℕ}
use Rattle.std.proofs.lemmas.List.{length-drop}
use Rattle.record_codec.specs.declared.records.Record.{Record}
use Rattle.source_core.specs.Source.{Source}
use Rattle.world.specs.Legal.{stamp_of}
use Rattle.source_answers.proofs.Answered.{waits_behind, flush_waits}
use Rattle.source_answers.proofs.flushing.flush.Goals as goal

pub overflow_sub-first : goal.overflow_sub-first
overflow_sub-first g c =
    let w = rw c.in-Ok-Some.field-0-is at c.in-Ok-Some.ensures.group in
    omega (arith, (waits_behind _ _ _ _ _ c.in-Ok-Some.ensures.sound w).0)

pub log_past-requires-clause-kept : goal.log_past-requires-clause-kept
log_past-requires-clause-kept g c =
    let w = rw c.in-Ok-Some.field-0-is at c.in-Ok-Some.ensures.group in
    let sound = c.in-Ok-Some.ensures.sound in
    let committed = ap (λ (s : Source). s.committed) (c.source-in-Ok-Some.ensures.source ∙ w.flushes.leaves) in
    omega (arith, (waits_behind _ _ _ _ _ sound w).0, committed, sound.committed_within, sound.synced_within)

pub log_past-requires-clause-within : goal.log_past-requires-clause-within
log_past-requires-clause-within g c =
    let w = rw c.in-Ok-Some.field-0-is at c.in-Ok-Some.ensures.group in
    let at = waits_behind _ _ _ _ _ c.in-Ok-Some.ensures.sound w in
    omega (arith, at.0, at.1, ap (λ (s : Source). length s.log) c.source-in-Ok-Some.ensures.source)

pub stamps_of-requires-clause-room : goal.stamps_of-requires-clause-room
stamps_of-requires-clause-room g c =
    let w = rw c.in-Ok-Some.field-0-is at c.in-Ok-Some.ensures.group in
    let at = waits_behind _ _ _ _ _ c.in-Ok-Some.ensures.sound w in
    let log = c.source-in-Ok-Some.ensures.source in
    let left = ap (λ (l : List Record). length l) c.log_past.ensures ∙ length-drop (c.in-Ok-Some.first - 1) c.source-in-Ok-Some.result.now.log in
    let count = c.queued-count.ensures ∙ ap (λ (s : Source). length s.queue) c.source-2.ensures.source in
    omega (arith, left, at.0, at.1, ap (λ (s : Source). length s.log) log, count, c.in-Ok.ensures.room)

pub returns-in-Ok-Some : goal.returns-in-Ok-Some
returns-in-Ok-Some g c =
    let w = rw c.in-Ok-Some.field-0-is at c.in-Ok-Some.ensures.group in
    let log = c.log_past.ensures ∙ ap (λ (s : Source). drop (c.in-Ok-Some.first - 1) s.log) c.source-in-Ok-Some.ensures.source in
    let runs = sym (c.is_halted.ensures ∙ ap (λ (s : Source). s.halted) c.source.ensures.source) ∙ c.if-is_halted.false in
    let count = c.queued-count.ensures ∙ ap (λ (s : Source). length s.queue) c.source-2.ensures.source in
    flush_waits c.args.source.now c.flush.new.self _ c.stamps_of.result runs (λ none. c.if-count-eq0.false (count ∙ ap (λ (q : List ℕ). length q) none)) c.in-Ok-Some.ensures.sound w
    c.in-Ok-Some.ensures.log (c.stamps_of.ensures ∙ ap (map stamp_of) log)
