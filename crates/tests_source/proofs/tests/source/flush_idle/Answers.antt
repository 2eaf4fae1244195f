use Rattle.std.proofs.Common.{◌≡◌, ◌∙◌, sym, ap, [], drop, length, Option, Some, subst}
use Rattle.std.proofs.lemmas.List.{append-nil}
use Rattle.std.specs.Option.{IfSome}
use Rattle.record_codec.specs.Group.{GroupValue}
use Rattle.source_core.specs.Source.{Source}
use Rattle.source_core.specs.Calls.{Flushes}
use Rattle.source_core.proofs.Flush.Ends.{group_is_oldest, none_waits}
use Rattle.tests_source.proofs.Idle.{all_synced}
use Rattle.tests_source.proofs.tests.source.flush_idle.Goals as goal

flushes : (old new : Source) (o : Option GroupValue) (group : GroupValue) → IfSome o (λ g. Flushes old g new) → o ≡ Some group → Flushes old group new
flushes old new o group h is = subst (λ (x : Option GroupValue). IfSome x (λ g. Flushes old g new)) is h

pub returns-in-Some-clause-oldest : goal.returns-in-Some-clause-oldest
returns-in-Some-clause-oldest g c =
    let old = c.args.source.now in
    let new = c.flush.new.source in
    let f = flushes old new c.in_ok-group.field-0 c.in-Some.group c.in_ok-group.ensures c.in-Some.is in
    let sound = c.flushed.ensures.sound in
    let synced = all_synced old sound c.if-busy.ensures in
    let all = ap (λ l. drop (length l) new.group_sizes) (none_waits old sound synced) in
    group_is_oldest old new new c.in-Some.group [] [] sound f (sym (append-nil new.log)) (ap (λ (s : Source). s.synced) f.leaves ∙ synced)
    (sym (append-nil (drop (length old.group_sizes) new.group_sizes) ∙ all))
