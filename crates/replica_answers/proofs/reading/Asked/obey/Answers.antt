use Rattle.std.proofs.Common.{subst, ℕ, List}
use Rattle.std.specs.Io.KnownBytes.{Appends}
use Rattle.gtid_set.specs.Ids.{first_ids}
use Rattle.world.specs.declared.events.Reply.TheVariants.{Executed}
use Rattle.script_text.specs.Printing.{line_of}
use Rattle.replica_answers.specs.Conversation.{help, executed, status, waited, TellsAll}
use Rattle.replica_answers.proofs.Told.{tells_plain, tells_one, is_waited, unless_then}
use Rattle.replica_answers.proofs.reading.Asked.obey.Goals as goal

pub returns-in_ok-tell_help-in-Help : goal.returns-in_ok-tell_help-in-Help
returns-in_ok-tell_help-in-Help g c =
    tells_plain g.K.ReplicaNaming.names c.args.seat.now (g.W.Write.contents c.args.out.now) (g.W.Write.contents c.tell_help.new.out) help tt c.in_ok-tell_help-in-Help.ensures

pub returns-in_ok-tell_status-in-Status : goal.returns-in_ok-tell_status-in-Status
returns-in_ok-tell_status-in-Status g c =
    let told = c.in_ok-tell_status-in-Status.ensures in
    tells_plain g.K.ReplicaNaming.names c.args.seat.now (g.W.Write.contents c.args.out.now) (g.W.Write.contents c.tell_status.new.out) (status told.0) told.1 told.2

pub returns-in_ok-tell_waited-in-Wait : goal.returns-in_ok-tell_waited-in-Wait
returns-in_ok-tell_waited-in-Wait g c =
    tells_one g.K.ReplicaNaming.names c.args.seat.now c.wait-came.new.seat (g.W.Write.contents c.args.out.now) (g.W.Write.contents c.tell_waited.new.out) (waited c.in-Wait.gno c.wait-came.result)
    c.wait-came.ensures.kept (is_waited c.in-Wait.gno c.wait-came.result c.wait-came.new.seat c.wait-came.ensures.published) c.in_ok-tell_waited-in-Wait.ensures

pub returns-in-Executed : goal.returns-in-Executed
returns-in-Executed g c =
    let names = g.K.ReplicaNaming.names in
    let seen = c.args.seat.now in
    let before = g.W.Write.contents c.args.out.now in
    let printed = g.W.Write.contents c.tell_executed.new.out in
    let text = λ (source : List ℕ) (count : ℕ). line_of (Executed (first_ids source count)) in
    unless_then c.tell_executed.result ((count : ℕ) × Appends before printed (text c.args.self.now.source count)) (TellsAll names seen seen before printed) c.tell_executed.ensures
    (λ told. tells_plain names seen before printed (executed told.0) tt (subst (λ (source : List ℕ). Appends before printed (text source told.0)) c.args.self.now.of_source told.1))
