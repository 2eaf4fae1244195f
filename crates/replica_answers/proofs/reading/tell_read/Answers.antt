use Rattle.std.proofs.Common.{rules, true}
use Rattle.published.specs.History.{IsHistory, IsWithin}
use Rattle.replica_answers.specs.Replica.{TellsRead}
use Rattle.replica_answers.proofs.Seen.{as_after}
use Rattle.replica_answers.proofs.Told.{tells_row}
use Rattle.replica_answers.proofs.reading.tell_read.Goals as goal

pub returns : goal.returns
returns g c =
    let history : IsHistory true c.read.new.self = search rules in
    let within : IsWithin g.K.Naming.known c.read.new.self = search rules in
    let told : TellsRead g.K.ReplicaNaming.names c.args.row c.args.seat.now c.read.new.self (g.W.Write.contents c.args.out.now) (g.W.Write.contents c.write_reply.new.out) = record {
      line = search rules;
      history = history;
      later = search rules;
      of_log = as_after g.K.ReplicaNaming.names g.K.Naming.preserve g.K.Naming.known c.read.new.self c.requires.known within history;
    } in
    record { told = told; all = tells_row told }
