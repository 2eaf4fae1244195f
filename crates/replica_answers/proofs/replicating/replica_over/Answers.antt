use Rattle.std.proofs.Common.{◌≡◌, ◌⊎◌, inl, ap}
use Rattle.replica_shared.specs.Names.{ReplicaNames, replica_names}
use Rattle.replica_answers.specs.Followed.{log_in}
use Rattle.replica_answers.specs.Conversation.{AnswersAs, Answers}
use Rattle.replica_answers.proofs.Told.{ok_then, unless_then, answers_over}
use Rattle.replica_answers.proofs.replicating.replica_over.Goals as goal

pub returns : goal.returns
returns g c =
    let bytes = g.F.Read.remaining c.args.wire in
    let left = g.F.Read.remaining c.core_of.new.input in
    let now = g.F.Read.remaining c.in-Ok-new.wire.input in
    let before = g.W.Write.contents c.args.output.now in
    let printed = g.W.Write.contents c.run_core.new.output in
    let core = c.in_ok-core.core in
    let names : ReplicaNames = record (replica_names core) { log = log_in now } in
    let told = λ (answers : AnswersAs names before printed). answers_over bytes before printed left now core c.in_ok-core.ensures.over (ap g.F.Read.remaining c.in-Ok-new.ensures.input) answers in
    record {
      answers = ok_then c.run_core.result (AnswersAs names before printed) (Answers bytes before printed) c.run_core.ensures told;
      refused = unless_then c.run_core.result (AnswersAs names before printed) (Answers bytes before printed ⊎ (printed ≡ before)) c.run_core.ensures (λ answers. inl (told answers));
    }
