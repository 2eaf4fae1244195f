use Rattle.std.proofs.Common.{sym, refl, Some, None}
use Rattle.std.proofs.lemmas.Bool.{cond-true}
use Rattle.source_answers.proofs.Steps.{leads_on, leads_to, sync_ends}
use Rattle.source_answers.proofs.putting.sync_all.Goals as goal

pub groups-preserved : goal.groups-preserved
groups-preserved g c = leads_on c.args.source.now c.groups.source c.sync.new.source _ c.groups.invariant c.in-Synced.ensures.answers refl

pub returns-in-Nothing-clause-walks : goal.returns-in-Nothing-clause-walks
returns-in-Nothing-clause-walks g c = leads_to c.args.source.now c.groups.source c.sync.new.source _ None c.groups.invariant c.in-Nothing.ensures.answers refl

pub returns-in_default : goal.returns-in_default
returns-in_default g c =
    let ends = sync_ends c.groups.source c.sync.new.source c.sync.result c.sync.ensures.answers c.in_default.not-Nothing c.in_default.not-Synced in
    record {
      walks = leads_to c.args.source.now c.groups.source c.sync.new.source c.sync.result (Some c.sync.result) c.groups.invariant c.sync.ensures.answers
          (sym (cond-true _ (Some c.sync.result) None ends));
      all = tt;
    }
