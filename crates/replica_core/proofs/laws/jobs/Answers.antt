use Rattle.replica_core.proofs.Jobs.{job_is_of_its_record, each_has_job, job_agrees_now}
use Rattle.replica_core.proofs.InOrder.{job_agrees, legal_states_up_to}
use Rattle.replica_core.proofs.laws.jobs.Goals as goal

pub returns : goal.returns
returns c = record {
  of_record = job_is_of_its_record;
  each = each_has_job;
  now = job_agrees_now;
  agrees = job_agrees;
  legal = legal_states_up_to;
}
