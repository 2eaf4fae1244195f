use Rattle.replica_core.proofs.Jobs.{job_stays, job_stays_behind, others_leave_jobs}
use Rattle.replica_core.proofs.InOrder.{job_stays_in_order}
use Rattle.replica_core.proofs.laws.jobs_stay.Goals as goal

pub returns : goal.returns
returns c = record { committed = job_stays; in_order = job_stays_in_order; accepted = job_stays_behind; others = others_leave_jobs }
