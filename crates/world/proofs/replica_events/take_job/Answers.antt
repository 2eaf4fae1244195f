use Rattle.std.proofs.Common.{◌∙◌, sym, refl}
use Rattle.world.proofs.Jobs.{takes_out, none_found, if_none}
use Rattle.world.proofs.replica_events.take_job.Goals as goal

pub returns-in_err-place-clause-none : goal.returns-in_err-place-clause-none
returns-in_err-place-clause-none c =
    if_none c.from_residual.result (refl, none_found c.args.gno c.args.jobs.now.items (rw c.deref.ensures.value at (sym c.in_err-place.was ∙ c.place_of.ensures)))

pub returns-clause-some : goal.returns-clause-some
returns-clause-some c =
    takes_out c.args.gno c.args.jobs.now.items c.in_ok-place.place c.remove.result c.remove.new.self.items
    (rw c.deref.ensures.value at (sym c.in_ok-place.was ∙ c.place_of.ensures)) c.remove.ensures.value c.remove.ensures.items
