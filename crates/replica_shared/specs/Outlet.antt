-- The coordinator's end of the queue.
use Rattle.std.specs.Prelude.{◌≡◌, ℕ, ◌+◌, ◌<◌, Option, Some, None}
use Rattle.executor.specs.declared.Job.{Job}

pub record Queued : Type 0 where
  -- the greatest gno that was pushed
  pub pushed : ℕ
  -- the job that is to be pushed next, as behind a refused push
  pub aside : Option Job

-- nothing was pushed
abbrev pub empty_outlet : Queued
empty_outlet = record { pushed = 0; aside = None }

-- that job is one that may be pushed
abbrev pub IsAbove : ℕ → Option Job → Type 0
IsAbove pushed None = Unit {0}
IsAbove pushed (Some job) = pushed < job.gno

-- the job that waits is pushed
abbrev pub pushed_past : ℕ → Option Job → ℕ
pushed_past pushed None = pushed
pushed_past pushed (Some job) = job.gno

abbrev pub pushed_aside : Queued → Queued
pushed_aside q = record { pushed = pushed_past q.pushed q.aside; aside = None }

-- Each job that was dispatched was pushed, but for the last where its push was refused.
abbrev pub IsLastOut : ℕ → ℕ → Option Job → Type 0
IsLastOut dispatched pushed None = pushed ≡ dispatched
IsLastOut dispatched pushed (Some job) = (pushed + 1 ≡ dispatched) × (job.gno ≡ dispatched)

abbrev pub AreInLine : ℕ → Queued → Type 0
AreInLine dispatched outlet = IsLastOut dispatched outlet.pushed outlet.aside
