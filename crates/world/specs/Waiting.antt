-- The jobs that wait to be executed.
use Rattle.std.specs.Prelude.{◌≡◌, ℕ, false, List, ◌∷◌, ◌++◌, map, length}
use Rattle.executor.specs.declared.Job.{Job}
use Rattle.scheduler.specs.Gnos.{has_gno}

-- the numbers of their records
abbrev pub numbers_of : List Job → List ℕ
numbers_of jobs = map (λ (job : Job). job.gno) jobs

-- the first job of this number was taken out
pub record TakesOut (gno : ℕ) (old : List Job) (place : ℕ) (job : Job) (new : List Job) : Type 0 where
  pub front : List Job
  pub rest : List Job
  pub were : old ≡ front ++ job ∷ rest
  pub are : new ≡ front ++ rest
  pub at : place ≡ length front
  pub number : job.gno ≡ gno
  pub first : has_gno (numbers_of front) gno ≡ false
