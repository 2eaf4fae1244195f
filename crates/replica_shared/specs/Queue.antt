-- The rule of the queue of jobs, and what its passes know.
use Rattle.std.specs.Prelude.{◌≡◌, ℕ, ◌+◌, ◌<◌, ◌≤◌, List, [], ◌∷◌}
use Rattle.std.specs.declared.alloc.Global.{Global}
use mathlib.Core.Option.{some}
use lib.ListN.{get_elem?}
use Rattle.crossbeam_deque.specs.Injected.{InjectorPass, injector_view, IsInjectorPassOf}
use Rattle.executor.specs.declared.Job.{Job}
use Rattle.replica_shared.specs.declared.hand.Hand.{Hand}
use Rattle.replica_shared.specs.declared.queue.Jobs.{Jobs}

-- it has pushed and stolen nothing
abbrev pub empty_hand : Hand
empty_hand = record { pushed = 0; stolen = [] }

abbrev pub with_pushed : Hand → ℕ → Hand
with_pushed v gno = record v { pushed = gno }

abbrev pub with_stolen : Hand → ℕ → Hand
with_stolen v gno = record v { stolen = gno ∷ v.stolen }

-- each of the gnos is below this number
abbrev pub AllBelow : ℕ → List ℕ → Type 0
AllBelow n [] = Unit {0}
AllBelow n (gno ∷ gnos) = (gno < n) × AllBelow n gnos

-- the gnos of the jobs rise, from this number on, up to the last at most
abbrev pub RiseBetween : ℕ → List Job → ℕ → Type 0
RiseBetween next [] last = next ≤ last + 1
RiseBetween next (job ∷ jobs) last = (next ≤ job.gno) × RiseBetween (job.gno + 1) jobs last

-- The gnos in the queue rise, and are above every gno that any pass stole. None of either is above the greatest that was
-- pushed, which the first pass knows: it alone pushes.
pub record LieInOrder (jobs : List Job) (views : List Hand) : Type 0 where
  pub pusher : Hand
  pub pushes : get_elem? views 0 ≡ some pusher
  -- every gno that was stolen is below this number
  pub next : ℕ
  pub stolen : (pass : ℕ) (v : Hand) → get_elem? views pass ≡ some v → AllBelow next v.stolen
  pub rise : RiseBetween next jobs pusher.pushed

-- a push: the pass has pushed this gno last
abbrev pub Pushes : Hand → List Job → Hand → Type 0
Pushes v [] w = Unit {0}
Pushes v (job ∷ jobs) w = w ≡ with_pushed v job.gno

-- a steal: the job has a gno above each that the pass stole before
abbrev pub Steals : Hand → List Job → Hand → Type 0
Steals v [] w = Unit {0}
Steals v (job ∷ jobs) w = (w ≡ with_stolen v job.gno) × AllBelow job.gno v.stolen

-- what a pass has pushed and stolen
abbrev pub hand_of : InjectorPass Job Hand Global → Hand
hand_of pass = injector_view pass

-- the pass is of this queue
abbrev pub IsPassOf : Jobs → InjectorPass Job Hand Global → Type 0
IsPassOf jobs pass = IsInjectorPassOf jobs.queue pass

-- the pass is the one that pushes to this queue, and pushed this gno last
abbrev pub IsPusherOf : Jobs → InjectorPass Job Hand Global → ℕ → Type 0
IsPusherOf jobs pass pushed = IsPassOf jobs pass × (pass.id ≡ 0) × ((hand_of pass).pushed ≡ pushed)
