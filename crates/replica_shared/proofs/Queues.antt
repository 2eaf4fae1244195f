-- Each step keeps the rule of the queue of jobs.
use Rattle.std.proofs.Common.{◌≡◌, ◌∙◌, sym, ap, subst, refl, ℕ, zero, suc, ◌+◌, ◌<◌, ◌≤◌, inl, inr, List, [], ◌∷◌, ◌++◌, arith, slice_set}
use mathlib.Core.Option.{some, some-injective, some-ne-none}
use lib.ListN.{get_elem?}
use Rattle.crossbeam_deque.specs.Tasks.{Pushes as MayPush, Takes as MayTake, Admits}
use Rattle.crossbeam_deque.proofs.Lists.{at_set, at_longer, at_snoc}
use Rattle.executor.specs.declared.Job.{Job}
use Rattle.replica_shared.specs.declared.hand.Hand.{Hand}
use Rattle.replica_shared.specs.Queue.{AllBelow, RiseBetween, LieInOrder, Pushes, Steals, empty_hand, with_pushed, with_stolen}

-- ---- gnos

below_more : (n m : ℕ) (gnos : List ℕ) → n ≤ m → AllBelow n gnos → AllBelow m gnos
below_more n m [] le h = tt
below_more n m (gno ∷ gnos) le h = let first = h.0 in (omega arith, below_more n m gnos le h.1)

rise_push : (next : ℕ) (jobs : List Job) (last : ℕ) (job : Job) → last < job.gno → RiseBetween next jobs last → RiseBetween next (jobs ++ job ∷ []) job.gno
rise_push next [] last job lt h = (omega arith, omega arith)
rise_push next (first ∷ jobs) last job lt h = (h.0, rise_push (first.gno + 1) jobs last job lt h.1)

-- ---- the views

-- there is a view at a place where one was set
set_first : (views : List Hand) (port : ℕ) (v w pusher : Hand) → get_elem? views port ≡ some v → get_elem? views 0 ≡ some pusher → w.pushed ≡ v.pushed
    → (then : Hand) × (get_elem? (slice_set views port w) 0 ≡ some then) × (then.pushed ≡ pusher.pushed)
set_first [] port v w pusher at is same = absurd (some-ne-none pusher (sym is))
set_first (x ∷ views) zero v w pusher at is same =
    let one : v ≡ pusher = some-injective v pusher (sym at ∙ is) in (w, refl, same ∙ ap (λ (h : Hand). h.pushed) one)
set_first (x ∷ views) (suc port) v w pusher at is same = (pusher, is, refl)

-- ---- the rule

-- the empty queue, with the one pass that pushes, is in order
pub begins : LieInOrder [] (empty_hand ∷ [])
begins = record {
  pusher = empty_hand;
  pushes = refl;
  next = 0;
  stolen = stolen_by;
  rise = omega arith;
}
  where
    stolen_by : (pass : ℕ) (v : Hand) → get_elem? (empty_hand ∷ []) pass ≡ some v → AllBelow 0 v.stolen
    stolen_by zero v at = subst (λ (h : Hand). AllBelow 0 h.stolen) (some-injective empty_hand v at) tt
    stolen_by (suc pass) v at = absurd (some-ne-none v (sym at))

-- one more pass, which pushed and stole nothing, leaves it in order
pub admits : Admits LieInOrder empty_hand
admits jobs views h = record {
  pusher = h.pusher;
  pushes = at_longer views (empty_hand ∷ []) 0 h.pusher h.pushes;
  next = h.next;
  stolen = λ pass v at. elim (at_snoc views empty_hand v pass at) [
    | inl old ↦ h.stolen pass v old
    | inr new ↦ subst (λ (w : Hand). AllBelow h.next w.stolen) new tt
  ];
  rise = h.rise;
}

-- the first pass may push a job whose gno is above all that it pushed
pub pushes : (port : ℕ) (v : Hand) (job : Job) → port ≡ 0 → v.pushed < job.gno → MayPush LieInOrder port v (job ∷ []) (Pushes v (job ∷ []))
pushes port v job one rises jobs views h at =
    let w : Hand = with_pushed v job.gno in
    let mine : v ≡ h.pusher = some-injective v h.pusher (sym (ap (λ n. get_elem? views n) (sym one) ∙ at) ∙ h.pushes) in
    let last : h.pusher.pushed < job.gno = subst (λ (u : Hand). u.pushed < job.gno) mine rises in (
      w,
      record {
        pusher = w;
        pushes = first_set views port v w one at;
        next = h.next;
        stolen = λ pass u is. elim (at_set views port pass w u is) [
          | inl here ↦ subst (λ (x : Hand). AllBelow h.next x.stolen) here.1 (h.stolen port v at)
          | inr other ↦ h.stolen pass u other.1
        ];
        rise = rise_push h.next jobs h.pusher.pushed job last h.rise;
      },
      refl,
    )
  where
    first_set : (views : List Hand) (port : ℕ) (v w : Hand) → port ≡ 0 → get_elem? views port ≡ some v → get_elem? (slice_set views port w) 0 ≡ some w
    first_set [] port v w one at = absurd (some-ne-none v (sym at))
    first_set (x ∷ views) zero v w one at = refl
    first_set (x ∷ views) (suc port) v w one at = absurd (omega arith)

-- any pass may steal the first job, whose gno is above all that it stole
pub steals : (port : ℕ) (v : Hand) → MayTake LieInOrder port v 1 (Steals v)
steals port v [] jobs views some_ few h at = absurd (omega arith)
steals port v (job ∷ next ∷ more) jobs views some_ few h at = absurd (omega arith)
steals port v (job ∷ []) jobs views some_ few h at =
    let w : Hand = with_stolen v job.gno in
    let first = set_first views port v w h.pusher at h.pushes refl in
    let low : h.next ≤ job.gno = h.rise.0 in
    let up : h.next ≤ job.gno + 1 = omega arith in (
      w,
      record {
        pusher = first.0;
        pushes = first.1;
        next = job.gno + 1;
        stolen = λ pass u is. elim (at_set views port pass w u is) [
          | inl here ↦ subst (λ (x : Hand). AllBelow (job.gno + 1) x.stolen) here.1 (omega arith, below_more h.next (job.gno + 1) v.stolen up (h.stolen port v at))
          | inr other ↦ below_more h.next (job.gno + 1) u.stolen up (h.stolen pass u other.1)
        ];
        rise = subst (λ n. RiseBetween (job.gno + 1) jobs n) (sym first.2) h.rise.1;
      },
      (refl, below_more h.next job.gno v.stolen low (h.stolen port v at)),
    )
