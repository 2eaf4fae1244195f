-- A list of changes that is run one after another.
use Rattle.std.proofs.Common.{◌≡◌, ap, sym, ◌∙◌, refl, subst, ℕ, ◌+◌, ◌<◌, ◌≤◌, List, [], ◌∷◌, ◌++◌, take, drop, length, get_or, Option, Some, None, option_map}
use Rattle.std.specs.Prelude.{option_and_then}
use Rattle.std.proofs.lemmas.List.{take_more, take_all, at_drop_more}
use Rattle.schema.specs.declared.Table.{Table}
use Rattle.schema.proofs.Lists.{made_of}
use Rattle.rows.specs.declared.Change.{Change}
use Rattle.rows.specs.declared.step.Step.{Step}
use Rattle.rows.specs.Database.{Database, apply, effect, step_between}
use Rattle.overlay.specs.Pending.{Pending, none_pending, pushed, seen, pending_of}
use Rattle.overlay.specs.Follows.{Follows}
use Rattle.overlay.proofs.Follow.{Follows-none, Follows-pushed, seen-Follows}
use Rattle.executor.specs.Shown.{step_there}

-- The first n of the changes are pending; those behind them do to what is seen what all do to db.
pub record HasRun (ts : List Table) (changes : List Change) (db : Database) (n : ℕ) (pending : Pending) : Type 0 where
  pub after : Database
  pub follows : Follows ts db pending after
  pub done : pending.changes ≡ take n changes
  pub rest : effect ts (drop n changes) after ≡ effect ts changes db

pub HasRun-none : (ts : List Table) (changes : List Change) (db : Database) → HasRun ts changes db 0 none_pending
HasRun-none ts changes db = record { after = db; follows = Follows-none ts db; done = refl; rest = refl }

none_mapped : {A B : Type 0} (f : A → B) (o : Option A) → option_map f o ≡ None → o ≡ None
none_mapped f None h = refl
none_mapped f (Some x) h = cc

module _ {ts : List Table} {changes : List Change} {db : Database} {n : ℕ} {pending : Pending} (change : Change) (run : HasRun ts changes db n pending) (within : n < length changes)
    (is : change ≡ get_or changes n change) where
  -- what the changes from the next one on do
  from_next : effect ts changes db ≡ option_and_then (effect ts (drop (n + 1) changes)) (apply ts change run.after)
  from_next =
      sym run.rest ∙ at_drop_more (λ l. effect ts l run.after) changes n change within
      ∙ ap (λ (x : Change). option_and_then (effect ts (drop (n + 1) changes)) (apply ts x run.after)) (sym is)

  step_after : step_there ts change (seen pending db) ≡ step_there ts change run.after
  step_after = ap (step_there ts change) (seen-Follows run.follows)

  pub HasRun-more : (step : Step) → Some step ≡ step_there ts change (seen pending db) → HasRun ts changes db (n + 1) (pushed pending change step)
  HasRun-more step does =
      let next = made_of (step_between ts change run.after) (apply ts change run.after) step (sym (does ∙ step_after)) in
      record {
        after = next.0;
        follows = subst (λ (s : Step). Follows ts db (pushed pending change s) next.0) next.2 (Follows-pushed change next.0 run.follows next.1);
        done = ap (λ l. l ++ change ∷ []) run.done ∙ ap (λ (x : Change). take n changes ++ x ∷ []) is ∙ sym (take_more changes n change within);
        rest = sym (from_next ∙ ap (option_and_then (effect ts (drop (n + 1) changes))) next.1);
      }

  pub effect-refused : None ≡ step_there ts change (seen pending db) → effect ts changes db ≡ None
  effect-refused refused =
      from_next
      ∙ ap (option_and_then (effect ts (drop (n + 1) changes))) (none_mapped (step_between ts change run.after) (apply ts change run.after) (sym (refused ∙ step_after)))

-- once all have run
pub pending-run : {ts : List Table} {changes : List Change} {db : Database} {n : ℕ} {pending : Pending} → HasRun ts changes db n pending → length changes ≤ n →
    Some pending ≡ option_map (pending_of ts changes db) (effect ts changes db)
pending-run {ts = ts} {changes = changes} {db = db} {n = n} {pending = pending} run end =
    let f = run.follows in
    let all : pending.changes ≡ changes = run.done ∙ take_all n changes end in
    let is : ◌≡◌ {A = Pending} pending (pending_of ts pending.changes db run.after) = λ i. record { changes = pending.changes; left = f.left i; kin = f.kin i; marks = f.marks i } in
    ap Some (is ∙ ap (λ l. pending_of ts l db run.after) all) ∙ sym (ap (option_map (pending_of ts changes db)) (ap (λ l. effect ts l db) (sym all) ∙ f.applied))
