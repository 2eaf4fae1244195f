-- What is known of the transactions of a source whose parts stand together.
use Rattle.std.proofs.Common.{◌≡◌, ◌≢◌, ◌∙◌, sym, ap, subst, refl, ℕ, zero, suc, ◌+◌, ◌-◌, ◌<◌, ◌≤◌, List, [], ◌∷◌, length, map, take, drop, get_or, Bool, false, Option, Some, None, arith, eqb, ◌||◌}
use Rattle.std.specs.Prelude.{slice_get}
use Rattle.std.specs.List.{AllByRecursion, list_any, IsDistinct}
use Rattle.std.specs.Option.{option_map, option_map_or, option_and_then, IsSome}
use Rattle.std.proofs.lemmas.List.{length-drop, length-map, get_or_past}
use Rattle.std.specs.FinMap.{empty}
use Rattle.std.proofs.Math.ListN.{get_or-map}
use Rattle.schema.specs.Rows.{conflicts}
use Rattle.schema.proofs.Lists.{get_behind}
use Rattle.rows.specs.Database.{writes, effect}
use Rattle.store_trait.specs.Batch.{put_batch}
use Rattle.overlay.specs.Pending.{Pending, none_pending}
use Rattle.record_codec.specs.Log.{after}
use Rattle.record_codec.specs.declared.records.Record.{Record}
use Rattle.row_locks.specs.Locks.{Holding, held_by, holding}
use Rattle.row_locks.proofs.Holders.{holders_do_not_conflict}
use Rattle.source_core.specs.declared.transaction.Transaction.{Transaction}
use Rattle.tracker_trait.specs.Kind.{Kind}
use Rattle.commit_stages.specs.Queues.{Queues, AreSizes}
use Rattle.source_core.specs.Source.{Source, Open, EachApplies, IsSound, open_of, held_for, marks_held_for, locks_over}
use Rattle.source_core.specs.Core.{Parts, IsCore, IsFlushedAs, AreFlushed, open_view, sessions_view, source_of, placed, pending_in, touched_in, rows_held, marks_held}
use Rattle.std.proofs.lemmas.Bool.{ne_eqb}

-- what the session of a place holds, of rows or of marks
pub held_at : (held : Pending → Holding) (places : List (Option Transaction)) (i : ℕ) →
    get_or (map held (map pending_in places)) i (held none_pending) ≡ held (pending_in (placed places i))
held_at held places i = get_or-map held (map pending_in places) i none_pending ∙ ap held (get_or-map pending_in places i None)

back : (i : ℕ) → i + 1 - 1 ≡ i
back i = omega arith

pub held_by_place : (p : Parts) → IsCore p → (i : ℕ) → held_by p.locks.rows (i + 1) ≡ rows_held (pending_in (placed p.places i))
held_by_place p core i = (λ k. get_or (core.locks k).rows (back i k) empty) ∙ held_at rows_held p.places i

pub marks_held_by_place : (p : Parts) → IsCore p → (i : ℕ) → held_by p.locks.marks (i + 1) ≡ marks_held (pending_in (placed p.places i))
marks_held_by_place p core i = (λ k. get_or (core.locks k).marks (back i k) empty) ∙ held_at marks_held p.places i

-- the transactions of two sessions do not conflict
pub apart : (p : Parts) → IsCore p → (i j : ℕ) → i ≢ j → conflicts (touched_in (pending_in (placed p.places i))) (touched_in (pending_in (placed p.places j))) ≡ false
apart p core i j ne =
    let one = pending_in (placed p.places i) in
    let other = pending_in (placed p.places j) in
    holders_do_not_conflict p.locks core.no_clash core.no_mark_clash (i + 1) (j + 1) (writes one.changes) one.kin one.marks (writes other.changes) other.kin other.marks (omega arith) (omega arith)
    (λ e. ne (omega (arith, e))) (held_by_place p core i) (marks_held_by_place p core i) (held_by_place p core j) (marks_held_by_place p core j)

-- what is held is what callers are told, where it is so of each transaction
pub told_held : (held : Pending → Holding) (told : Option Open → Holding) → held none_pending ≡ told None → (places : List (Option Transaction)) →
    ((i : ℕ) (t : Transaction) → placed places i ≡ Some t → held t.pending ≡ told (Some (open_view t))) → map held (map pending_in places) ≡ map told (sessions_view places)
told_held held told none [] same = refl
told_held held told none (None ∷ places) same = λ k. none k ∷ told_held held told none places (λ i t at. same (suc i) t at) k
told_held held told none (Some t ∷ places) same = λ k. same zero t refl k ∷ told_held held told none places (λ i t at. same (suc i) t at) k

pub locks_told : (p : Parts) → IsCore p → p.locks ≡ locks_over p.tables p.rows (sessions_view p.places)
locks_told p core = core.locks ∙ (λ k. record {
  rows = told_held rows_held (held_for p.tables p.rows) refl p.places (λ i t at. ap (holding (writes t.pending.changes)) (core.applies i t at).follows.kin) k;
  marks = told_held marks_held (marks_held_for p.tables p.rows) refl p.places (λ i t at. ap (λ held. holding held []) (core.applies i t at).follows.marks) k;
})

-- a place with a transaction is one of the places
pub within_places : (places : List (Option Transaction)) (i : ℕ) (t : Transaction) → placed places i ≡ Some t → i < length places
within_places places i t is =
    let past : length places ≤ i → ⊥ = λ le. (let e = get_or_past places i None le in absurd (cc (e, is))) in
    omega (arith, past)

pub none_twice : IsDistinct eqb []
unfolding IsDistinct
none_twice = tt

-- a session that is none of these is not in their list
pub not_any : (queue : List ℕ) (session : ℕ) → AllByRecursion (λ other. other ≡ session → ⊥) queue → list_any (eqb session) queue ≡ false
not_any [] session none = refl
not_any (other ∷ queue) session none =
    ap (λ (b : Bool). b || list_any (eqb session) queue) (ne_eqb session other (λ e. none.0 (sym e))) ∙ not_any queue session none.1

-- what is true of each of these records, and of the session that it came from
pub each_flushed : (places : List (Option Transaction)) (P : ℕ → Type 0) (Q : Record → Type 0) (first : ℕ) (log : List Record) (owners : List ℕ) →
    ((n : ℕ) (made : Record) (owner : ℕ) → first ≤ n → n < first + length log → IsFlushedAs places n made owner → P owner × Q made) →
    AreFlushed places first log owners → AllByRecursion P owners × AllByRecursion Q log
each_flushed places P Q first [] [] each are = (tt, tt)
each_flushed places P Q first (made ∷ log) (owner ∷ owners) each are =
    let one = each first made owner (omega arith) (omega arith) are.0 in
    let rest = each_flushed places P Q (first + 1) log owners (λ n r o le lt. each n r o (omega (arith, le)) (omega (arith, lt))) are.1 in
    ((one.0, rest.0), (one.1, rest.1))
each_flushed places P Q first _ _ each are = absurd are

-- each record that is not committed, and the session that it came from: it is that of the transaction in the session's place
pub record IsOf (places : List (Option Transaction)) (n : ℕ) (record_ : Option Record) (owner_ : Option ℕ) : Type 0 where
  pub made : Record
  pub owner : ℕ
  pub is : record_ ≡ Some made
  pub own : owner_ ≡ Some owner
  pub stands : IsFlushedAs places n made owner

at_place : (places : List (Option Transaction)) (n first : ℕ) (log : List Record) (owners : List ℕ) (i : ℕ) → AreFlushed places first log owners → first + i ≡ n → i < length log →
    IsOf places n (slice_get log i) (slice_get owners i)
at_place places n first [] [] i are at within = absurd (omega (arith, within))
at_place places n first (made ∷ log) (owner ∷ owners) zero are at within =
    record { made = made; owner = owner; is = refl; own = refl; stands = subst (λ k. IsFlushedAs places k made owner) (omega (arith, at)) are.0 }
at_place places n first (made ∷ log) (owner ∷ owners) (suc i) are at within = at_place places n (first + 1) log owners i are.1 (omega (arith, at)) (omega (arith, within))
at_place places n first _ _ i are at within = absurd are

pub flushed_at : (p : Parts) → IsCore p → (n : ℕ) → p.committed < n → n ≤ length p.log → IsOf p.places n (slice_get p.log (n - 1)) (slice_get p.owners (n - 1))
flushed_at p core n later there =
    let i = n - (p.committed + 1) in
    let place : p.committed + i ≡ n - 1 = omega (arith, later) in
    subst (λ k. IsOf p.places n (slice_get p.log k) (slice_get p.owners k)) place
    (rw (← get_behind p.committed p.log i, ← get_behind p.committed p.owners i)
    (at_place p.places n (p.committed + 1) (drop p.committed p.log) (drop p.committed p.owners) i core.flushed (omega (arith, later))
    (omega (arith, length-drop p.committed p.log, later, there))))

-- what a session sees is defined: its changes apply to the committed rows
sees_some : (p : Parts) → IsCore p → (i : ℕ) (o : Option Transaction) → placed p.places i ≡ o →
    IsSome (option_and_then (effect p.tables (option_map_or (λ (t : Open). t.changes) (option_map open_view o) [])) (after p.tables (put_batch p.base empty) (take p.committed p.log)))
sees_some p core i None at = rw core.stored.rows_are refl
sees_some p core i (Some t) at = rw (core.stored.rows_are, (core.applies i t at).follows.applied) refl

pub each_applies : (p : Parts) (kind : Kind) (halted : Bool) → IsCore p → EachApplies (source_of p kind halted)
each_applies p kind halted core session =
    subst (λ o. IsSome (option_and_then (effect p.tables (option_map_or (λ (t : Open). t.changes) o [])) (after p.tables (put_batch p.base empty) (take p.committed p.log))))
    (sym (get_or-map (option_map open_view) p.places (session - 1) None))
    (sees_some p core (session - 1) (placed p.places (session - 1)) refl)

pub is_sound : (p : Parts) (kind : Kind) (halted : Bool) → IsCore p → IsSound (source_of p kind halted)
is_sound p kind halted core = record {
  sessions = length-map p.places _ ∙ core.sessions;
  legal = core.logged.legal;
  shaped = core.logged.shaped;
  few = omega (arith, core.few);
  bound = core.bound;
  synced_within = core.synced_within;
  committed_within = core.committed_within;
  owned = core.logged.owned;
  grouped = core.grouped;
}

-- and so is the source that they are seen as
pub sound_as : (p : Parts) (kind : Kind) (halted : Bool) (s : Source) → source_of p kind halted ≡ s → IsCore p → IsSound s
sound_as p kind halted s is core = subst (λ (x : Source). IsSound x) is (is_sound p kind halted core)

-- what is synced, who waits for that, and what is kept of the log change nothing else
pub core_with : (p : Parts) → IsCore p → (last : ℕ) (stages : Queues) (keeps : Bool) (gone : ℕ) → p.committed ≤ last → last ≤ length p.log → AreSizes stages.sizes (length p.log - last) →
    IsCore (record p { synced = last; stages = record stages { flush = p.stages.flush }; keeps = keeps; gone = gone })
core_with p core last stages keeps gone more within grouped = record {
  logged = core.logged;
  stored = core.stored;
  few = core.few;
  bound = core.bound;
  synced_within = within;
  committed_within = more;
  grouped = grouped;
  sessions = core.sessions;
  locks = core.locks;
  no_clash = core.no_clash;
  no_mark_clash = core.no_mark_clash;
  applies = core.applies;
  stands = core.stands;
  flushed = core.flushed;
  queued = core.queued;
  distinct = core.distinct;
}

pub core_keeping : (p : Parts) → IsCore p → (keeps : Bool) (gone : ℕ) → IsCore (record p { keeps = keeps; gone = gone })
core_keeping p core keeps gone = core_with p core p.synced p.stages keeps gone core.committed_within core.synced_within core.grouped

-- a session's transaction, as callers see it
pub open_at : (p : Parts) (kind : Kind) (halted : Bool) (i session : ℕ) → i + 1 ≡ session → open_of (source_of p kind halted) session ≡ option_map open_view (placed p.places i)
open_at p kind halted i session is =
    let place : session - 1 ≡ i = omega (arith, is) in
    get_or-map (option_map open_view) p.places (session - 1) None ∙ ap (λ k. option_map open_view (placed p.places k)) place
