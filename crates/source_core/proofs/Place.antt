-- What stands once one session's transaction is another that is not queued, or none; and once a session begins one.
use Rattle.std.specs.List.{list_any, IsDistinct}
use Rattle.tracker_trait.specs.Kind.{Kind}
use Rattle.std.proofs.Common.{IsTrue, is_some, false, Bool, eqb, ◌≡◌, ◌∙◌, sym, ap, subst, refl, ℕ, ◌+◌, ◌-◌, ◌<◌, ◌≤◌, List, [], ◌∷◌, length, map, get_or, set, Option, Some, None, inl, inr, arith}
use Rattle.std.specs.Option.{option_map}
use Rattle.std.proofs.lemmas.Bool.Decides.{eqb_tells}
use Rattle.std.proofs.lemmas.List.{get_or-set_same, get_or-set_other, set-get_or, map-set, length-set, get_or_default}
use Rattle.std.proofs.Math.ListN.{get_or-map}
use Rattle.schema.proofs.Lists.{AllByRecursion-weaker}
use Rattle.overlay.specs.Pending.{Pending, none_pending}
use Rattle.record_codec.specs.declared.records.Record.{Record}
use Rattle.row_locks.specs.Locks.{Holding, AllLocks, NoClash}
use Rattle.source_core.specs.declared.transaction.Phase.{Phase}
use Rattle.source_core.specs.declared.transaction.Phase.TheVariants.{Active, Prepared, Queued, Flushed}
use Rattle.source_core.specs.declared.transaction.Transaction.{Transaction}
use Rattle.source_core.specs.Calls.{with_open, begun}
use Rattle.commit_stages.specs.Queues.{Queues, AreSizes}
use Rattle.source_core.specs.Core.{Parts, IsCore, Course, Applies, StandsAs, IsQueued, AreFlushed, AreQueued, course_of, open_view, sessions_view, source_of, placed, locks_in, pending_in, rows_held}
use Rattle.source_core.specs.Core.{marks_held, Holds}
use Rattle.overlay.proofs.Follow.{Follows-none}

-- the transaction, if there is one, is neither queued nor flushed
abbrev pub IsFreePhase : Phase → Type 0
IsFreePhase Active = Unit {0}
IsFreePhase (Prepared order) = Unit {0}
IsFreePhase (Queued order) = ⊥
IsFreePhase (Flushed gno) = ⊥

abbrev pub IsFree : Option Transaction → Type 0
IsFree None = Unit {0}
IsFree (Some t) = IsFreePhase t.phase

-- the place of a session
abbrev pub IsPlaceOf : ℕ → ℕ → Type 0
IsPlaceOf session i = (i + 1 ≡ session) × (i < 256)

-- with another transaction in a place, and these stages and locks
abbrev pub placing : Parts → ℕ → Option Transaction → Queues → AllLocks → Parts
placing p i now stages locks = record p { places = set p.places i now; stages = stages; locks = locks }

pub phase_free : (o : Option Transaction) (t : Transaction) (phase : Phase) → IsFree o → o ≡ Some t → t.phase ≡ phase → IsFreePhase phase
phase_free o t phase free is at = subst (λ (x : Phase). IsFreePhase x) at (subst (λ (x : Option Transaction). IsFree x) is free)

-- records are those of the transactions of other places too, where those stay that are records of this number and later
pub flushed_over : (places others : List (Option Transaction)) (first : ℕ) →
    ((n i : ℕ) (t : Transaction) → first ≤ n → placed places i ≡ Some t → t.phase ≡ Flushed n → placed others i ≡ Some t) →
    (log : List Record) (owners : List ℕ) → AreFlushed places first log owners → AreFlushed others first log owners
flushed_over places others first stay [] [] are = tt
flushed_over places others first stay (made ∷ log) (owner ∷ owners) are =
    let f = are.0 in (
      record { least = f.least; t = f.t; place = stay first (owner - 1) f.t (omega arith) f.place f.phase; phase = f.phase; changes = f.changes; touches = f.touches },
      flushed_over places others (first + 1) (λ n i t le. stay n i t (omega (arith, le))) log owners are.1,
    )
flushed_over places others first stay _ _ are = absurd are

-- and sessions are queued in other places too, where the transactions stay that are queued
pub queued_over : (places others : List (Option Transaction)) → ((i : ℕ) (t : Transaction) (order : ℕ) → placed places i ≡ Some t → t.phase ≡ Queued order → placed others i ≡ Some t) →
    (queue : List ℕ) → AreQueued places queue → AreQueued others queue
queued_over places others stay queue are =
    AllByRecursion-weaker (IsQueued places) (IsQueued others)
    (λ session q. record { least = q.least; t = q.t; order = q.order; place = stay (session - 1) q.t q.order q.place q.phase; phase = q.phase }) queue are

-- so those stay that are not in a place of a transaction that is neither
stays_beside : (places : List (Option Transaction)) (i : ℕ) (now : Option Transaction) → IsFree (placed places i) → (j : ℕ) (t : Transaction) → placed places j ≡ Some t →
    (IsFreePhase t.phase → ⊥) → placed (set places i now) j ≡ Some t
stays_beside places i now free j t at not =
    get_or-set_other places i j now None (λ same. not (subst (λ (o : Option Transaction). IsFree o) (ap (placed places) (sym same) ∙ at) free)) ∙ at

pub queued_stay : (places : List (Option Transaction)) (i : ℕ) (now : Option Transaction) → IsFree (placed places i) → (queue : List ℕ) → AreQueued places queue → AreQueued (set places i now) queue
queued_stay places i now free =
    queued_over places (set places i now) (λ j t order at phase. stays_beside places i now free j t at (λ h. subst (λ (x : Phase). IsFreePhase x) phase h))

-- a queue of all those sessions, and maybe more
abbrev pub Grows : List ℕ → List ℕ → Type 0
Grows old new = (session : ℕ) → IsTrue (list_any (eqb session) old) → IsTrue (list_any (eqb session) new)

stands_stays : (c : Course) (queue : List ℕ) (session : ℕ) (pending : Pending) (phase : Phase) → Grows c.queue queue →
    StandsAs c session pending phase → StandsAs (record c { queue = queue }) session pending phase
stands_stays c queue session pending Active grows s = tt
stands_stays c queue session pending (Prepared order) grows s = s
stands_stays c queue session pending (Queued order) grows s = (s.0, grows session s.1)
stands_stays c queue session pending (Flushed gno) grows s = s

-- what is true of the other transactions, and of the one in the place, is true of each
pub each_placed : (P : ℕ → Transaction → Type 0) (places : List (Option Transaction)) (i : ℕ) (now : Option Transaction) → i < length places →
    ((t : Transaction) → now ≡ Some t → P i t) → ((j : ℕ) (t : Transaction) → placed places j ≡ Some t → P j t) → (j : ℕ) (t : Transaction) → placed (set places i now) j ≡ Some t → P j t
each_placed P places i now within here others j t at =
    elim (eqb_tells j i) [
      | inl same ↦
          let is : now ≡ Some t = sym (get_or-set_same places i now None within) ∙ ap (placed (set places i now)) (sym same.1) ∙ at in
          subst (λ k. P k t) (sym same.1) (here t is)
      | inr apart ↦ others j t (sym (get_or-set_other places i j now None apart.1) ∙ at)
    ]

-- these locks, where the session of a place holds what changes that are pending need
abbrev pub locks_with : AllLocks → ℕ → Pending → AllLocks
locks_with locks i pending = record { rows = set locks.rows i (rows_held pending); marks = set locks.marks i (marks_held pending) }

-- no two sessions clash, neither by rows nor by marks
abbrev pub NoClashes : AllLocks → Type 0
NoClashes locks = NoClash locks.rows × NoClash locks.marks

-- the locks of all, where those of one place are set
set_held : (held : Pending → Holding) (places : List (Option Transaction)) (i : ℕ) (now : Option Transaction) →
    map held (map pending_in (set places i now)) ≡ set (map held (map pending_in places)) i (held (pending_in now))
set_held held places i now = ap (map held) (map-set pending_in places i now) ∙ map-set held (map pending_in places) i (pending_in now)

pub locks_set : (places : List (Option Transaction)) (i : ℕ) (now : Option Transaction) →
    locks_in (map pending_in (set places i now)) ≡ locks_with (locks_in (map pending_in places)) i (pending_in now)
locks_set places i now = λ j. record { rows = set_held rows_held places i now j; marks = set_held marks_held places i now j }

-- the transaction that is put in a place, if one is, applies and stands
abbrev pub StandsIn : Parts → ℕ → Option Transaction → Type 0
StandsIn p i None = Unit {0}
StandsIn p i (Some t) = Applies p.tables p.rows t.pending × StandsAs (course_of p) (i + 1) t.pending t.phase

-- The queue of these stages has all sessions of the one before, each once, and their transactions are queued in these places. The
-- log has room for them, and the groups are as they were.
pub record QueueGrows (p : Parts) (places : List (Option Transaction)) (stages : Queues) : Type 0 where
  pub sizes : stages.sizes ≡ p.stages.sizes
  pub few : length p.log + length stages.flush ≤ p.limit
  pub queued : AreQueued places stages.flush
  pub distinct : IsDistinct eqb stages.flush
  pub grows : Grows p.stages.flush stages.flush

pub place_set : (p : Parts) → IsCore p → (i : ℕ) → i < 256 → (now : Option Transaction) → IsFree (placed p.places i) → (stages : Queues) → QueueGrows p (set p.places i now) stages →
    (locks : AllLocks) →
    locks ≡ locks_with p.locks i (pending_in now) → NoClashes locks → StandsIn (placing p i now stages locks) i now → IsCore (placing p i now stages locks)
place_set p core i within now free stages q locks are clear here =
    let there : i < length p.places = omega (arith, within, core.sessions) in
    let its : (t : Transaction) → now ≡ Some t → Applies p.tables p.rows t.pending × StandsAs (record (course_of p) { queue = stages.flush }) (i + 1) t.pending t.phase =
    λ t is. subst (λ (o : Option Transaction). StandsIn (placing p i now stages locks) i o) is here in
    record {
      logged = core.logged;
      few = q.few;
      bound = core.bound;
      synced_within = core.synced_within;
      committed_within = core.committed_within;
      stored = core.stored;
      sessions = length-set p.places i now ∙ core.sessions;
      grouped = subst (λ l. AreSizes l (length p.log - p.synced)) (sym q.sizes) core.grouped;
      locks = are ∙ ap (λ l. locks_with l i (pending_in now)) core.locks ∙ sym (locks_set p.places i now);
      no_clash = clear.0;
      no_mark_clash = clear.1;
      applies = each_placed (λ j t. Applies p.tables p.rows t.pending) p.places i now there (λ t is. (its t is).0) core.applies;
      stands = each_placed (λ j t. StandsAs (record (course_of p) { queue = stages.flush }) (j + 1) t.pending t.phase) p.places i now there
          (λ t is. (its t is).1)
          (λ j t at. stands_stays (course_of p) stages.flush (j + 1) t.pending t.phase q.grows (core.stands j t at));
      flushed = flushed_over p.places (set p.places i now) (p.committed + 1)
          (λ n j t le at phase. stays_beside p.places i now free j t at (λ h. subst (λ (x : Phase). IsFreePhase x) phase h)) _ _ core.flushed;
      queued = q.queued;
      distinct = q.distinct;
    }

-- the rest holds as before, where no session waits for anything else
pub holds_placing : {p : Parts} {IsSo : Type 0} {locks : AllLocks} → Holds p IsSo → (i : ℕ) (now : Option Transaction) → IsCore (placing p i now p.stages locks) →
    Holds (placing p i now p.stages locks) IsSo
holds_placing h i now core = record { core = core; waits = h.waits; tracked = h.tracked; kept = h.kept }

-- the same, with the stages as they are
pub place_changed : (p : Parts) → IsCore p → (i : ℕ) → i < 256 → (now : Option Transaction) → IsFree (placed p.places i) → (locks : AllLocks) →
    locks ≡ locks_with p.locks i (pending_in now) → NoClashes locks → StandsIn (placing p i now p.stages locks) i now → IsCore (placing p i now p.stages locks)
place_changed p core i within now free locks are clear here =
    place_set p core i within now free p.stages
    (record { sizes = refl; few = core.few; queued = queued_stay p.places i now free p.stages.flush core.queued; distinct = core.distinct; grows = λ session is. is }) locks are clear here

-- where the transaction holds what the one before it held, the locks stay
pub locks_stay : (p : Parts) → IsCore p → (i : ℕ) (now : Option Transaction) → pending_in now ≡ pending_in (placed p.places i) → p.locks ≡ locks_with p.locks i (pending_in now)
locks_stay p core i now same =
    let stay : map pending_in (set p.places i now) ≡ map pending_in p.places =
    map-set pending_in p.places i now ∙ ap (set (map pending_in p.places) i) (same ∙ sym (get_or-map pending_in p.places i None)) ∙ set-get_or (map pending_in p.places) i none_pending in
    core.locks ∙ ap locks_in (sym stay) ∙ locks_set p.places i now ∙ ap (λ l. locks_with l i (pending_in now)) (sym core.locks)

-- what callers see
pub view_set : (p : Parts) → IsCore p → (kind : Kind) (halted : Bool) (i session : ℕ) (now : Option Transaction) (locks : AllLocks) → i + 1 ≡ session →
    source_of (placing p i now p.stages locks) kind halted ≡ with_open (source_of p kind halted) session (option_map open_view now)
view_set p core kind halted i session now locks is =
    let place : i ≡ session - 1 = omega (arith, is) in
    ap (λ sessions. record (source_of p kind halted) { sessions = sessions })
    (map-set (option_map open_view) p.places i now ∙ ap (λ k. set (sessions_view p.places) k (option_map open_view now)) place)

-- the transaction that is found in a place
pub placed_is : (places : List (Option Transaction)) (i : ℕ) (o : Option Transaction) → i < length places → o ≡ get_or places i o → placed places i ≡ o
placed_is places i o within at = get_or_default places i None o within ∙ sym at

-- what a call of a session finds in the session's place, first as it reads it, and then as it changes it
pub record PlaceCall (p : Parts) (i session : ℕ) (read found : Option Transaction) : Type 0 where
  pub core : IsCore p
  pub is : i + 1 ≡ session
  pub within : i < 256
  pub read_is : read ≡ get_or p.places i read
  pub found_is : found ≡ get_or p.places i found

abbrev pub place_call : {p : Parts} {i session : ℕ} {read found : Option Transaction} → IsCore p → IsPlaceOf session i → read ≡ get_or p.places i read → found ≡ get_or p.places i found →
    PlaceCall p i session read found
place_call core at read_is found_is = record { core = core; is = at.0; within = at.1; read_is = read_is; found_is = found_is }

pub read_there : {p : Parts} {i session : ℕ} {read found : Option Transaction} → PlaceCall p i session read found → placed p.places i ≡ read
read_there {p = p} {i = i} {read = read} c = placed_is p.places i read (omega (arith, c.within, c.core.sessions)) c.read_is

-- both times the same
pub found_again : {p : Parts} {i session : ℕ} {read found : Option Transaction} → PlaceCall p i session read found → found ≡ read
found_again {p = p} {i = i} {found = found} c = sym (placed_is p.places i found (omega (arith, c.within, c.core.sessions)) c.found_is) ∙ read_there c

pub nothing : (o : Option Transaction) → false ≡ is_some o → o ≡ None
nothing None e = refl
nothing (Some t) e = cc

-- ---- a session opens a transaction

-- a transaction that has this pending
abbrev pub fresh : Pending → Option Transaction
fresh pending = Some (record { pending = pending; phase = Active })

pub new_stands : (p : Parts) → IsCore p → (i session : ℕ) → IsPlaceOf session i → (read : Option Transaction) → read ≡ get_or p.places i read → false ≡ is_some read →
    (new : Pending) → new ≡ none_pending → IsCore (placing p i (fresh new) p.stages p.locks)
new_stands p core i session at read read_is none new is =
    let empty : placed p.places i ≡ None = placed_is p.places i read (omega (arith, at.1, core.sessions)) read_is ∙ nothing read none in
    rw is (place_changed p core i at.1 (fresh none_pending) (rw empty tt) p.locks
    (locks_stay p core i (fresh none_pending) (sym (ap pending_in empty))) (core.no_clash, core.no_mark_clash)
    (record { leaves = p.rows; follows = Follows-none p.tables p.rows; fits = core.stored.fits; shaped = refl; few = omega arith; no_orphan = tt }, tt))

pub begun_view : (p : Parts) → IsCore p → (kind : Kind) (halted : Bool) (i session : ℕ) (new : Pending) → i + 1 ≡ session → new ≡ none_pending →
    source_of (placing p i (fresh new) p.stages p.locks) kind halted ≡ begun (source_of p kind halted) session
begun_view p core kind halted i session new at is =
    view_set p core kind halted i session (fresh new) p.locks at
    ∙ ap (λ (q : Pending). with_open (source_of p kind halted) session (Some (record { changes = q.changes; phase = Active }))) is
