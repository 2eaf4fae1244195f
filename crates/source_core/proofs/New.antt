-- A source that goes on from a log, and one that is new: what is observed of the log, and what stands.
use Rattle.std.proofs.Common.{◌≡◌, sym, ap, subst, refl, ℕ, ◌+◌, List, [], ◌∷◌, ◌++◌, append_assoc, length, ◌∙◌, zero, suc, ◌<◌, ◌≤◌, ◌^◌, map, take, drop, replicate, Option, Some, None, arith, true}
use Rattle.std.proofs.Common.{false}
use Rattle.std.proofs.lemmas.List.{length_push, length-map, length-take-le, take_all, drop_all, length-replicate}
use Rattle.schema.specs.declared.Table.{Table}
use Rattle.schema.specs.declared.RowId.{RowId}
use Rattle.schema.specs.Rows.{SameRows}
use Rattle.schema.proofs.RowMaps.{same_row_itself}
use Rattle.rows.specs.Database.{Database, NoValueTwice}
use Rattle.rows.proofs.Parents.{no_kin_unrelated}
use Rattle.record_codec.specs.declared.records.Record.{Record}
use Rattle.record_codec.specs.Log.{IsLegalLog, AreShaped, after}
use Rattle.source_core.specs.Source.{entry_of, entries_of, Source, Start, Open, new_source}
use Rattle.source_core.specs.AtLog.{nobody, owners_of, observed, AreObservable, source_at, IsSoundAtLog}
use Rattle.source_core.proofs.Flush.Drafted.{known_tables, sessions_of}
use Rattle.std.specs.FinMap.{empty}
use Rattle.std.specs.Option.{option_map}
use Rattle.log_index.specs.declared.Entry.{Entry as Seen}
use Rattle.tracker_trait.specs.Kind.{Kind}
use Rattle.store_trait.specs.Batch.{Entry, put_batch, all_rows}
use Rattle.store_trait.specs.Fits.{Fits}
use Rattle.store_trait.specs.Operation.{loaded}
use Rattle.store_trait.proofs.Values.{fits_apart}
use Rattle.overlay.specs.Pending.{Pending, none_pending}
use Rattle.row_index.specs.Keys.{Keys, Indexes}
use Rattle.row_index.specs.Counts.{Counts, CountsChildren}
use Rattle.row_locks.specs.Locks.{Holding, AllLocks, no_locks}
use Rattle.commit_stages.specs.Queues.{Queues}
use Rattle.source_core.specs.declared.transaction.Transaction.{Transaction}
use Rattle.source_core.specs.Core.{Parts, Holds, IsTrackedLog, IsStored, IsStart, IsIdle, AreFlushed, parts_of, source_of, open_view, pending_in, rows_held, marks_held, placed}
use Rattle.source_core.proofs.Stand.{none_twice}

no_rows : (rows : List RowId) → SameRows rows [] → rows ≡ []
no_rows [] same = refl
no_rows (row ∷ rows) same = let itself = same_row_itself row in absurd (cc (itself, same row))

are_observable : (ts : List Table) (base : Database) (front rest : List Record) → IsLegalLog ts base (front ++ rest) → AreShaped ts rest → AreObservable ts (length front + 1) rest
are_observable ts base front [] legal shaped = tt
are_observable ts base front (made ∷ rest) legal shaped =
    let next = legal front made rest refl in
    let regrouped : front ++ made ∷ rest ≡ (front ++ made ∷ []) ++ rest = sym (append_assoc front (made ∷ []) rest) in
    let others = are_observable ts base (front ++ made ∷ []) rest (subst (IsLegalLog ts base) regrouped legal) shaped.1 in (
      record {
        sequence = next.sequence;
        below = next.below;
        of_tables = record {
          flags = refl;
          known = known_tables ts made.changes shaped.0;
          refs = λ unrelated. no_rows made.refs (subst (SameRows made.refs) (no_kin_unrelated ts made.changes next.before unrelated) next.refs);
          set = refl;
        };
      },
      subst (λ (n : ℕ). AreObservable ts (n + 1) rest) (length_push front made) others,
    )

pub legal_are_observable : (ts : List Table) (base : Database) (log : List Record) → IsLegalLog ts base log → AreShaped ts log → AreObservable ts 1 log
legal_are_observable ts base log = are_observable ts base [] log

-- they are the entries of nobody's records
pub are_entries : (ts : List Table) (log : List Record) → observed ts log ≡ entries_of ts log (owners_of log)
are_entries ts [] = refl
are_entries ts (made ∷ log) = ap (λ l. entry_of ts made nobody ∷ l) (are_entries ts log)

-- ---- a source that goes on from a log, and one that is new: no session has a transaction, and nothing waits

-- no places, so many
none_of : (n i : ℕ) → placed (replicate n None) i ≡ None
none_of zero i = refl
none_of (suc n) zero = refl
none_of (suc n) (suc i) = none_of n i

mapped : {X Y : Type 0} (f : X → Y) (n : ℕ) (x : X) → map f (replicate n x) ≡ replicate n (f x)
mapped f zero x = refl
mapped f (suc n) x = ap (λ l. f x ∷ l) (mapped f n x)

absent : (i : ℕ) (t : Transaction) → placed (replicate 256 None) i ≡ Some t → ⊥
absent i t at = cc (sym (none_of 256 i) ∙ at)

no_held : (held : Pending → Holding) → replicate 256 (held none_pending) ≡ map held (map pending_in (replicate 256 None))
no_held held = sym (ap (map held) (mapped pending_in 256 None) ∙ mapped held 256 none_pending)

-- what is known of a source that goes on from a log: no locks, and nothing in its places and its queues
pub record IsAtLog (ts : List Table) (rows : Database) (base : List Entry) (index : Keys) (children : Counts) (limit : ℕ) (log : List Record) (entries : List Seen) (end : ℕ)
    (places : List (Option Transaction)) (stages : Queues) (locks : AllLocks) : Type 0 where
  pub bound : limit < 2 ^ 63
  pub few : length log ≤ limit
  pub logged : IsTrackedLog ts base log (owners_of log) entries
  pub stored : IsStored ts base log (length log) rows index children
  pub is_end : end ≡ length log
  pub idle : IsIdle places stages locks

module _ {ts : List Table} {rows : Database} {base : List Entry} {index : Keys} {children : Counts} {limit : ℕ} {log : List Record} {entries : List Seen} {end : ℕ}
    {places : List (Option Transaction)} {stages : Queues} {locks : AllLocks} (n : IsAtLog ts rows base index children limit log entries end places stages locks) where
  abbrev its : Parts
  its = parts_of ts rows index children base limit log end end entries places stages locks true 0

  -- the sessions that its entries say are nobody
  owners_at : map (λ (e : Seen). e.session) entries ≡ owners_of log
  owners_at = ap (map (λ (e : Seen). e.session)) n.logged.seen ∙ sessions_of ts log (owners_of log) n.logged.owned

  as_many : length its.owners ≡ end
  as_many = ap length owners_at ∙ n.logged.owned ∙ sym n.is_end

  pub holds_at : (IsSo : Type 0) → IsSo → Holds its IsSo
  unfolding no_locks
  holds_at IsSo so =
      let owners = its.owners in
      let many = as_many in
      let left = drop_all end owners (omega (arith, many)) in
      rw (n.idle.no_places, n.idle.no_stages)
      (record {
        core = record {
          logged = subst (λ (l : List ℕ). IsTrackedLog ts base log l entries) (sym owners_at) n.logged;
          few = omega (arith, n.few);
          bound = n.bound;
          synced_within = omega (arith, n.is_end);
          committed_within = omega arith;
          stored = subst (λ (k : ℕ). IsStored ts base log k rows index children) (sym n.is_end) n.stored;
          sessions = length-replicate {A = Option Transaction} 256 None;
          grouped = record { some = tt; whole = omega (arith, n.is_end) };
          locks = n.idle.none ∙ (λ i. record { rows = no_held rows_held i; marks = no_held marks_held i });
          no_clash = n.idle.no_clash;
          no_mark_clash = n.idle.no_mark_clash;
          applies = λ i t at. absurd (absent i t at);
          stands = λ i t at. absurd (absent i t at);
          flushed = subst (λ (l : List Record). AreFlushed (replicate 256 None) (end + 1) l (drop end owners)) (sym (drop_all end log (omega (arith, n.is_end))))
              (subst (λ (l : List ℕ). AreFlushed (replicate 256 None) (end + 1) [] l) (sym left) tt);
          queued = tt;
          distinct = none_twice;
        };
        waits = record { syncing = sym left; committing = sym (drop_all end (take end owners) (omega (arith, length-take-le end owners (omega (arith, many))))) };
        tracked = so;
        kept = record { within = omega arith; none = λ _. refl };
      })

  pub view_at : (kind : Kind) → source_of its kind false ≡ source_at ts base limit kind log
  view_at kind =
      rw (n.idle.no_places, n.idle.no_stages)
      (λ i. record (source_at ts base limit kind log) { synced = n.is_end i; committed = n.is_end i; owners = owners_at i; sessions = mapped (option_map open_view) 256 None i })

-- ---- what is asked of the log

pub logged_at : (ts : List Table) (base : List Entry) (log : List Record) (entries : List Seen) → IsLegalLog ts (put_batch base empty) log → AreShaped ts log → entries ≡ observed ts log →
    IsTrackedLog ts base log (owners_of log) entries
logged_at ts base log entries legal shaped are = record { legal = legal; shaped = shaped; owned = length-map log (λ _. nobody); seen = are ∙ are_entries ts log }

pub stored_at : (ts : List Table) (base opened : List Entry) (log : List Record) (rows : Database) (index : Keys) (children : Counts) → IsStart ts opened index children →
    rows ≡ loaded opened → after ts (loaded base) log ≡ Some rows → IsStored ts base log (length log) rows index children
stored_at ts base opened log rows index children start same are =
    subst (λ (db : Database). IsStored ts base log (length log) db index children) (sym same) (record {
      rows_are = ap (after ts (loaded base)) (take_all (length log) log (omega arith)) ∙ are ∙ ap Some same;
      fits = start.stored.fits;
      indexed = start.stored.indexed;
      counted = start.stored.counted;
    })

-- what a source begins with, of all rows of a store
pub is_start : (ts : List Table) (base : List Entry) (rows : Database) (index : Keys) (children : Counts) → base ≡ all_rows rows → loaded base ≡ rows → Fits ts rows →
    (NoValueTwice ts (loaded base) → Indexes ts (loaded base) index) → CountsChildren ts (loaded base) children → IsStart ts base index children
is_start ts base rows index children are loads fits indexed counted =
    let stands = subst (Fits ts) (sym loads) fits in
    record {
      whole = are ∙ ap all_rows (sym loads);
      stored = record { rows_are = refl; fits = stands; indexed = indexed (fits_apart ts (loaded base) stands); counted = counted };
    }

pub new_at : (s : Source) (ts : List Table) (base : List Entry) (limit : ℕ) (kind : Kind) (log : List Record) → log ≡ [] → s ≡ source_at ts base limit kind log →
    s ≡ new_source ts base limit kind
new_at s ts base limit kind log none e = e ∙ ap (source_at ts base limit kind) none

pub new_by : (s : Source) (ts tables : List Table) (base : List Entry) (limit : ℕ) (kind : Kind) → s ≡ new_source tables base limit kind → tables ≡ ts →
    s ≡ new_source ts s.base limit kind
new_by s ts tables base limit kind e same = e ∙ (λ i. new_source (same i) (sym e i).base limit kind)

pub at_by : (s : Source) (ts tables : List Table) (base : List Entry) (limit : ℕ) (kind seen : Kind) (log : List Record) → s ≡ source_at tables base limit seen log → ts ≡ tables →
    seen ≡ kind → s ≡ source_at ts base limit kind log
at_by s ts tables base limit kind seen log e same are = e ∙ (λ i. source_at (sym same i) base limit (are i) log)

-- what a source begins with, as it is seen and as it was made, has the same tables
pub same_tables : {seen start : Start} {ts : List Table} → seen ≡ start → start.tables ≡ ts → ts ≡ seen.tables
same_tables is are = sym (ap (λ (start : Start). start.tables) is ∙ are)

pub is_sound_at_log : IsSoundAtLog
is_sound_at_log ts base limit kind log legal shaped few bound = record {
  sessions = length-replicate {A = Option Open} 256 None;
  legal = legal;
  shaped = shaped;
  few = few;
  bound = bound;
  synced_within = omega arith;
  committed_within = omega arith;
  owned = length-map log (λ _. nobody);
  grouped = record { some = tt; whole = omega arith };
}

-- a source that is new is new over its own tables, base, limit and kind
pub new_is_new : (s : Source) (ts : List Table) (base : List Entry) (limit : ℕ) (kind : Kind) → s ≡ new_source ts base limit kind → s ≡ new_source s.tables s.base s.limit s.kind
new_is_new s ts base limit kind e =
    let back = sym e in
    e ∙ (λ i. new_source (back i).tables (back i).base (back i).limit (back i).kind)
