-- What is true under the lock stays so, step by step.
use Rattle.std.proofs.Common.{
  ◌≡◌,
  ◌≢◌,
  ℕ,
  zero,
  suc,
  ◌+◌,
  ◌-◌,
  ◌≤◌,
  Bool,
  true,
  false,
  ◌||◌,
  ◌&&◌,
  ◌==◌,
  slice_index_or,
  slice_set,
  inl,
  inr,
  List,
  [],
  ◌∷◌,
  ◌++◌,
  length,
  map,
  take,
  drop,
  replicate,
  Option,
  Some,
  None,
  IfSome,
  is_some,
  refl,
  sym,
  ap,
  ◌∙◌,
  subst,
  arith,
}
use Rattle.std.specs.Prelude.{slice_get, IsSomeAnd}
use Rattle.std.specs.Str.{bytes_eq}
use Rattle.std.proofs.lemmas.Bool.{false≢true, and_parts}
use Rattle.std.proofs.lemmas.Bool.Decides.{eqb_tells, Decides-eqb}
use Rattle.std.proofs.lemmas.Slice.Eq.{bytes_eq-Decides}
use Rattle.std.specs.Option.{option_map}
use Rattle.std.proofs.lemmas.Option.{IfSome_then}
use Rattle.std.proofs.lemmas.List.{take-append-le, length-set, length-replicate, length-map, take_all, drop_all}
use Rattle.schema.specs.declared.Table.{Table}
use Rattle.store_trait.specs.Batch.{Entry}
use Rattle.record_codec.specs.declared.records.Record.{Record}
use Rattle.record_codec.specs.Group.{GroupValue, AreNumbered, AreRecordsOf, size_of}
use Rattle.record_codec.specs.Version.{current}
use Rattle.log_file.specs.Head.{Head, next_of, records_of}
use Rattle.log_file.specs.declared.form.Form.TheVariants.{Three}
use Rattle.log_file.specs.Log.{Log, Kept, AreKept, Tail, waiting_of, log_of}
use Rattle.log_set.specs.Set.{AreSetHalves}
use Rattle.log_file.specs.Flushed.{IsFlushedOf, kept_of}
use Rattle.log_file.proofs.Unsynced.{Oldest, oldest_of, oldest_next, first_of, flushed_more, flushed_landed}
use Rattle.source_core.specs.declared.transaction.Receipt.{Receipt}
use Rattle.source_core.specs.Source.{Source, Open, IsSound}
use Rattle.source_core.specs.AtLog.{source_at, owners_of, nobody}
use Rattle.log_file.specs.Calls.{confirmed}
use Rattle.source_core.proofs.Flush.Ends.{group_ends, group_is_counted}
use Rattle.source_core.specs.Calls.{flushed, Flushes, IsOldest, with_synced, all_committed, receipts, receipts_for}
use Rattle.source_shared.specs.Engine.{
  State,
  Watch,
  NoneSleepsWithEnd,
  has_end,
  set_asleep,
  stirred_now,
  IsErrand,
  is_same,
  count,
  IsReady,
  AreLaidOut,
  IsSettled,
  ArePlaced,
  HoldsAll,
  IsNewState,
  committed_receipts,
  emptied as emptied_at,
  failed,
  with_home,
  landed,
  given,
  laid,
}
use Rattle.source_shared.specs.Book.{old_receipts}
use Rattle.source_shared.proofs.Places.{placed_none, none_placed}

-- ---- the groups that wait

-- the oldest group
oldest : (base : List Entry) (tables : List Table) (s : State) (group : GroupValue) (groups : List GroupValue) → s.unsynced ≡ group ∷ groups → IsSettled base tables s
    → Oldest s.core.log s.core.synced s.core.group_sizes group groups
oldest base tables s group groups unsynced h = oldest_of s.core.log s.core.synced s.core.group_sizes s.kept s.unsynced group groups h.flushed unsynced

-- is the next behind those that are synced
pub next_waits : (base : List Entry) (tables : List Table) (s : State) → IsSettled base tables s → IfSome (slice_get s.unsynced 0) (λ group. group.first ≡ next_of s.kept.head s.kept.records)
next_waits base tables s h = of s.unsynced refl where
  of : (groups : List GroupValue) → s.unsynced ≡ groups → IfSome (slice_get groups 0) (λ group. group.first ≡ next_of s.kept.head s.kept.records)
  of [] is = tt
  of (group ∷ groups) is = oldest_next s.core.log s.core.synced s.core.group_sizes s.kept s.unsynced group groups h.flushed (oldest base tables s group groups is h)

-- ---- steps

-- other sessions, and another queue
pub sessions_settled : (base : List Entry) (tables : List Table) (s : State) (sessions : List (Option Open)) (queue : List ℕ) → IsSettled base tables s
    → IsSettled base tables (record s { core = record s.core { sessions = sessions; queue = queue } })
sessions_settled base tables s sessions queue h =
    record { base_is = h.base_is; tables_is = h.tables_is; keeps = h.keeps; flushed = h.flushed; ready = h.ready; out = h.out; receipts = h.receipts; watch = h.watch; calm = h.calm }

-- the source is halted
pub failed_settled : (base : List Entry) (tables : List Table) (s : State) → IsSettled base tables s → IsSettled base tables (failed s)
failed_settled base tables s h =
    record {
      base_is = h.base_is;
      tables_is = h.tables_is;
      keeps = h.keeps;
      flushed = h.flushed;
      ready = IfSome_then s.home h.ready (λ t ready e. absurd cc);
      out = h.out;
      receipts = h.receipts;
      watch = record { sessions = h.watch.sessions; asleep = h.watch.asleep };
      calm = λ e. absurd (false≢true (sym e));
    }

-- where there was no receipt there is none once a place is emptied
none_in : (places : List (Option Receipt)) (k j : ℕ) → is_some (slice_index_or places j None) ≡ false → is_some (slice_index_or (slice_set places k None) j None) ≡ false
none_in [] k j e = refl
none_in (place ∷ places) zero zero e = refl
none_in (place ∷ places) zero (suc j) e = e
none_in (place ∷ places) (suc k) zero e = e
none_in (place ∷ places) (suc k) (suc j) e = none_in places k j e

no_end : (halted : Bool) (old new : Bool) → (old ≡ false → new ≡ false) → (halted || old) ≡ false → (halted || new) ≡ false
no_end true old new none e = e
no_end false old new none e = none e

-- a place is emptied
pub emptied : (base : List Entry) (tables : List Table) (s : State) (k : ℕ) → IsSettled base tables s → IsSettled base tables (emptied_at s k)
emptied base tables s k h =
    let laid_ = h.receipts in
    record {
      base_is = h.base_is;
      tables_is = h.tables_is;
      keeps = h.keeps;
      flushed = h.flushed;
      ready = h.ready;
      out = h.out;
      receipts = record { history_is = laid_.history_is; placed = placed_none s.history 1 s.places k laid_.placed; places = length-set s.places k None ∙ laid_.places; seats = laid_.seats };
      watch = h.watch;
      calm =
          λ e place sleeps. no_end s.core.halted (is_some (slice_index_or s.places place None)) (is_some (slice_index_or (slice_set s.places k None) place None))
          (none_in s.places k place) (h.calm e place sleeps);
    }

-- the writer is here, and ready unless the source is halted
home_settled : (base : List Entry) (tables : List Table) (s : State) (t : Tail) → (s.core.halted ≡ false → IsReady s.core.synced t) → IsSettled base tables s → IsSettled base tables (with_home t s)
home_settled base tables s t ready h =
    record { base_is = h.base_is; tables_is = h.tables_is; keeps = h.keeps; flushed = h.flushed; ready = ready; out = tt; receipts = h.receipts; watch = h.watch; calm = h.calm }

-- the writer that is here is ready, unless the source is halted
pub ready_here : (base : List Entry) (tables : List Table) (s : State) (t : Tail) → s.home ≡ Some t → s.core.halted ≡ false → IsSettled base tables s → IsReady s.core.synced t
ready_here base tables s t home running h = subst (λ (w : Option Tail). IfSome w (λ x. s.core.halted ≡ false → IsReady s.core.synced x)) home h.ready running

-- a flush
pub flushed_settled : (base : List Entry) (tables : List Table) (s : State) (c : Source) (group : GroupValue) → IsSound s.core → Flushes s.core group c → IsSettled base tables s
    → IsSettled base tables (record s { core = c; unsynced = s.unsynced ++ group ∷ [] })
flushed_settled base tables s c group sound f h =
    let core = s.core in
    let owners : take core.committed (core.owners ++ core.queue) ≡ take core.committed core.owners =
    take-append-le core.committed core.owners core.queue (omega (arith, sound.committed_within, sound.synced_within, sound.owned)) in
    let log : take core.committed (core.log ++ f.records) ≡ take core.committed core.log =
    take-append-le core.committed core.log f.records (omega (arith, sound.committed_within, sound.synced_within)) in
    let sizes : c.group_sizes ≡ (flushed core f.records).group_sizes = ap (λ (k : Source). k.group_sizes) f.leaves in
    subst (λ (k : Source). IsSettled base tables (record s { core = k; unsynced = s.unsynced ++ group ∷ [] })) (sym f.leaves)
    (record {
      base_is = h.base_is;
      tables_is = h.tables_is;
      keeps = h.keeps;
      flushed = subst (λ (l : List ℕ). IsFlushedOf (core.log ++ f.records) core.synced l s.kept (s.unsynced ++ group ∷ [])) (sym (group_is_counted core c group sound f) ∙ sizes)
          (flushed_more core.log core.synced core.group_sizes s.kept s.unsynced h.flushed f.records group (group_ends core c group sound f).0 f.version f.group_of);
      ready = h.ready;
      out = h.out;
      receipts = subst (λ (l : List Receipt). AreLaidOut l s.history s.places s.out) (sym (λ i. receipts_for (owners i) (log i))) h.receipts;
      watch = h.watch;
      calm = h.calm;
    })

-- ---- what is prepared is the oldest

-- the writer leaves with it
pub leaves : (base : List Entry) (tables : List Table) (s : State) (t : Tail) (group : GroupValue) → s.home ≡ Some t → s.core.halted ≡ false
    → slice_get s.unsynced 0 ≡ Some group → IsSettled base tables s → IsErrand (record { tail = t; group = group })
leaves base tables s t group home running at h =
    let o = oldest base tables s group (drop 1 s.unsynced) (first_of s.unsynced group at) h in
    let ready = subst (λ (w : Option Tail). IfSome w (λ x. s.core.halted ≡ false → IsReady s.core.synced x)) home h.ready running in
    record { waiting = ready.waiting; next = o.first ∙ sym ready.next; version = o.version; form = ready.form; goes = ready.goes }

prepared_is : (prepared : Option GroupValue) (P : GroupValue → Type 0) → IsSomeAnd prepared P → (group : GroupValue) × (prepared ≡ Some group) × P group
prepared_is None P some = absurd some
prepared_is (Some group) P some = (group, refl, some)

-- the prepared group is the oldest
prepared_oldest : (base : List Entry) (tables : List Table) (s : State) (group : GroupValue) → s.kept.prepared ≡ Some group → IsSettled base tables s → s.unsynced ≡ group ∷ drop 1 s.unsynced
prepared_oldest base tables s group prepared h = first_of s.unsynced group (h.flushed.prepared group prepared)

-- a group of its numbers and bytes is it
same_group : (p group : GroupValue) → is_same p group ≡ true → p.version ≡ group.version → p ≡ group
same_group p group is version =
    let parts = and_parts (p.first == group.first && p.last == group.last) (bytes_eq p.bytes group.bytes) is in
    let numbers = and_parts (p.first == group.first) (p.last == group.last) parts.0 in
    λ i. record {
      version = version i;
      first = (Decides-eqb p.first group.first).0 numbers.0 i;
      last = (Decides-eqb p.last group.last).0 numbers.1 i;
      bytes = (bytes_eq-Decides p.bytes group.bytes).0 parts.1 i;
    }

-- a group of the numbers and bytes of the prepared one is the prepared one
pub expected : (base : List Entry) (tables : List Table) (s : State) (p group : GroupValue) → s.kept.prepared ≡ Some p → IsSettled base tables s → group.version ≡ current
    → is_same p group ≡ true → s.kept.prepared ≡ Some group
expected base tables s p group is h version same =
    let at = oldest base tables s p (drop 1 s.unsynced) (prepared_oldest base tables s p is h) h in
    is ∙ ap Some (same_group p group same (at.version ∙ sym version))

-- the writer that was to write it is ready again
pub taken_back : (base : List Entry) (tables : List Table) (s old : State) (t : Tail) → s ≡ old → IsSettled base tables s
    → IsSomeAnd old.kept.prepared (λ group. group.first ≡ t.next) → t.waiting ≡ None → t.form ≡ Three → t.finished ≡ false
    → IsSettled base tables (with_home t s)
taken_back base tables s old t is h some waiting form goes =
    let p = prepared_is s.kept.prepared (λ group. group.first ≡ t.next) (subst (λ (x : State). IsSomeAnd x.kept.prepared (λ group. group.first ≡ t.next)) (sym is) some) in
    let at = oldest base tables s p.0 (drop 1 s.unsynced) (prepared_oldest base tables s p.0 p.1 h) h in
    home_settled base tables s t (λ running. record { waiting = waiting; next = sym p.2 ∙ at.first; form = form; goes = goes }) h

-- the prepared group is the oldest that the core has flushed and not synced
pub prepared_asks : (base : List Entry) (tables : List Table) (s : State) (group : GroupValue) → s.kept.prepared ≡ Some group → IsSettled base tables s → IsOldest s.core group
prepared_asks base tables s group prepared h =
    let at = oldest base tables s group (drop 1 s.unsynced) (prepared_oldest base tables s group prepared h) h in
    record { are = at.are; whole = at.whole }

-- the prepared group is synced
module _ (base : List Entry) (tables : List Table) (s : State) (t : Tail) (group : GroupValue) (c : Source) (k : Kept) (unsynced : List GroupValue)
    (h : IsSettled base tables s) (prepared : s.kept.prepared ≡ Some group)
    (core : c ≡ with_synced s.core group.last) (confirms : (g : GroupValue) (rs : List Record) → s.kept.prepared ≡ Some g → AreRecordsOf g rs → k ≡ confirmed g rs s.kept)
    (rest : unsynced ≡ drop 1 s.unsynced) where
  at : Oldest s.core.log s.core.synced s.core.group_sizes group (drop 1 s.unsynced)
  at = oldest base tables s group (drop 1 s.unsynced) (prepared_oldest base tables s group prepared h) h

  all : s.kept.records ++ drop s.core.synced (take group.last s.core.log) ≡ take group.last s.core.log
  all = ap (λ (l : List Record). l ++ drop s.core.synced (take group.last s.core.log)) h.flushed.records ∙ sym at.front

  -- what is left then is as `landed` says
  pub landed_is : record s { core = c; kept = k; home = Some t; unsynced = unsynced } ≡ landed group (with_home t s)
  landed_is =
      let kept = confirms group (drop s.core.synced (take group.last s.core.log)) prepared at.are ∙ (λ i. record s.kept { records = all i; groups = s.kept.groups ++ group ∷ []; prepared = None }) in
      λ i. record s { core = core i; kept = kept i; home = Some t; unsynced = rest i }

  -- and it is settled, with a writer that is ready behind the group
  pub landed_settled : t.next ≡ group.last + 1 → t.waiting ≡ None → t.form ≡ Three → t.finished ≡ false →
      IsSettled base tables (record s { core = c; kept = k; home = Some t; unsynced = unsynced })
  landed_settled next waiting form goes =
      subst (IsSettled base tables) (sym landed_is)
      (record {
        base_is = h.base_is;
        tables_is = h.tables_is;
        keeps = h.keeps;
        flushed =
            subst
            (λ (rs : List Record). IsFlushedOf s.core.log group.last (drop 1 s.core.group_sizes)
            (record s.kept { records = rs; groups = s.kept.groups ++ group ∷ []; prepared = None }) (drop 1 s.unsynced)) all
            (flushed_landed s.core.log s.core.synced s.core.group_sizes s.kept s.unsynced group (drop 1 s.unsynced) h.flushed at);
        ready = λ running. record { waiting = waiting; next = next; form = form; goes = goes };
        out = tt;
        receipts = h.receipts;
        watch = h.watch;
        calm = h.calm;
      })

-- a commit
pub given_settled : (base : List Entry) (tables : List Table) (s : State) (c : Source) (places : List (Option Receipt)) (history : List Receipt) → c ≡ all_committed s.core
    → ArePlaced history 1 places → length places ≡ length s.places
    → history ≡ receipts_for (take s.core.synced s.core.owners) (take s.core.synced s.core.log) → IsSettled base tables s
    → IsSettled base tables (stirred_now (record s { core = c; places = places; history = history }))
given_settled base tables s c places history is placed long history_is h =
    subst (λ (k : Source). IsSettled base tables (stirred_now (record s { core = k; places = places; history = history }))) (sym is)
    (record {
      base_is = h.base_is;
      tables_is = h.tables_is;
      keeps = h.keeps;
      flushed = h.flushed;
      ready = h.ready;
      out = h.out;
      receipts = record { history_is = history_is; placed = placed; places = long ∙ h.receipts.places; seats = h.receipts.seats };
      watch = record { sessions = h.watch.sessions; asleep = h.watch.asleep };
      calm = λ e. absurd (false≢true (sym e));
    })

-- what a commit leaves is as `given` says
pub given_is : (s old : State) (c : Source) (places : List (Option Receipt)) (history : List Receipt) → s ≡ old → c ≡ all_committed s.core
    → places ≡ laid (receipts s.core) s.places → history ≡ receipts_for (take s.core.synced s.core.owners) (take s.core.synced s.core.log)
    → stirred_now (record s { core = c; places = places; history = history }) ≡ given old
given_is s old c places history same is places_are history_is = (λ i. stirred_now (record s { core = is i; places = places_are i; history = history_is i })) ∙ ap (λ (x : State). given x) same

-- ---- who waits

count_none : (n : ℕ) → count (replicate n false) ≡ 0
count_none zero = refl
count_none (suc n) = count_none n

none_of : (n k : ℕ) → slice_index_or (replicate n false) k false ≡ false
none_of zero k = refl
none_of (suc n) zero = refl
none_of (suc n) (suc k) = none_of n k

-- where nobody sleeps who has its end the session of a place may begin to, if it has not its own
pub set_settled : (s : State) (k : ℕ) (sleeps : Bool) → (sleeps ≡ true → has_end s k ≡ false) → NoneSleepsWithEnd s → NoneSleepsWithEnd (set_asleep s k sleeps)
set_settled s k sleeps may none place e =
    elim (eqb_tells place k) [
      | inl same ↦ subst (λ (n : ℕ). has_end s n ≡ false) (sym same.1) (may (here s.watch.sleeping k (subst (λ (n : ℕ). slice_index_or (slice_set s.watch.sleeping k sleeps) n false ≡ true) same.1 e)))
      | inr apart ↦ none place (there s.watch.sleeping k place apart.1 e)
    ]
  where
    here : (l : List Bool) (j : ℕ) → slice_index_or (slice_set l j sleeps) j false ≡ true → sleeps ≡ true
    here [] j e = absurd (false≢true e)
    here (x ∷ l) zero e = e
    here (x ∷ l) (suc j) e = here l j e

    there : (l : List Bool) (j i : ℕ) → i ≢ j → slice_index_or (slice_set l j sleeps) i false ≡ true → slice_index_or l i false ≡ true
    there [] j i apart e = e
    there (x ∷ l) zero zero apart e = absurd (apart refl)
    there (x ∷ l) zero (suc i) apart e = e
    there (x ∷ l) (suc j) zero apart e = e
    there (x ∷ l) (suc j) (suc i) apart e = there l j i (λ same. apart (ap suc same)) e

-- ---- a source that was just made

-- a log of the records of a core, which are numbered from 1, begins with 1
first_is : (log : Log) (k : Kept) (c : Source) → IsSound c → AreKept k → HoldsAll log c.log → k.head ≡ log.head → k.records ≡ c.log → k.head.first ≡ 1
first_is log k c sound kept holds head records = of c.log refl
  where
    of : (l : List Record) → c.log ≡ l → k.head.first ≡ 1
    of [] is = ap (λ (h : Head). h.first) head ∙ holds.first is
    of (made ∷ l) is =
        let numbered : AreNumbered k.head.first (made ∷ l) = subst (AreNumbered k.head.first) (records ∙ is) kept.numbered in
        sym numbered.0 ∙ (sound.legal [] made l is).gno

-- all that is flushed is committed
record IsAllCommitted (c : Source) : Type 0 where
  pub synced : c.synced ≡ length c.log
  pub committed : c.committed ≡ length c.log
  pub grouped : c.group_sizes ≡ []

-- what lies between flush and sync is nothing
flushed_at : (log : Log) (s : State) → IsAllCommitted s.core → IsSound s.core → AreKept s.kept → HoldsAll log s.core.log → kept_of log ≡ s.kept → s.unsynced ≡ []
    → IsFlushedOf s.core.log s.core.synced s.core.group_sizes s.kept s.unsynced
flushed_at log s all sound kept holds same unsynced =
    let records : s.kept.records ≡ s.core.log = ap (λ (k : Kept). k.records) (sym same) ∙ holds.records in
    let many : length s.core.log ≤ s.core.synced = omega (arith, all.synced) in
    let rest : drop s.core.synced s.core.log ≡ [] = drop_all s.core.synced s.core.log many in
    record {
      version = ap (λ (k : Kept). records_of k.head.form) (sym same) ∙ ap records_of holds.form;
      versions = rw unsynced tt;
      first = first_is log s.kept s.core sound kept holds (ap (λ (k : Kept). k.head) (sym same)) records;
      records = records ∙ sym (take_all s.core.synced s.core.log many);
      many = ap length records ∙ sym all.synced;
      held = rw (rest, unsynced) refl;
      sizes = all.grouped ∙ ap (map size_of) (sym unsynced);
      prepared = λ group is. absurd (cc (holds.waiting, ap (λ (k : Kept). k.prepared) same, is));
      numbered = rw rest tt;
    }

-- its history begins with the receipts of the committed records
receipts_at : (c : Source) → IsAllCommitted c → c.owners ≡ owners_of c.log → old_receipts c.log ≡ committed_receipts c
receipts_at c all owners =
    let many : length (owners_of c.log) ≡ length c.log = length-map c.log (λ (r : Record). nobody) in
    let own : take c.committed c.owners ≡ owners_of c.log = ap (take c.committed) owners ∙ take_all c.committed (owners_of c.log) (omega (arith, all.committed, many)) in
    let log : take c.committed c.log ≡ c.log = take_all c.committed c.log (omega (arith, all.committed)) in
    sym (λ i. receipts_for (own i) (log i))

-- over a core at a log, and the files that hold this
pub new_settled : (log : Log) (past : ℕ) (s : State) (t : Tail) → s.core ≡ source_at s.core.tables s.core.base s.core.limit s.core.kind s.core.log → IsSound s.core
    → HoldsAll log s.core.log → s.home ≡ Some t → AreKept s.kept → AreSetHalves s.kept t → IsNewState s.core log past s
    → IsSettled s.core.base s.core.tables s
new_settled log past s t core sound holds home kept halves new =
    let both : log_of s.kept t ≡ log = subst (λ (o : Option Tail). IfSome o (λ x. log_of s.kept x ≡ log)) home new.home in
    let all : IsAllCommitted s.core = record { synced = ap (λ (c : Source). c.synced) core; committed = ap (λ (c : Source). c.committed) core; grouped = ap (λ (c : Source). c.group_sizes) core } in
    let flushed = flushed_at log s all sound kept holds (sym (ap kept_of both)) new.unsynced in
    record {
      base_is = refl;
      tables_is = refl;
      keeps = ap (λ (c : Source). c.keeps) core;
      flushed = flushed;
      ready =
          rw home
          (λ running. record {
            waiting = halves.waits ∙ ap (option_map waiting_of) (ap (λ (l : Log). l.waiting) both ∙ holds.waiting);
            next = omega (arith, halves.next, flushed.first, flushed.many);
            form = halves.form ∙ ap (λ (l : Log). l.head.form) both ∙ holds.form;
            goes = halves.goes;
          });
      out = rw home tt;
      receipts = record {
        history_is = new.history ∙ receipts_at s.core all (ap (λ (c : Source). c.owners) core);
        placed = rw new.places (none_placed s.history 1 256);
        places = ap length new.places ∙ length-replicate {A = Option Receipt} 256 None;
        seats = ap length new.out ∙ length-replicate 256 false;
      };
      watch = rw new.watch (record { sessions = length-replicate 256 false; asleep = sym (count_none 256) });
      calm = λ e place sleeps. absurd (false≢true (sym (none_of 256 place) ∙ subst (λ (w : Watch). slice_index_or w.sleeping place false ≡ true) new.watch sleeps));
    }
