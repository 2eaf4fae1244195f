-- What each step does to the publisher and the words that stand with a core.
use Rattle.std.proofs.Common.{◌≡◌, ◌∙◌, sym, ap, subst, refl, ℕ, zero, suc, Bool, true, false, true≢false, not, ◌&&◌, ◌||◌, nat_le, is_some, ◌+◌, ◌-◌, ◌<◌, ◌≤◌, List, [], ◌∷◌, ◌++◌, length, take}
use Rattle.std.proofs.Common.{drop, Option, Some, None, arith, slice_get, get_or, length-append, append_assoc, append-nil}
use Rattle.std.specs.List.{list_any}
use Rattle.std.specs.Option.{option_map_or}
use Rattle.std.proofs.lemmas.List.{length-drop, length-take-le, same_from_push, take_all}
use mathlib.Core.List.{IsPrefix}
use base.Growing.{prefix_trans}
use Rattle.schema.specs.declared.Table.{Table}
use Rattle.store_trait.specs.Batch.{Entry}
use Rattle.store_trait.specs.Operation.{loaded}
use Rattle.store_trait.specs.declared.Op.{Op}
use Rattle.store_trait.specs.declared.Op.TheVariants.{Load, Commit}
use Rattle.record_codec.specs.declared.records.Record.{Record}
use Rattle.gtid_set.specs.Numbers.{is_within}
use Rattle.gtid_set.specs.declared.intervals.Interval.{Interval}
use Rattle.scheduler.specs.Gnos.{has_gno, low_of, first_gnos, AreDistinct}
use Rattle.scheduler.proofs.Gnos.{has_gno_last, has_gno-take, AreDistinct-take, distinct_between, take-first_gnos, first_gnos-next}
use Rattle.gapped.specs.Gapped.{records_at}
use Rattle.gapped.proofs.Choosing.{records_at_joined, length_records_at, commits_are_distinct, AreWithin}
use Rattle.published.specs.declared.counts.Counts.{Counts}
use Rattle.published.specs.History.{IsHistory, IsWithin, MayAppend, gnos_of, commits_in}
use Rattle.published.specs.Publication.{Publishing}
use Rattle.published.specs.Status.{NoneFalls, latest}
use Rattle.published.proofs.Histories.{prefix_whole, history_length, history_load, gnos_of-append}
use Rattle.replica_core.specs.Replica.{Replica, ran, commits_from, operations, operations_in_order, waiting}
use Rattle.replica_core.specs.Calls.{new_over, with_commit}
use Rattle.replica_core.specs.Sound.{IsSound}
use Rattle.replica_core.proofs.Showing.{sound_stands, commits_within, gnos_of_operations, length_operations, TellsGnos}
use Rattle.replica_shared.specs.Names.{ReplicaNames, replica_names, IsNewReplica, IsKnown}
use Rattle.replica_shared.specs.Together.{StandTogether, IsAppended, words_of, loaded_alone}
use Rattle.replica_shared.specs.Awaited.{has_each, is_commit_in}
use Rattle.replica_shared.proofs.Awaiting.{any_commit_in, front_has}
use Rattle.replica_shared.proofs.Commits.{prefix_length, prefix_is, prefix_next, prefix_operations, first_operations, same_operations, all_operations, few_operations, commits_alone, gnos_of-drop}
use Rattle.replica_shared.proofs.Commits.{front, slice_get-drop, looked_up}
use Rattle.replica_shared.proofs.Known.{none_of_log, within_known}

-- what is left where a number was answered
pub left_committed : (r next : Replica) (gno : Option ℕ) → true ≡ is_some gno → next ≡ option_map_or (λ committed. with_commit r committed) gno r → (committed : ℕ) × (next ≡ with_commit r committed)
left_committed r next None some is = absurd (cc (some))
left_committed r next (Some committed) some is = (committed, is)

-- no word falls
pub words_committed : (r then : Replica) (gno : ℕ) (stored : List Counts) → then ≡ with_commit r gno → latest stored ≡ words_of r → NoneFalls (latest stored) (words_of then)
words_committed r then gno stored is words =
    subst (λ (w : Counts). NoneFalls w (words_of then)) (sym words)
    (subst (λ (q : Replica). NoneFalls (words_of r) (words_of q)) (sym is) (omega arith, omega (arith, length-append r.commits (gno ∷ [])), omega arith))

-- the gnos of operations
pub tells_gnos : TellsGnos gnos_of
tells_gnos = record { none = refl; load = λ base ops. refl; commit = λ gno batch ops. refl }

-- as many records as commits
pub length_ran : (r : Replica) → AreWithin r.commits r.accepted → length (ran r) ≡ length r.commits
length_ran r within = length_records_at r.accepted r.commits within

-- ---- what may be appended

new_commit : (ops : List Op) (commits : List ℕ) (k gno : ℕ) → gnos_of ops ++ gno ∷ [] ≡ take (k + 1) commits → AreDistinct commits → has_gno (gnos_of ops) gno ≡ false
new_commit ops commits k gno more distinct =
    distinct_between (gnos_of ops) gno [] (subst AreDistinct (sym more) (AreDistinct-take (k + 1) commits distinct))

-- one more operation, whose gno is the next of the commits
pub may_append : (preserve : Bool) (ops : List Op) (op : Op) (r : Replica) (k : ℕ) → IsSound r → r.preserve ≡ preserve → k < length r.commits → length ops ≡ k + 1
    → gnos_of ops ≡ take k r.commits → gnos_of (ops ++ op ∷ []) ≡ take (k + 1) r.commits → MayAppend preserve ops op
may_append preserve ops (Load base) r k sound order less size were are =
    let same : take k r.commits ≡ take (k + 1) r.commits = sym were ∙ sym (append-nil (gnos_of ops)) ∙ sym (gnos_of-append ops (Load base ∷ [])) ∙ are in
    absurd (omega (arith, ap (λ (l : List ℕ). length l) same, length-take-le k r.commits (omega arith), length-take-le (k + 1) r.commits (omega arith)))
may_append preserve ops (Commit gno batch) r k sound order less size were are = by_order preserve order
  where
    more : gnos_of ops ++ gno ∷ [] ≡ take (k + 1) r.commits
    more = sym (gnos_of-append ops (Commit gno batch ∷ [])) ∙ are

    among : has_gno r.commits gno ≡ true
    among = has_gno-take (k + 1) r.commits gno (subst (λ l. has_gno l gno ≡ true) more (has_gno_last (gnos_of ops) gno))

    next : r.preserve ≡ true → gno ≡ length ops
    next kept =
        let is = (sound.in_order kept).commits in
        let longer : take (k + 1) r.commits ≡ first_gnos k ++ (k + 1) ∷ [] = ap (take (k + 1)) is ∙ take-first_gnos (k + 1) (length r.commits) (omega arith) ∙ first_gnos-next k in
        (same_from_push (gnos_of ops) (first_gnos k) gno (k + 1) (more ∙ longer)).1 ∙ sym size

    by_order : (b : Bool) → r.preserve ≡ b → MayAppend b ops (Commit gno batch)
    by_order true kept = next kept
    by_order false free = (
      (commits_within r (sound_stands r sound) gno among).0,
      new_commit ops r.commits k gno more (commits_are_distinct r.tables (loaded r.base) r.accepted r.commits sound.commits),
    )

module _ {names : ReplicaNames} {preserve : Bool} {r : Replica} {p : Publishing} {appended : ℕ} {stored : List Counts}
    (t : StandTogether names preserve r p appended stored) where
  abbrev all : List Op
  all = commits_from r.tables (loaded r.base) (ran r)

  whole_is : operations r.tables r.base (ran r) (length r.commits) ≡ Load r.base ∷ all
  whole_is = all_operations r.tables r.base (ran r) (length r.commits) (length_ran r t.within)

  -- one more record is committed, and the words are stored
  pub stand_committed : (gno : ℕ) {after : List Counts} → IsSound (with_commit r gno) → latest after ≡ words_of (with_commit r gno)
      → StandTogether names preserve (with_commit r gno) p appended after
  stand_committed gno sound words = record {
    named = t.named;
    within = commits_within (with_commit r gno) (sound_stands (with_commit r gno) sound);
    history = t.history;
    begins =
        prefix_trans (p.published ++ p.waiting) (operations r.tables r.base (ran r) (length r.commits))
        (operations r.tables r.base (ran (with_commit r gno)) (length (r.commits ++ gno ∷ []))) t.begins longer;
    shown = t.shown;
    words = words;
    number = t.number;
    in_order = λ kept. (sound.in_order (t.named.3 ∙ kept)).ops;
    of_log = t.of_log;
  }
    where
      one : List Record
      one = records_at r.accepted (gno ∷ [])

      longer : IsPrefix (operations r.tables r.base (ran r) (length r.commits)) (operations r.tables r.base (ran (with_commit r gno)) (length (r.commits ++ gno ∷ [])))
      longer =
          let more = prefix_operations r.tables r.base (ran r ++ one) (length r.commits) (length (r.commits ++ gno ∷ [])) (omega (arith, length-append r.commits (gno ∷ []))) in
          let same = same_operations r.tables r.base (ran r) one (length r.commits) (omega (arith, length_ran r t.within)) in
          subst (λ l. IsPrefix (operations r.tables r.base (ran r) (length r.commits)) (operations r.tables r.base l (length (r.commits ++ gno ∷ []))))
          (sym (records_at_joined r.accepted r.commits (gno ∷ [])))
          (subst (λ l. IsPrefix l (operations r.tables r.base (ran r ++ one) (length (r.commits ++ gno ∷ [])))) same more)

  -- so many operations are published and appended
  size_of : length (p.published ++ p.waiting) ≡ appended + 1
  size_of =
      let some = history_length preserve p.published t.history in
      let number = t.number in
      omega (arith, length-append p.published p.waiting)

  -- no more is appended than committed
  pub appended_within : appended ≤ length r.commits
  appended_within =
      let sizes = prefix_length (p.published ++ p.waiting) (operations r.tables r.base (ran r) (length r.commits)) t.begins in
      let few = few_operations r.tables r.base (ran r) (length r.commits) in
      omega (arith, size_of)

  -- and where as much is, all is
  pub all_appended : length r.commits ≤ appended → IsAppended r p
  all_appended enough =
      let few = few_operations r.tables r.base (ran r) (length r.commits) in
      let number = t.number in
      record { all = prefix_whole (p.published ++ p.waiting) (operations r.tables r.base (ran r) (length r.commits)) t.begins (omega (arith, size_of)); number = omega (arith, appended_within) }

  size_all : IsSound r → length all ≡ length r.commits
  size_all sound =
      let size = length_operations r (length r.commits) (sound_stands r sound) (omega arith) in
      omega (arith, size, ap (λ (l : List Op). length l) whole_is)

  -- where less is appended than committed, the next of the waiting operations is there
  pub next_within : IsSound r → appended < length r.commits → appended - r.published < length (waiting r)
  next_within sound more =
      let size = size_all sound in
      let shown = t.shown in
      let number = t.number in
      omega (arith, length-drop r.published all, size)

  -- that one is the operation of the next commit that was not appended
  pub next_operation : {pending : List Op} (op : Op) → IsSound r → appended < length r.commits → pending ≡ waiting r → op ≡ get_or pending (appended - r.published) op
      → slice_get all appended ≡ Some op
  next_operation op sound more are is =
      let shown = t.shown in
      let number = t.number in
      let place : r.published + (appended - r.published) ≡ appended = omega arith in
      let within : appended - r.published < length (drop r.published all) = next_within sound more in
      let at : op ≡ get_or (drop r.published all) (appended - r.published) op = is ∙ ap (λ l. get_or l (appended - r.published) op) are in
      sym (slice_get-drop r.published (appended - r.published) all ∙ ap (slice_get all) place) ∙ looked_up (drop r.published all) (appended - r.published) op within at

  next_begins : (op : Op) → slice_get all appended ≡ Some op → IsPrefix ((p.published ++ p.waiting) ++ op ∷ []) (operations r.tables r.base (ran r) (length r.commits))
  next_begins op is =
      let place : length (p.published ++ p.waiting) ≡ suc appended = omega (arith, size_of) in
      prefix_next (p.published ++ p.waiting) (operations r.tables r.base (ran r) (length r.commits)) op t.begins
      (ap (λ l. slice_get l (length (p.published ++ p.waiting))) whole_is ∙ ap (slice_get (Load r.base ∷ all)) place ∙ is)

  -- the gnos of a beginning are the first of those of the commits
  gnos_of_prefix : (ops : List Op) (k : ℕ) → IsSound r → k ≤ length r.commits → length ops ≡ k + 1 → IsPrefix ops (operations r.tables r.base (ran r) (length r.commits))
      → gnos_of ops ≡ take k r.commits
  gnos_of_prefix ops k sound le size begins =
      let whole = operations r.tables r.base (ran r) (length r.commits) in
      ap gnos_of (prefix_is ops whole begins ∙ ap (λ n. take n whole) size ∙ sym (first_operations r.tables r.base (ran r) k (length r.commits) le))
      ∙ gnos_of_operations gnos_of r k tells_gnos (sound_stands r sound)

  -- it is one that may be appended
  pub next_may : (op : Op) → IsSound r → appended < length r.commits → slice_get all appended ≡ Some op → MayAppend preserve (p.published ++ p.waiting) op
  next_may op sound more is =
      let ops = p.published ++ p.waiting in
      let size = size_of in
      may_append preserve ops op r appended sound t.named.3 more size (gnos_of_prefix ops appended sound (omega arith) size t.begins)
      (gnos_of_prefix (ops ++ op ∷ []) (appended + 1) sound (omega arith) (omega (arith, length-append ops (op ∷ []))) (next_begins op is))

  -- and a beginning of all that may be published ends with it
  pub next_known : (known : Option (List Op)) (op : Op) → IsKnown names preserve known → slice_get all appended ≡ Some op → IsWithin known ((p.published ++ p.waiting) ++ op ∷ [])
  next_known known op is at =
      let ops = (p.published ++ p.waiting) ++ op ∷ [] in
      within_known names.tables names.base names.log preserve known r.accepted ops (length r.commits) is t.of_log (λ kept.
      subst (λ (b : List Entry). IsPrefix ops (operations_in_order names.tables b r.accepted (length r.commits))) t.named.2
      (subst (λ (ts : List Table). IsPrefix ops (operations_in_order ts r.base r.accepted (length r.commits))) t.named.0
      (subst (λ (l : List Op). IsPrefix ops l) (t.in_order kept (length r.commits) (omega arith)) (next_begins op at))))

  -- and then it is appended
  pub stand_appended : (op : Op) → slice_get all appended ≡ Some op → StandTogether names preserve r (record p { waiting = p.waiting ++ op ∷ [] }) (appended + 1) stored
  stand_appended op is = record {
    named = t.named;
    within = t.within;
    history = t.history;
    begins = subst (λ l. IsPrefix l (operations r.tables r.base (ran r) (length r.commits))) (append_assoc p.published p.waiting (op ∷ [])) (next_begins op is);
    shown = t.shown;
    words = t.words;
    number = (let number = t.number in omega (arith, length-append p.waiting (op ∷ [])));
    in_order = t.in_order;
    of_log = t.of_log;
  }

  -- ---- what is published

  -- no more commits are published than there are
  pub published_within : commits_in p.published ≤ length r.commits
  published_within =
      let most = appended_within in
      let number = t.number in
      omega arith

  -- what is published are the operations of the first commits
  pub published_is : p.published ≡ operations r.tables r.base (ran r) (commits_in p.published)
  published_is =
      let whole = operations r.tables r.base (ran r) (length r.commits) in
      let size = history_length preserve p.published t.history in
      prefix_is p.published whole (front p.published p.waiting whole t.begins)
      ∙ ap (λ n. take n whole) size
      ∙ sym (first_operations r.tables r.base (ran r) (commits_in p.published) (length r.commits) published_within)

  -- in the order of the log they are those of the first accepted records
  pub published_in_order : preserve ≡ true → p.published ≡ operations_in_order r.tables r.base r.accepted (commits_in p.published)
  published_in_order kept = published_is ∙ t.in_order kept (commits_in p.published) published_within

  -- the gnos of the published operations are the first of the commits, and those that are to be published the others
  pub gnos_published : IsSound r → gnos_of p.published ≡ take r.published r.commits
  gnos_published sound =
      gnos_of_prefix p.published (commits_in p.published) sound published_within (history_length preserve p.published t.history)
      (front p.published p.waiting (operations r.tables r.base (ran r) (length r.commits)) t.begins)
      ∙ ap (λ n. take n r.commits) (sym t.shown)

  gnos_all : IsSound r → gnos_of all ≡ r.commits
  gnos_all sound =
      sym (ap gnos_of whole_is) ∙ gnos_of_operations gnos_of r (length r.commits) tells_gnos (sound_stands r sound) ∙ take_all (length r.commits) r.commits (omega arith)

  pub gnos_waiting : IsSound r → gnos_of (waiting r) ≡ drop r.published r.commits
  gnos_waiting sound = gnos_of-drop r.published all (commits_alone r.tables (loaded r.base) (ran r)) ∙ ap (drop r.published) (gnos_all sound)

  -- which commits of an interval are published
  pub shown_are : (i : Interval) → IsSound r → 1 ≤ i.first →
      has_each (gnos_of p.published) i ≡ (nat_le i.last (low_of (gnos_of p.published)) || (has_each r.commits i && not (list_any (is_commit_in i) (waiting r))))
  shown_are i sound one =
      let distinct = commits_are_distinct r.tables (loaded r.base) r.accepted r.commits sound.commits in
      let behind : list_any (is_commit_in i) (waiting r) ≡ list_any (is_within i) (drop r.published r.commits) = any_commit_in i (waiting r) ∙ ap (list_any (is_within i)) (gnos_waiting sound) in
      subst (λ gnos. has_each gnos i ≡ (nat_le i.last (low_of gnos) || (has_each r.commits i && not (list_any (is_commit_in i) (waiting r))))) (sym (gnos_published sound))
      (subst (λ b. has_each (take r.published r.commits) i ≡ (nat_le i.last (low_of (take r.published r.commits)) || (has_each r.commits i && not b))) (sym behind)
      (front_has r.commits r.published i distinct one))

-- a new replica, of which the load is published
pub new_stands : {names : ReplicaNames} {preserve : Bool} {workers : ℕ} {p : Publishing} {stored : List Counts} → p ≡ loaded_alone names.base → stored ≡ []
    → StandTogether names preserve (record (new_over names.tables names.source names.base workers preserve) { keeps = names.keeps }) p 0 stored
new_stands {names = names} {preserve = preserve} is none = record {
  named = (refl, refl, refl, refl, refl);
  within = λ gno has. absurd (true≢false (sym has));
  history = subst (λ (q : Publishing). IsHistory preserve q.published) (sym is) (history_load preserve names.base);
  begins = subst (λ (q : Publishing). IsPrefix (q.published ++ q.waiting) (Load names.base ∷ [])) (sym is) ([], refl);
  shown = sym (ap (λ (q : Publishing). commits_in q.published) is);
  words = ap latest none;
  number = sym (ap (λ (q : Publishing). commits_in q.published + length q.waiting) is);
  in_order = λ kept. first;
  of_log = none_of_log names.log;
}
  where
    first : (n : ℕ) → n ≤ 0 → operations names.tables names.base [] n ≡ operations_in_order names.tables names.base [] n
    first zero le = refl
    first (suc n) le = absurd (omega arith)

-- a new replica is new over what it shows
pub new_is_new : (r : Replica) (ts : List Table) (source : List ℕ) (base : List Entry) (workers : ℕ) (preserve : Bool) → r ≡ new_over ts source base workers preserve
    → IsNewReplica (replica_names r) r.preserve r
new_is_new r ts source base workers preserve is = subst (λ (x : Replica). IsNewReplica (replica_names x) x.preserve x) (sym is) refl
