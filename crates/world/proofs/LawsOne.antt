-- What a run began with and its events fix its replies.
use Rattle.std.proofs.Common.{◌≡◌, ◌∙◌, sym, ap, subst, refl, ℕ, zero, suc, ◌+◌, ◌-◌, ◌<◌, ◌≤◌, Bool, true, false, ◌&&◌, nat_le, List, [], ◌∷◌, ◌++◌, length, map, take, drop, Option, slice_get}
use Rattle.std.proofs.Common.{inl, inr, if◌then◌else◌, arith}
use Rattle.std.specs.Prelude.{ℤ, Ok, option_and_then, nat_lt}
use Rattle.std.specs.List.{AllByRecursion, list_any, flat_map}
use Rattle.std.specs.Option.{option_map_or}
use Rattle.std.specs.FinMap.{get}
use Rattle.std.proofs.lemmas.Bool.{false≢true, and_parts, or_parts, leb-true, ltb-true}
use Rattle.std.proofs.lemmas.List.{length-map, length-take-le, take-append-drop, take-take}
use Rattle.std.proofs.Math.Seq.{take-add}
use Rattle.schema.proofs.Lists.{AllByRecursion-push, AllByRecursion-weaker}
use Rattle.schema.specs.declared.RowId.{RowId}
use Rattle.gtid_set.specs.Ids.{Ids}
use Rattle.gtid_set.proofs.OneForm.{one_set}
use Rattle.rows.specs.Database.{Database}
use Rattle.store_trait.specs.Operation.{loaded}
use Rattle.record_codec.specs.declared.records.Record.{Record}
use Rattle.record_codec.specs.Group.{AreNumbered}
use Rattle.record_codec.specs.Log.{after}
use Rattle.record_codec.proofs.Logs.{part_is_numbered}
use Rattle.scheduler.specs.Gnos.{has_gno, low_of}
use Rattle.scheduler.proofs.Gnos.{has_gno_front, has_gno-take}
use Rattle.gapped.specs.Gapped.{chosen, gapped}
use Rattle.gapped.proofs.Choosing.{longer_log}
use Rattle.record_codec.specs.Version.{current}
use Rattle.record_codec.specs.Spelling.{spelling}
use Rattle.source_core.specs.declared.fault.SourceFault.TheVariants as source
use Rattle.source_core.specs.Source.{Source, seen_row}
use Rattle.source_core.specs.Calls.{begin_fault, write_fault, read_fault, prepare_fault, prepare_answer, queue_fault, abort_fault, halted_fault, AreNextRecords, seen_log}
use Rattle.log_set.specs.Set.{texts_of}
use Rattle.replica_core.proofs.Apart.{slice_get-take}
use Rattle.world.specs.declared.events.Event.{Event}
use Rattle.world.specs.declared.events.Event.TheVariants as events
use Rattle.world.specs.declared.events.Reply.{Reply}
use Rattle.world.specs.declared.events.Reply.TheVariants as replies
use Rattle.world.specs.Replies.{prepared_reply}
use Rattle.world.specs.Pair.{Pair, new_pair, next, pair_after, busy, replica_committed, low_water, published_gnos, is_failure}
use Rattle.world.specs.Legal.{Setup, rows_after, source_at, refused_or, stamp_of, next_records, FlushAnswers, SyncAnswers, RotateAnswers, is_full}
use Rattle.world.specs.Legal.{commit_reply, group_between, log_text, is_due, may_dispatch, ExecutedAnswers}
use Rattle.world.specs.Legal.{read_reply, Answers, asks_memory, tells_memory, Allowed, AreAllowed, AreLegal}
use Rattle.world.specs.Laws.{is_memory, FailAlike, OneAnswer, OneLog}
use Rattle.world.proofs.LawsReplies.{Says, says, telling_says}
use Rattle.world.proofs.LawsSteps.{Follow-le, oldest_of, Holds, at_first, step, in_order}
use Rattle.world.proofs.LawsRecords.{MayStand, one_group}

-- ---- lists that begin alike

take_fewer : (n f : ℕ) (xs ys : List Record) → n ≤ f → take f xs ≡ take f ys → take n xs ≡ take n ys
take_fewer n f xs ys le same = sym (take-take n f xs le) ∙ ap (take n) same ∙ take-take n f ys le

get_below : (n f : ℕ) (xs ys : List Record) → n < f → take f xs ≡ take f ys → slice_get xs n ≡ slice_get ys n
get_below n f xs ys lt same = sym (slice_get-take xs f n lt) ∙ ap (λ (l : List Record). slice_get l n) same ∙ slice_get-take ys f n lt

take_own : (n : ℕ) (xs : List Record) → take (length (take n xs)) xs ≡ take n xs
take_own zero xs = refl
take_own (suc n) [] = refl
take_own (suc n) (x ∷ xs) = ap (λ l. x ∷ l) (take_own n xs)

-- the next records of a list, as many as there are stamps of them
take_stamped : (f n : ℕ) (xs : List Record) → take (f + length (map stamp_of (take n (drop f xs)))) xs ≡ take f xs ++ take n (drop f xs)
take_stamped f n xs =
    ap (λ k. take (f + k) xs) (length-map (take n (drop f xs)) stamp_of)
    ∙ take-add f (length (take n (drop f xs))) xs
    ∙ ap (λ l. take f xs ++ l) (take_own n (drop f xs))

in_three : (f n : ℕ) (xs : List Record) → xs ≡ take f xs ++ (take n (drop f xs) ++ drop n (drop f xs))
in_three f n xs = sym (take-append-drop f xs) ∙ ap (λ l. take f xs ++ l) (sym (take-append-drop n (drop f xs)))

-- ---- two logs in one state

-- they have the same records, as many as are flushed
abbrev pub FlushedAlike : List Record → List Record → Pair → Type 0
FlushedAlike log other pair = take pair.flushed log ≡ take pair.flushed other

-- the groups are of so many records
abbrev AreWithin : ℕ → List (ℕ × ℕ) → Type 0
AreWithin n groups = AllByRecursion (λ (group : ℕ × ℕ). group.1 ≤ n) groups

pub record Agree (setup : Setup) (log other : List Record) (pair : Pair) : Type 0 where
  pub stands : MayStand setup.tables setup.base log
  pub other_stands : MayStand setup.tables setup.base other
  pub holds : Holds setup log pair
  pub same : FlushedAlike log other pair
  pub groups : AreWithin pair.flushed pair.synced_groups

module _ (setup : Setup) (log other : List Record) (pair : Pair) (agree : Agree setup log other pair) where
  same_source : source_at setup log pair ≡ source_at setup other pair
  same_source = ap (λ (l : List Record). record (source_at setup log pair) { log = l }) agree.same

  -- what a source answers
  by_source : (f : Source → Reply) (reply answer : Reply) → reply ≡ f (source_at setup log pair) → answer ≡ f (source_at setup other pair) → reply ≡ answer
  by_source f reply answer a b = a ∙ ap f same_source ∙ sym b

  same_rows : (n : ℕ) → n ≤ pair.flushed → rows_after setup log n ≡ rows_after setup other n
  same_rows n le = ap (after setup.tables (loaded setup.base)) (take_fewer n pair.flushed log other le agree.same)

  same_groups : (groups : List (ℕ × ℕ)) → AreWithin pair.flushed groups → map (group_between log) groups ≡ map (group_between other) groups
  same_groups [] all = refl
  same_groups (group ∷ groups) all =
      let same = take_fewer group.1 pair.flushed log other all.0 agree.same in
      (λ i. record { version = current; first = group.0; last = group.1; bytes = flat_map (spelling current) (drop (group.0 - 1) (same i)) } ∷ same_groups groups all.1 i)

  same_text : log_text setup log pair ≡ log_text setup other pair
  same_text = ap (texts_of setup.identifier pair.firsts pair.starts) (same_groups pair.synced_groups agree.groups)

  read_below : pair.published ≤ pair.flushed
  read_below =
      let now = in_order setup log pair agree.holds in
      omega (arith, now.published_within, now.replica_committed_within, now.dispatched_within, now.accepted_within, now.synced_within)

  -- what is due, up to whatever mark
  same_due : (mark : ℕ) → is_due setup log pair mark ≡ is_due setup other pair mark
  same_due mark =
      let now = in_order setup log pair agree.holds in
      let next : nat_lt pair.dispatched pair.accepted ≡ true → slice_get log pair.dispatched ≡ slice_get other pair.dispatched =
      λ is. get_below pair.dispatched pair.flushed log other (omega (arith, ltb-true _ _ is, now.accepted_within, now.synced_within)) agree.same in
      when (nat_lt pair.dispatched pair.accepted) (may log) (may other) (nat_lt (pair.dispatched - replica_committed pair) setup.workers) (λ is. ap may_at (next is))
    where
      may_at : Option Record → Bool
      may_at found = option_map_or (λ (r : Record). nat_le r.parent mark) found false

      may : List Record → Bool
      may l = may_at (slice_get l pair.dispatched)

      when : (first here there last : Bool) → (first ≡ true → here ≡ there) → (first && here && last) ≡ (first && there && last)
      when true here there last same = ap (λ b. b && last) (same refl)
      when false here there last same = refl

  same_dispatch : may_dispatch setup log pair ≡ may_dispatch setup other pair
  same_dispatch = (λ i. if setup.preserve then same_due (replica_committed pair) i else same_due (low_water pair) i && nat_le (pair.dispatched + 1) (low_water pair + 4096))

  -- ---- a read

  -- the published commits are of flushed records
  shown_flushed : (gno : ℕ) → has_gno (published_gnos pair) gno ≡ true → gno ≤ pair.flushed
  shown_flushed gno is =
      let now = in_order setup log pair agree.holds in
      let all = has_gno_front pair.commits (pair.out ++ pair.finished) gno (has_gno-take pair.published pair.commits gno is) in
      let within : gno ≤ pair.dispatched = leb-true gno pair.dispatched (and_parts (nat_le 1 gno) (nat_le gno pair.dispatched) (sym (agree.holds.committed.each gno) ∙ all)).1 in
      omega (arith, within, now.dispatched_within, now.accepted_within, now.synced_within)

  -- so they are chosen among these
  chosen_front : (l : List Record) → AreNumbered 1 l → length (take pair.flushed l) ≡ pair.flushed → chosen (published_gnos pair) l ≡ chosen (published_gnos pair) (take pair.flushed l)
  chosen_front l numbered long =
      let f = pair.flushed in
      let parts = sym (take-append-drop f l) in
      ap (chosen (published_gnos pair)) parts ∙ longer_log (take f l) (drop f l) (published_gnos pair) (subst (λ (x : List Record). AreNumbered 1 x) parts numbered)
      (λ gno is. omega (arith, shown_flushed gno is, long))

  same_gapped : gapped setup.tables (loaded setup.base) log (published_gnos pair) ≡ gapped setup.tables (loaded setup.base) other (published_gnos pair)
  same_gapped =
      let f = pair.flushed in
      let long : length (take f log) ≡ f = length-take-le f log (in_order setup log pair agree.holds).flushed_within in
      let here = chosen_front log (part_is_numbered setup.tables (loaded setup.base) [] log agree.stands.legal) long in
      let there = chosen_front other (part_is_numbered setup.tables (loaded setup.base) [] other agree.other_stands.legal) (sym (ap (λ (l : List Record). length l) agree.same) ∙ long) in
      ap (after setup.tables (loaded setup.base)) (here ∙ ap (chosen (published_gnos pair)) agree.same ∙ sym there)

  same_read : (id : RowId) → read_reply setup log pair id ≡ read_reply setup other pair id
  same_read id = (λ i. if setup.preserve then replies.Read pair.published 0 (row_of (same_rows pair.published read_below i))
      else replies.Read (low_of gnos) (pair.published - low_of gnos) (row_of (same_gapped i))) where
        gnos : List ℕ
        gnos = published_gnos pair

        row_of : Option Database → Option (List ℤ)
        row_of rows = option_and_then (λ db. get db id) rows

  -- ---- the ids that are executed

  one_executed : (b : Bool) (reply answer : Reply) → ExecutedAnswers b setup pair reply → ExecutedAnswers b setup pair answer → reply ≡ answer
  one_executed true reply answer a b = a ∙ sym b
  one_executed false reply answer a b =
      let same = one_set a.0 b.0 a.2.is_set b.2.is_set (a.2.source ∙ sym b.2.source) (λ n. a.2.numbers n ∙ sym (b.2.numbers n)) in
      a.1 ∙ ap (λ (ids : Ids). replies.Executed ids) same ∙ sym b.1

  -- ---- a flush

  -- a reply behind which as many records are flushed
  none_more : (reply answer : Reply) → reply ≡ answer → FlushedAlike log other (next pair events.Flush answer) → FlushedAlike log other (next pair events.Flush reply)
  none_more reply answer is same = subst (λ (r : Reply). FlushedAlike log other (next pair events.Flush r)) (sym is) same

  same_group : (sessions : List ℕ) → AreNextRecords (source_at setup log pair) (seen_log (source_at setup log pair)) sessions (next_records log pair) →
      AreNextRecords (source_at setup other pair) (seen_log (source_at setup other pair)) sessions (next_records other pair) → next_records log pair ≡ next_records other pair
  same_group sessions m o =
      let f = pair.flushed in
      let n = length pair.queue in
      let left = subst (λ (l : List Record). MayStand setup.tables setup.base l) (in_three f n log) agree.stands in
      let cut = subst (λ (l : List Record). MayStand setup.tables setup.base l) (in_three f n other) agree.other_stands in
      let right = subst (λ (l : List Record). MayStand setup.tables setup.base (l ++ (next_records other pair ++ drop n (drop f other)))) (sym agree.same) cut in
      let theirs = subst (λ (s : Source). AreNextRecords s (seen_log s) sessions (next_records other pair)) (sym same_source) o in
      one_group (source_at setup log pair) (take f log) (seen_log (source_at setup log pair)) sessions
      (next_records log pair) (next_records other pair) (drop n (drop f log)) (drop n (drop f other)) left right m theirs

  one_flush : (halts : Bool) (sessions : List ℕ) (reply answer : Reply) → FlushAnswers setup log pair halts sessions reply → FlushAnswers setup other pair halts sessions answer →
      (reply ≡ answer) × FlushedAlike log other (next pair events.Flush reply)
  one_flush true sessions reply answer a b = (a ∙ sym b, none_more reply (replies.Source source.Halted) a agree.same)
  one_flush false [] reply answer a b = (a ∙ sym b, none_more reply replies.Nothing a agree.same)
  one_flush false (first ∷ rest) reply answer a b =
      let f = pair.flushed in
      let n = length pair.queue in
      let same = same_group (first ∷ rest) a.1 b.1 in
      let grown : take (f + length (map stamp_of (next_records log pair))) log ≡ take (f + length (map stamp_of (next_records log pair))) other =
      take_stamped f n log
      ∙ (λ i. agree.same i ++ same i)
      ∙ sym (take_stamped f n other)
      ∙ ap (λ (l : List Record). take (f + length (map stamp_of l)) other) (sym same) in
      (a.0 ∙ ap (λ (l : List Record). replies.Flushed (f + 1) (map stamp_of l)) same ∙ sym b.0, none_more reply (replies.Flushed (f + 1) (map stamp_of (next_records log pair))) a.0 grown)

  -- ---- each event

  one_sync : (halts : Bool) (groups : List (ℕ × ℕ)) (reply answer : Reply) → SyncAnswers halts groups reply → SyncAnswers halts groups answer → is_failure reply ≡ is_failure answer → reply ≡ answer
  one_sync true groups reply answer a b alike = a ∙ sym b
  one_sync false [] reply answer a b alike = a ∙ sym b
  one_sync false (group ∷ groups) reply answer (inl a) (inl b) alike = a ∙ sym b
  one_sync false (group ∷ groups) reply answer (inr a) (inr b) alike = a ∙ sym b
  one_sync false (group ∷ groups) reply answer (inl a) (inr b) alike = absurd (false≢true (sym (ap is_failure a) ∙ alike ∙ ap is_failure b))
  one_sync false (group ∷ groups) reply answer (inr a) (inl b) alike = absurd (false≢true (sym (ap is_failure b) ∙ sym alike ∙ ap is_failure a))

  one_rotation : (halts busies full : Bool) (files : ℕ) (reply answer : Reply) → RotateAnswers halts busies full files reply → RotateAnswers halts busies full files answer →
      is_failure reply ≡ is_failure answer → reply ≡ answer
  one_rotation true busies full files reply answer a b alike = a ∙ sym b
  one_rotation false true full files reply answer a b alike = a ∙ sym b
  one_rotation false false true files reply answer a b alike = a ∙ sym b
  one_rotation false false false files reply answer (inl a) (inl b) alike = a ∙ sym b
  one_rotation false false false files reply answer (inr a) (inr b) alike = a ∙ sym b
  one_rotation false false false files reply answer (inl a) (inr b) alike = absurd (false≢true (sym (ap is_failure a) ∙ alike ∙ ap is_failure b))
  one_rotation false false false files reply answer (inr a) (inl b) alike = absurd (false≢true (sym (ap is_failure b) ∙ sym alike ∙ ap is_failure a))

  one_answer : (event : Event) (reply answer : Reply) → Answers setup log pair event reply → Answers setup other pair event answer → is_failure reply ≡ is_failure answer → reply ≡ answer
  one_answer (events.Begin session) reply answer a b alike = by_source (λ s. refused_or (begin_fault s session) replies.Done) reply answer a b
  one_answer (events.Write session change) reply answer a b alike = by_source (λ s. refused_or (write_fault s session change) replies.Done) reply answer a b
  one_answer (events.See session id) reply answer a b alike = by_source (λ s. refused_or (read_fault s session id) (replies.Seen (seen_row s session id))) reply answer a b
  one_answer (events.Prepare session) reply answer a b alike = by_source (λ s. refused_or (prepare_fault s session) (prepared_reply (Ok (prepare_answer s session)))) reply answer a b
  one_answer (events.Queue session) reply answer a b alike = by_source (λ s. refused_or (queue_fault s session) replies.Done) reply answer a b
  one_answer (events.Abort session) reply answer a b alike = by_source (λ s. refused_or (abort_fault s session) replies.Done) reply answer a b
  one_answer events.Flush reply answer a b alike = (one_flush pair.halted pair.queue reply answer a b).0
  one_answer events.Sync reply answer a b alike = one_sync pair.halted pair.unsynced reply answer a b alike
  one_answer events.Commit reply answer a b alike = by_source (λ s. refused_or (halted_fault s) (commit_reply pair)) reply answer a b
  one_answer (events.Deliver gno) reply answer a b alike = a ∙ sym b
  one_answer events.Dispatch reply answer a b alike = a ∙ ap (λ (may : Bool). if may then replies.Job (pair.dispatched + 1) else replies.Nothing) same_dispatch ∙ sym b
  one_answer (events.Finish gno) reply answer a b alike = a ∙ sym b
  one_answer events.Next reply answer a b alike = a ∙ sym b
  one_answer events.Publish reply answer a b alike = a ∙ sym b
  one_answer events.Executed reply answer a b alike = one_executed setup.preserve reply answer a b
  one_answer (events.Read id) reply answer a b alike = a ∙ same_read id ∙ sym b
  one_answer events.Rotate reply answer a b alike = one_rotation pair.halted (busy pair) (is_full pair) (length pair.firsts) reply answer a b alike
  one_answer events.Log reply answer a b alike = a ∙ ap (λ (files : List (List ℕ)). replies.Text files) same_text ∙ sym b

  -- ---- one more event

  still_alike : (event : Event) (reply answer : Reply) → Says setup log pair event reply → Answers setup log pair event reply → Answers setup other pair event answer →
      FlushedAlike log other (next pair event reply)
  still_alike event (replies.Flushed first stamps) answer s a b =
      let here : Answers setup log pair events.Flush (replies.Flushed first stamps) = subst (λ (e : Event). Answers setup log pair e (replies.Flushed first stamps)) s.2 a in
      let there : Answers setup other pair events.Flush answer = subst (λ (e : Event). Answers setup other pair e answer) s.2 b in
      (one_flush pair.halted pair.queue (replies.Flushed first stamps) answer here there).1
  still_alike event reply answer s a b = agree.same

  more_within : (n m : ℕ) (groups : List (ℕ × ℕ)) → n ≤ m → AreWithin n groups → AreWithin m groups
  more_within n m groups le all = AllByRecursion-weaker (λ (group : ℕ × ℕ). group.1 ≤ n) (λ (group : ℕ × ℕ). group.1 ≤ m) (λ group within. omega (arith, within, le)) groups all

  still_within : (event : Event) (reply : Reply) → Says setup log pair event reply → AreWithin (next pair event reply).flushed (next pair event reply).synced_groups
  still_within event (replies.Flushed first stamps) s = more_within pair.flushed (pair.flushed + length stamps) pair.synced_groups (omega arith) agree.groups
  still_within event (replies.Synced first last) s =
      AllByRecursion-push (λ (group : ℕ × ℕ). group.1 ≤ pair.flushed) pair.synced_groups (first, last) agree.groups
      (Follow-le last s.0 pair.flushed (oldest_of pair first last s agree.holds.source.follow).2)
  still_within event reply s = agree.groups

  agree_on : (event : Event) (reply answer : Reply) → Allowed setup log pair event reply → Answers setup log pair event reply → Answers setup other pair event answer →
      Agree setup log other (next pair event reply)
  agree_on event reply answer allowed a b =
      let s = says setup log pair event reply allowed in
      record {
        stands = agree.stands;
        other_stands = agree.other_stands;
        holds = step setup log agree.stands.legal pair event reply s agree.holds;
        same = still_alike event reply answer s a b;
        groups = still_within event reply s;
      }

-- ---- enough memory

-- an allowed reply that does not say that memory ran out
answers : (setup : Setup) (log : List Record) (pair : Pair) (event : Event) (reply : Reply) → Allowed setup log pair event reply → is_memory reply ≡ false → Answers setup log pair event reply
answers setup log pair event reply allowed enough =
    elim allowed [
      | inl lacks ↦ absurd (false≢true (sym enough ∙ telling_says event reply (and_parts (asks_memory setup log pair event) (tells_memory event reply) lacks).1))
      | inr is ↦ is
    ]

-- ---- whole runs

heads : (a b : Bool) (xs ys : List Bool) → a ∷ xs ≡ b ∷ ys → (a ≡ b) × (xs ≡ ys)
heads a b xs ys e = (cc, cc)

from : (setup : Setup) (log other : List Record) (pair : Pair) → Agree setup log other pair → (es : List Event) (rs os : List Reply) → AreAllowed setup log pair es rs →
    AreAllowed setup other pair es os →
    FailAlike rs os → (rs ≡ os) × FlushedAlike log other (pair_after pair es rs)
from setup log other pair agree [] [] [] left right alike = (refl, agree.same)
from setup log other pair agree [] [] (o ∷ os) left right alike = absurd right
from setup log other pair agree [] (r ∷ rs) os left right alike = absurd left
from setup log other pair agree (e ∷ es) [] os left right alike = absurd left
from setup log other pair agree (e ∷ es) (r ∷ rs) [] left right alike = absurd right
from setup log other pair agree (e ∷ es) (r ∷ rs) (o ∷ os) left right alike =
    let here = or_parts (is_memory r) (list_any is_memory rs) alike.enough in
    let there = or_parts (is_memory o) (list_any is_memory os) alike.enough_there in
    let fail = heads (is_failure r) (is_failure o) (map is_failure rs) (map is_failure os) alike.failures in
    let a = answers setup log pair e r left.0 here.0 in
    let b = answers setup other pair e o right.0 there.0 in
    let same = one_answer setup log other pair agree e r o a b fail.0 in
    let more_agree = agree_on setup log other pair agree e r o left.0 a b in
    let behind = subst (λ (x : Reply). AreAllowed setup other (next pair e x) es os) (sym same) right.1 in
    let more = from setup log other (next pair e r) more_agree es rs os left.1 behind (record { enough = here.1; enough_there = there.1; failures = fail.1 }) in
    ((λ i. same i ∷ more.0 i), more.1)

at_start : (setup : Setup) (log other : List Record) (es : List Event) (rs os : List Reply) → AreLegal setup log es rs → AreLegal setup other es os → Agree setup log other new_pair
at_start setup log other es rs os left right = record {
  stands = record { legal = left.legal; spelled = left.spelled };
  other_stands = record { legal = right.legal; spelled = right.spelled };
  holds = at_first setup log;
  same = refl;
  groups = tt;
}

pub only_answer : OneAnswer
only_answer setup log es rs left other os right alike =
    sym (from setup log other new_pair (at_start setup log other es rs os left right) es rs os left.allowed right.allowed alike).0

pub only_log : OneLog
only_log setup log other es rs os left right alike =
    sym (from setup log other new_pair (at_start setup log other es rs os left right) es rs os left.allowed right.allowed alike).1
