-- One life of a program after another.
use mathlib.Core.List.{IsPrefix}
use base.Growing.{prefix_refl, prefix_trans}
use Rattle.std.proofs.Common.{◌≡◌, ◌∙◌, sym, ap, subst, refl, ℕ, ◌+◌, ◌≤◌, length, List, [], ◌∷◌, ◌++◌, take, drop, Some, inl, inr, arith}
use Rattle.std.specs.Prelude.{slice_get}
use Rattle.std.specs.List.{AllByRecursion}
use Rattle.std.proofs.lemmas.List.{append-nil, length-append, length-take, length-take-le, take-append-drop, take-append-le, take-take, take_all}
use Rattle.record_codec.specs.declared.records.Record.{Record}
use Rattle.record_codec.specs.Group.{GroupValue}
use Rattle.record_codec.specs.Log.{after}
use Rattle.record_codec.proofs.OneSpelling.{one_list_of_group}
use Rattle.store_trait.specs.Operation.{loaded}
use Rattle.source_core.specs.Source.{Source}
use Rattle.log_file.specs.Head.{Head, new_head}
use Rattle.log_file.specs.Log.{Log}
use Rattle.log_file.specs.Calls.{appended}
use Rattle.log_file.specs.Laws.{AreWithin}
use Rattle.log_file.proofs.Unsynced.{first_of}
use Rattle.log_set.specs.Crash.{ReadOrLeft, SetStandsFor, SetFindsBetween}
use Rattle.log_set.proofs.Opened.{set_stands_between}
use Rattle.durable_source.specs.Durable.{Durable, HasLog}
use Rattle.durable_source.specs.Crash.{FindsLog}
use Rattle.durable_source.specs.Laws.{FoundNow, FoundInSync, FoundInRotate, MayBeFollowed, MayFollow, OpenAfterNow, OpenAfterSync, OpenAfterRotate, OpenAfterOpen}
use Rattle.durable_source.specs.Laws.{IsLater, FlushIsLater, SyncIsLater, RestIsLater, GoneOnIsLater, AreLives, ToldStays, OneBase, SeenStays}
use Rattle.durable_source.proofs.Logged.{oldest_in}

-- ---- what stands for the log finds it

-- the synced records begin the source's log, also with those of the oldest group behind them
within : {D : Type 0} (s : Durable D) (log : Log) → HasLog s → log.records ≡ s.set.log.records → ((group : GroupValue) → log.waiting ≡ Some group → slice_get s.unsynced 0 ≡ Some group) →
    AreWithin log s.source.log
within s log h same staged =
    let synced = take s.source.synced s.source.log in
    let are : log.records ≡ synced = same ∙ h.flushed.records in
    record {
      synced = (drop s.source.synced s.source.log, ap (λ (l : List Record). l ++ drop s.source.synced s.source.log) are ∙ take-append-drop s.source.synced s.source.log);
      waiting = λ records more.
          let o = oldest_in s more.group (drop 1 s.unsynced) h (first_of s.unsynced more.group (staged more.group more.waits)) in
          let its = one_list_of_group more.group more.its (drop s.source.synced (take more.group.last s.source.log)) more.are o.are in
          let all : records ≡ take more.group.last s.source.log = more.all ∙ (λ i. are i ++ its i) ∙ sym o.front in
          let rest = drop more.group.last s.source.log in
          (rest, ap (λ (l : List Record). l ++ rest) all ∙ take-append-drop more.group.last s.source.log);
    }

-- they are all of the synced ones
all_synced : {D : Type 0} (s : Durable D) (log : Log) → HasLog s → log.records ≡ s.set.log.records → IsPrefix (take s.source.synced s.source.log) log.records
all_synced s log h same = ([], append-nil (take s.source.synced s.source.log) ∙ sym (same ∙ h.flushed.records))

stands_find : {D : Type 0} (s : Durable D) → HasLog s → (contents : List (List ℕ)) → SetStandsFor s.set.log contents → FindsLog s contents
stands_find s h contents stands =
    set_stands_between s.set.log (take s.source.synced s.source.log) s.source.log contents stands (all_synced s s.set.log h refl) (within s s.set.log h refl h.flushed.prepared)

put_finds : {D : Type 0} (s : Durable D) (group : GroupValue) → HasLog s → slice_get s.unsynced 0 ≡ Some group → (contents : List (List ℕ)) → SetStandsFor (appended group s.set.log) contents →
    FindsLog s contents
put_finds s group h first contents stands =
    let log = appended group s.set.log in
    set_stands_between log (take s.source.synced s.source.log) s.source.log contents stands (all_synced s log h refl) (within s log h refl (λ one waits. first ∙ waits))

-- the head is that of a new log of this identifier
head_is : {D : Type 0} (s : Durable D) → HasLog s → s.set.log.head ≡ new_head s.set.log.head.source
head_is s h = λ i. record { form = h.form i; source = s.set.log.head.source; first = h.flushed.first i }

module _ {D : Type 0} (seen : D → List ℕ) (may_leave : D → List ℕ → Type 0) where
  pub found_now : FoundNow seen may_leave
  found_now s contents h kept left =
      subst (λ (l : List (List ℕ)). FindsLog s l) (sym left.are) (stands_find s h (left.fronts ++ left.content ∷ left.others) (kept left.fronts left.content left.others left.past left.last))

  -- what the files may hold is found, so the next life may follow
  follows : (s : Durable D) (limit : ℕ) (news : List D) → MayBeFollowed limit s → ((contents : List (List ℕ)) → ReadOrLeft seen may_leave news contents → FindsLog s contents) →
      MayFollow seen may_leave limit s news
  follows s limit news may finds = record {
    found = λ contents read. subst (λ (b : Head). SetFindsBetween b (take s.source.synced s.source.log) s.source.log contents) (head_is s may.logged) (finds contents read);
    legal = may.sound.legal;
    shaped = may.sound.shaped;
    few = may.few;
    fits = may.fits;
  }

  pub open_after_now : OpenAfterNow seen may_leave
  open_after_now s news limit may kept reopens = follows s limit news may (λ contents read. found_now s contents may.logged kept (reopens contents read))

module _ {D : Type 0} (seen : D → List ℕ) (may_leave : D → List ℕ → Type 0) (moment : D → ℕ) (left_since : D → ℕ → List ℕ → Type 0) where
  pub found_in_sync : FoundInSync seen may_leave moment left_since
  found_in_sync s group now contents h first moves left =
      subst (λ (l : List (List ℕ)). FindsLog s l) (sym left.are)
      (put_finds s group h first (left.fronts ++ left.content ∷ left.others) ((moves.leaves left.fronts left.others left.past).each left.content left.last))

  pub found_in_rotate : FoundInRotate seen may_leave moment left_since
  found_in_rotate s given done made contents h rotates left =
      subst (λ (l : List (List ℕ)). FindsLog s l) (sym left.are)
      (stands_find s h (left.fronts ++ left.content ∷ left.next ∷ left.others)
      (elim left.two [
        | inl two ↦ rotates.first left.fronts left.content left.next left.others left.past two.0 two.1
        | inr two ↦ rotates.then left.fronts left.content left.next left.others left.past two.0 two.1
      ]))

  pub open_after_sync : OpenAfterSync seen may_leave moment left_since
  open_after_sync s group now news limit may first moves reopens =
      follows seen may_leave s limit news may (λ contents read. found_in_sync s group now contents may.logged first moves (reopens contents read))

  pub open_after_rotate : OpenAfterRotate seen may_leave moment left_since
  open_after_rotate s given done made news limit may rotates reopens =
      follows seen may_leave s limit news may (λ contents read. found_in_rotate s given done made contents may.logged rotates (reopens contents read))

  pub open_after_open : OpenAfterOpen seen may_leave moment left_since
  open_after_open ts rows limit identifier least most olds backs news may finds reopens = record {
    found = λ contents read. finds contents (reopens contents read);
    legal = may.legal;
    shaped = may.shaped;
    few = may.few;
    fits = may.fits;
  }

-- ---- lives

same_later : (old new : Source) → take new.synced new.log ≡ take old.synced old.log → new.tables ≡ old.tables → new.base ≡ old.base → IsLater old new
same_later old new same tables base = record {
  synced_stay = ([], append-nil (take old.synced old.log) ∙ sym same);
  tables = tables;
  base = ap loaded base;
}

pub flush_is_later : FlushIsLater
flush_is_later old new before now told sound w =
    let f = w.flushes in
    let same : take new.synced new.log ≡ take old.synced old.log =
    (λ i. take (f.leaves i).synced (f.leaves i).log) ∙ take-append-le old.synced old.log f.records sound.synced_within in
    same_later old new same (ap (λ (s : Source). s.tables) f.leaves) (ap (λ (s : Source). s.base) f.leaves)

pub sync_is_later : (D : Type 0) → SyncIsLater D
sync_is_later D old new told h s =
    let o = oldest_in old s.group new.unsynced h s.waits in
    let front : take new.source.synced new.source.log ≡ take old.source.synced old.source.log ++ drop old.source.synced (take s.group.last old.source.log) =
    (λ i. take (s.source i).synced (s.source i).log) ∙ o.front in
    record {
      synced_stay = (drop old.source.synced (take s.group.last old.source.log), sym front);
      tables = ap (λ (x : Source). x.tables) s.source;
      base = ap (λ (x : Source). loaded x.base) s.source;
    }

pub rest_is_later : RestIsLater
rest_is_later old new log synced tables base = same_later old new (λ i. take (synced i) (log i)) tables base

pub gone_on_is_later : (D : Type 0) → GoneOnIsLater D
gone_on_is_later D old made gone synced tables base = record {
  synced_stay = (gone.all.0, gone.all.1 ∙ sym (take_all made.source.synced made.source.log (omega (arith, synced))));
  tables = tables;
  base = base;
}

later_again : (a b c : Source) → IsLater a b → IsLater b c → IsLater a c
later_again a b c p q = record {
  synced_stay = prefix_trans (take a.synced a.log) (take b.synced b.log) (take c.synced c.log) p.synced_stay q.synced_stay;
  tables = q.tables ∙ p.tables;
  base = q.base ∙ p.base;
}

-- each is later than the first
all_later : (s t : Source) (later : List Source) → IsLater s t → AreLives t later → AllByRecursion (λ x. IsLater s x) later
all_later s t [] is are = tt
all_later s t (next ∷ later) is are = (later_again s t next is are.0, all_later s next later (later_again s t next is are.0) are.1)

each_so : {P Q : Source → Type 0} → ((x : Source) → P x → Q x) → (later : List Source) → AllByRecursion P later → AllByRecursion Q later
each_so f [] all = tt
each_so f (x ∷ later) all = (f x all.0, each_so f later all.1)

later_than : (s : Source) → IsLater s s
later_than s = record { synced_stay = prefix_refl (take s.synced s.log); tables = refl; base = refl }

pub told_stays : ToldStays
told_stays s later are = each_so (λ x is. is.synced_stay) later (all_later s s later (later_than s) are)

pub one_base : OneBase
one_base s later are =
    each_so (λ x is. λ i. after (is.tables i) (is.base i) (take x.committed x.log)) later (all_later s s later (later_than s) are)

-- the first of a beginning that is synced in both are the same
front_stays : (s t : Source) (upto : ℕ) → IsLater s t → upto ≤ s.synced → s.synced ≤ length s.log → take upto t.log ≡ take upto s.log
front_stays s t upto is low within =
    let rest = is.synced_stay.0 in
    let whole : length (take t.synced t.log) ≡ length (take s.synced s.log) + length rest = ap length (sym is.synced_stay.1) ∙ length-append (take s.synced s.log) rest in
    let long = length-take-le s.synced s.log within in
    let few : length (take t.synced t.log) ≤ t.synced = subst (λ n. n ≤ t.synced) (sym (length-take t.synced t.log)) (omega arith) in
    sym (take-take upto t.synced t.log (omega (arith, low, whole, long, few))) ∙ ap (take upto) (sym is.synced_stay.1)
    ∙ take-append-le upto (take s.synced s.log) rest (omega (arith, low, long)) ∙ take-take upto s.synced s.log low

pub seen_stays : SeenStays
seen_stays s later upto are low within =
    each_so (λ x is. λ i. after (is.tables i) (is.base i) (front_stays s x upto is low within i)) later (all_later s s later (later_than s) are)
