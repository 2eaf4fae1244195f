-- What all records of a log left and what the chosen ones left, side by side: which rows are the same in both.
use Rattle.std.proofs.Common.{◌≡◌, ◌∙◌, sym, ap, subst, refl, true, false, true≢false, inl, inr, append_assoc, Bool, ℕ, ℤ, List, [], ◌∷◌, ◌++◌, Option, Some, is_some}
use Rattle.std.specs.Prelude.{option_and_then, option_to_list}
use Rattle.std.specs.List.{AllByRecursion}
use Rattle.std.specs.FinMap.{get}
use Rattle.std.proofs.lemmas.Bool.{cases_Bool, false_from_ne_true}
use Rattle.std.proofs.lemmas.List.{same_from_push}
use Rattle.schema.specs.declared.Table.{Table}
use Rattle.schema.specs.declared.RowId.{RowId}
use Rattle.schema.specs.Rows.{Mark, has_row, conflicts}
use Rattle.schema.proofs.Conflicts.{both_ways}
use Rattle.rows.specs.declared.Change.{Change}
use Rattle.rows.specs.Database.{Database, writes, effect, parent_of, parent_in, mark_of, mark_in, ChildrenHaveParents, NoValueTwice}
use Rattle.rows.specs.Frame.{SameEffect}
use Rattle.rows.proofs.Apply.{has_row-right, parent_alike}
use Rattle.rows.proofs.Effect.{changes_only_writes, changes_only_marks, values_stay_apart}
use Rattle.rows.proofs.Frame.{same_kin, same_marks}
use Rattle.rows.proofs.Holders.{holders_are_same}
use Rattle.rows.proofs.Parents.{left_parent_is_kin}
use Rattle.record_codec.specs.declared.records.Record.{Record}
use Rattle.record_codec.specs.Log.{touched}
use Rattle.record_codec.proofs.Logs.{split_last, no_next}
use Rattle.executor.specs.Job.{rows_of}
use Rattle.executor.specs.Laws.{IsGood, LooksAlike}
use Rattle.executor.proofs.Elsewhere.{good_does_the_same, good_elsewhere}
use Rattle.scheduler.specs.Gnos.{has_gno}
use Rattle.gapped.specs.Gapped.{AreChosen}
use Rattle.gapped.proofs.Children.{named_there, parent_is_there, changes_only_kin}
use Rattle.gapped.proofs.Meeting.{conflict_by_row, conflict_by_ref, conflict_by_mark, alike_behind}

-- ---- records that are chosen

-- each of the records that passes a test is chosen
abbrev pub AllChosen : List ℕ → (Record → Bool) → List Record → Type 0
AllChosen gnos test log = AllByRecursion (λ (r : Record). test r ≡ true → has_gno gnos r.gno ≡ true) log

-- whether a record writes this row, refers to it, states this mark, or conflicts with this record
abbrev pub writing : RowId → Record → Bool
writing q r = has_row (writes r.changes) q

abbrev pub referring : RowId → Record → Bool
referring p r = has_row r.refs p

abbrev pub stating : Mark → Record → Bool
stating mark r = has_row r.marks mark

abbrev pub conflicting : Record → Record → Bool
conflicting rec r = conflicts (touched r) (touched rec)

-- a test that no more records pass
fewer_pass : (gnos : List ℕ) (test fewer : Record → Bool) (log : List Record) →
    ((r : Record) → fewer r ≡ true → test r ≡ true) → AllChosen gnos test log → AllChosen gnos fewer log
fewer_pass gnos test fewer [] within all = tt
fewer_pass gnos test fewer (r ∷ log) within all = (λ is. all.0 (within r is), fewer_pass gnos test fewer log within all.1)

-- a beginning of the records
all_front : (gnos : List ℕ) (test : Record → Bool) (front rest : List Record) →
    AllChosen gnos test (front ++ rest) → AllChosen gnos test front
all_front gnos test [] rest all = tt
all_front gnos test (r ∷ front) rest all = (all.0, all_front gnos test front rest all.1)

-- one of them
all_at : (gnos : List ℕ) (test : Record → Bool) (front rest : List Record) (r : Record) →
    AllChosen gnos test (front ++ r ∷ rest) → test r ≡ true → has_gno gnos r.gno ≡ true
all_at gnos test [] rest r all = all.0
all_at gnos test (x ∷ front) rest r all = all_at gnos test front rest r all.1

-- so one that is not chosen fails the test
fails_at : (gnos : List ℕ) (test : Record → Bool) (front rest : List Record) (r : Record) →
    AllChosen gnos test (front ++ r ∷ rest) → has_gno gnos r.gno ≡ false → test r ≡ false
fails_at gnos test front rest r all new =
    false_from_ne_true (test r) (λ is. true≢false (sym (all_at gnos test front rest r all is) ∙ new))

-- ---- side by side

-- each of the records that waits is good over these rows
abbrev pub WaitingAreGood : List Table → List ℕ → List Record → Database → Type 0
WaitingAreGood ts gnos log db =
    (front : List Record) (rec : Record) (rest : List Record) →
    log ≡ front ++ rec ∷ rest → has_gno gnos rec.gno ≡ false → AreChosen gnos front rec → IsGood ts rec db

-- What all of the records left, and what the chosen ones left. A row is the same in both where all that write it are chosen; the
-- same rows name a parent where all that refer to it are; and the same rows have a mark where all that state it are.
pub record AreAlongside (ts : List Table) (gnos : List ℕ) (log : List Record) (whole left : Database) : Type 0 where
  pub rows : (q : RowId) → AllChosen gnos (writing q) log → get whole q ≡ get left q
  pub children : (p : RowId) → AllChosen gnos (referring p) log →
      (c : RowId) → has_row (parent_in ts whole c) p ≡ has_row (parent_in ts left c) p
  pub holders : (mark : Mark) → AllChosen gnos (stating mark) log →
      (q : RowId) → has_row (mark_in ts whole q) mark ≡ has_row (mark_in ts left q) mark
  pub whole_apart : NoValueTwice ts whole
  pub left_apart : NoValueTwice ts left
  pub waiting : WaitingAreGood ts gnos log left

-- before the first record they are one
pub alongside_base : (ts : List Table) (gnos : List ℕ) (base : Database) → NoValueTwice ts base → AreAlongside ts gnos [] base base
alongside_base ts gnos base apart = record {
  rows = λ q all. refl;
  children = λ p all c. refl;
  holders = λ mark all q. refl;
  whole_apart = apart;
  left_apart = apart;
  waiting = λ front rec rest e. absurd (no_next front rest rec e);
}

-- where those before a record that conflict with it are chosen, both look alike to it
both_look_alike : (ts : List Table) (gnos : List ℕ) (log : List Record) (whole left : Database) (rec : Record) →
    AreAlongside ts gnos log whole left → AreChosen gnos log rec → LooksAlike ts rec whole left
both_look_alike ts gnos log whole left rec along before = record {
  rows = λ q is. along.rows q (fewer_pass gnos (conflicting rec) (writing q) log (λ r. conflict_by_row r rec q is) before);
  holders = (holders_are_same ts rec.marks whole left along.whole_apart along.left_apart).0
      (λ mark has. along.holders mark (fewer_pass gnos (conflicting rec) (stating mark) log (λ r. conflict_by_mark r rec mark has) before));
}

-- one record more, which waits or does not
waiting_push : (ts : List Table) (gnos : List ℕ) (log : List Record) (next : Record) (db : Database) → WaitingAreGood ts gnos log db →
    (has_gno gnos next.gno ≡ false → AreChosen gnos log next → IsGood ts next db) → WaitingAreGood ts gnos (log ++ next ∷ []) db
waiting_push ts gnos log next db others its = λ front rec rest e new before.
    elim (split_last rest) [
      | inl none ↦
          let same = same_from_push log front next rec (e ∙ ap (λ l. front ++ rec ∷ l) none) in
          let before_next : AreChosen gnos log next =
          subst (λ (r : Record). AreChosen gnos log r) (sym same.1)
          (subst (λ (l : List Record). AreChosen gnos l rec) (sym same.0) before) in
          subst (λ (r : Record). IsGood ts r db) same.1 (its (ap (λ (r : Record). has_gno gnos r.gno) same.1 ∙ new) before_next)
      | inr w ↦
          let same = same_from_push log (front ++ rec ∷ w.0) next w.1
          (e ∙ ap (λ l. front ++ rec ∷ l) w.2 ∙ sym (append_assoc front (rec ∷ w.0) (w.1 ∷ []))) in
          others front rec w.0 same.0 new before
    ]

-- ---- behind a record that is not chosen

pub alongside_passed : (ts : List Table) (gnos : List ℕ) (log : List Record) (whole left : Database) (next : Record) →
    AreAlongside ts gnos log whole left → (good : IsGood ts next whole) → has_gno gnos next.gno ≡ false →
    AreAlongside ts gnos (log ++ next ∷ []) good.leaves left
alongside_passed ts gnos log whole left next along good new =
    let fails : (test : Record → Bool) → AllChosen gnos test (log ++ next ∷ []) → test next ≡ false =
    λ test all. fails_at gnos test log [] next all new in
    record {
      rows = λ q all.
          changes_only_writes ts next.changes whole good.leaves q good.applies (fails (writing q) all)
          ∙ along.rows q (all_front gnos (writing q) log (next ∷ []) all);
      children = λ p all c.
          changes_only_kin ts next.changes whole good.leaves p c good.applies (sym (good.refs p) ∙ fails (referring p) all)
          ∙ along.children p (all_front gnos (referring p) log (next ∷ []) all) c;
      holders = λ mark all q.
          changes_only_marks ts next.changes whole good.leaves mark q good.applies (sym (good.marks mark) ∙ fails (stating mark) all)
          ∙ along.holders mark (all_front gnos (stating mark) log (next ∷ []) all) q;
      whole_apart = values_stay_apart ts next.changes whole good.leaves along.whole_apart good.applies;
      left_apart = along.left_apart;
      waiting = waiting_push ts gnos log next left along.waiting
          (λ _ before.
          good_elsewhere ts next whole left along.whole_apart along.left_apart good
          (both_look_alike ts gnos log whole left next along before));
    }

-- ---- behind a record that is chosen

-- what was the same of a row in both is the same behind changes that do the same to both
same_behind : {X : Type 0} (of_row : Option (List ℤ) → X) (ts : List Table) (changes : List Change) (before after other : Database)
    (same : SameEffect ts changes before after other) (q : RowId) → effect ts changes before ≡ Some after →
    of_row (get before q) ≡ of_row (get other q) → of_row (get after q) ≡ of_row (get same.leaves q)
same_behind of_row ts changes before after other same q applies e =
    elim (cases_Bool (has_row (writes changes) q)) [
      | inl written ↦ ap of_row (same.same_writes q written)
      | inr stays ↦
          ap of_row (changes_only_writes ts changes before after q applies stays) ∙ e
          ∙ ap of_row (sym (changes_only_writes ts changes other same.leaves q same.defined stays))
    ]

-- a record that is chosen, and does the same to both
record Taken (ts : List Table) (gnos : List ℕ) (log : List Record) (whole left : Database) (next : Record) : Type 0 where
  along : AreAlongside ts gnos log whole left
  before : AreChosen gnos log next
  good : IsGood ts next whole
  kept : ChildrenHaveParents ts good.leaves
  same : SameEffect ts next.changes whole good.leaves left

-- the same rows name a parent behind it
children_taken : (ts : List Table) (gnos : List ℕ) (log : List Record) (whole left : Database) (next : Record)
    (taken : Taken ts gnos log whole left next) (p c : RowId) → AllChosen gnos (referring p) log →
    has_row (parent_in ts taken.good.leaves c) p ≡ has_row (parent_in ts taken.same.leaves c) p
children_taken ts gnos log whole left next taken p c all =
    same_behind (λ o. has_row (option_to_list (option_and_then (parent_of ts c.table) o)) p)
    ts next.changes whole taken.good.leaves left taken.same c taken.good.applies (taken.along.children p all c)

-- A row that it writes has its parent behind it: that is among its kin. So has another row that had it: if the record writes its
-- parent, all that refer to that are chosen, so the row names it in both.
parents_taken : (ts : List Table) (gnos : List ℕ) (log : List Record) (whole left : Database) (next : Record)
    (taken : Taken ts gnos log whole left next) → ChildrenHaveParents ts left → ChildrenHaveParents ts taken.same.leaves
parents_taken ts gnos log whole left next taken had c columns there =
    let good = taken.good in
    let same = taken.same in
    elim (cases_Bool (has_row (writes next.changes) c)) [
      | inl written ↦
          let in_whole : get good.leaves c ≡ Some columns = same.same_writes c written ∙ there in
          parent_alike ts good.leaves same.leaves c.table columns
          (λ p names has.
          let akin = left_parent_is_kin ts next.changes whole good.leaves c columns p good.applies written in_whole names in
          let looks : has_row (rows_of next) p ≡ true = has_row-right (writes next.changes) next.refs p (good.refs p ∙ akin) in
          let alike = (both_look_alike ts gnos log whole left next taken.along taken.before).rows p looks in
          ap is_some (sym (same_behind (λ o. o) ts next.changes whole good.leaves left same p good.applies alike)) ∙ has)
          (taken.kept c columns in_whole)
      | inr stays ↦
          let was : get left c ≡ Some columns =
          sym (changes_only_writes ts next.changes left same.leaves c same.defined stays) ∙ there in
          parent_alike ts left same.leaves c.table columns
          (λ p names has. elim (cases_Bool (has_row (writes next.changes) p)) [
            | inl written ↦
                let all = fewer_pass gnos (conflicting next) (referring p) log (λ r. conflict_by_ref r next p written) taken.before in
                let named : has_row (parent_in ts good.leaves c) p ≡ true =
                children_taken ts gnos log whole left next taken p c all ∙ named_there ts same.leaves c p columns there names in
                ap is_some (sym (same.same_writes p written)) ∙ parent_is_there ts good.leaves c p taken.kept named
            | inr other ↦ ap is_some (changes_only_writes ts next.changes left same.leaves p same.defined other) ∙ has
          ])
          (had c columns was)
    ]

-- the records that wait do not conflict with it, so they stay good
waiting_taken : (ts : List Table) (gnos : List ℕ) (log : List Record) (left : Database) (next : Record) → NoValueTwice ts left →
    WaitingAreGood ts gnos log left → AreChosen gnos log next → (there : IsGood ts next left) → WaitingAreGood ts gnos log there.leaves
waiting_taken ts gnos log left next apart waiting before_next there = λ front rec rest e new before.
    let none : conflicts (touched rec) (touched next) ≡ false =
    fails_at gnos (conflicting next) front rest rec (subst (λ (l : List Record). AreChosen gnos l next) e before_next) new in
    let apart_behind = values_stay_apart ts next.changes left there.leaves apart there.applies in
    good_elsewhere ts rec left there.leaves apart apart_behind (waiting front rec rest e new before)
    (alike_behind ts next rec left apart there (both_ways (touched next) (touched rec) ∙ none))

-- it leaves what stands alongside, where each child has its parent if each had it before
pub record LeavesAlongside (ts : List Table) (gnos : List ℕ) (log : List Record) (left : Database) (next : Record) (whole : Database) :
    Type 0 where
  pub leaves : Database
  pub applies : effect ts next.changes left ≡ Some leaves
  pub along : AreAlongside ts gnos (log ++ next ∷ []) whole leaves
  pub parents : ChildrenHaveParents ts left → ChildrenHaveParents ts leaves

pub alongside_taken : (ts : List Table) (gnos : List ℕ) (log : List Record) (whole left : Database) (next : Record) →
    AreAlongside ts gnos log whole left → AreChosen gnos log next → (good : IsGood ts next whole) → ChildrenHaveParents ts good.leaves →
    has_gno gnos next.gno ≡ true → LeavesAlongside ts gnos log left next good.leaves
alongside_taken ts gnos log whole left next along before good kept is =
    let same = good_does_the_same ts next whole left along.whole_apart along.left_apart good
    (both_look_alike ts gnos log whole left next along before) in
    let taken : Taken ts gnos log whole left next = record { along = along; before = before; good = good; kept = kept; same = same } in
    let there : IsGood ts next left = record {
      leaves = same.leaves;
      applies = same.defined;
      refs = λ q. good.refs q ∙ ap (λ l. has_row l q) (sym (same_kin same));
      marks = λ q. good.marks q ∙ ap (λ l. has_row l q) (sym (same_marks same));
    } in
    let others = waiting_taken ts gnos log left next along.left_apart along.waiting before there in
    record {
      leaves = same.leaves;
      applies = same.defined;
      along = record {
        rows = λ q all.
            same_behind (λ o. o) ts next.changes whole good.leaves left same q good.applies
            (along.rows q (all_front gnos (writing q) log (next ∷ []) all));
        children = λ p all c. children_taken ts gnos log whole left next taken p c (all_front gnos (referring p) log (next ∷ []) all);
        holders = λ mark all q.
            same_behind (λ o. has_row (option_to_list (option_and_then (mark_of ts q.table) o)) mark)
            ts next.changes whole good.leaves left same q good.applies
            (along.holders mark (all_front gnos (stating mark) log (next ∷ []) all) q);
        whole_apart = values_stay_apart ts next.changes whole good.leaves along.whole_apart good.applies;
        left_apart = values_stay_apart ts next.changes left same.leaves along.left_apart same.defined;
        waiting = waiting_push ts gnos log next same.leaves others (λ new _. absurd (true≢false (sym is ∙ new)));
      };
      parents = parents_taken ts gnos log whole left next taken;
    }
