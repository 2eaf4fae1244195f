-- The commits of a replica, in any order: what they leave in their own order is what they leave in that of the log.
use Rattle.std.proofs.Common.{◌≡◌, ◌∙◌, sym, ap, subst, refl, ℕ, suc, ◌+◌, ◌-◌, ◌≤◌, List, [], ◌∷◌, ◌++◌, length, take, drop, Some, add-one, append_assoc, slice_get}
use Rattle.std.specs.Option.{option_and_then}
use Rattle.std.proofs.lemmas.Option.{same_Some}
use Rattle.std.proofs.lemmas.List.{length-take-le, length_push, take-append-drop}
use Rattle.schema.specs.declared.Table.{Table}
use Rattle.schema.specs.Rows.{SameRows}
use Rattle.rows.specs.Database.{Database, effect, writes, marks, NoValueTwice}
use Rattle.store_trait.specs.Batch.{Entry, rows_in}
use Rattle.store_trait.specs.Operation.{loaded, left_by}
use Rattle.store_trait.specs.declared.Op.{Op}
use Rattle.store_trait.specs.declared.Op.TheVariants.{Load, Commit}
use Rattle.record_codec.specs.declared.records.Record.{Record}
use Rattle.record_codec.specs.Group.{AreNumbered}
use Rattle.record_codec.specs.Log.{after, StateMarks}
use Rattle.relay.specs.Relay.{AreAcceptable}
use Rattle.gapped.specs.Gapped.{AreCommits, MayCommit, records_at}
use Rattle.gapped.specs.Laws.{IsState}
use Rattle.gapped.proofs.Choosing.{record_at_number, records_at_first, records_at_pushed, records_at_take, length_records_at, prefix_are_commits, commits_are_within, AreWithin}
use Rattle.gapped.proofs.Running.{ran_is_gapped}
use Rattle.replica_core.specs.Replica.{Replica, working_rows, ran, operations, commits_from}
use Rattle.replica_core.specs.Sound.{IsSound, AreEligible}
use Rattle.replica_core.specs.Laws.{PublishedIsGapped}
use Rattle.replica_core.proofs.Commits.{after-push, commits_of, one_commit_each, operations_leave_rows}

-- what these lemmas take of a replica: its records, its commits, and that each record dispatched was eligible
pub record Stands (r : Replica) : Type 0 where
  pub acceptable : AreAcceptable r.tables r.accepted
  pub commits : AreCommits r.tables (loaded r.base) r.accepted r.commits
  pub apart : NoValueTwice r.tables (loaded r.base)
  pub eligible : AreEligible r

pub sound_stands : (r : Replica) → IsSound r → Stands r
sound_stands r sound = record { acceptable = sound.accepted; commits = sound.commits; apart = sound.apart; eligible = sound.eligible }

-- acceptable records are numbered from 1 on
numbered_from_here : (ts : List Table) (front rest : List Record) → AreAcceptable ts (front ++ rest) → AreNumbered (length front + 1) rest
numbered_from_here ts front [] are = tt
numbered_from_here ts front (r ∷ rest) are =
    let others = numbered_from_here ts (front ++ r ∷ []) rest (subst (AreAcceptable ts) (sym (append_assoc front (r ∷ []) rest)) are) in
    ((are front r rest refl).gno, subst (λ (n : ℕ). AreNumbered (n + 1) rest) (length_push front r) others)

pub numbered_of : (ts : List Table) (log : List Record) → AreAcceptable ts log → AreNumbered 1 log
numbered_of ts log are = numbered_from_here ts [] log are

pub numbered : (r : Replica) → Stands r → AreNumbered 1 r.accepted
numbered r h = numbered_of r.tables r.accepted h.acceptable

-- ---- what the first so many commits leave

first_are_commits : (r : Replica) (n : ℕ) → Stands r → AreCommits r.tables (loaded r.base) r.accepted (take n r.commits)
first_are_commits r n h =
    prefix_are_commits r.tables (loaded r.base) r.accepted (take n r.commits) (drop n r.commits)
    (subst (AreCommits r.tables (loaded r.base) r.accepted) (sym (take-append-drop n r.commits)) h.commits)

pub state_at : (r : Replica) (n : ℕ) → Stands r → IsState r.tables (loaded r.base) r.accepted (take n r.commits)
state_at r n h = ran_is_gapped r.tables (loaded r.base) r.accepted (take n r.commits) h.apart (numbered r h) (first_are_commits r n h)

pub state_now : (r : Replica) → Stands r → IsState r.tables (loaded r.base) r.accepted r.commits
state_now r h = ran_is_gapped r.tables (loaded r.base) r.accepted r.commits h.apart (numbered r h) h.commits

-- the records in the order of their commits leave the working rows
pub rows_of_ran : (r : Replica) (rows : Database) → Stands r → working_rows r ≡ Some rows → after r.tables (loaded r.base) (ran r) ≡ Some rows
rows_of_ran r rows h is = let state = state_now r h in state.ran ∙ sym state.rows ∙ is

-- where no two rows of a table have one value in its unique column
pub rows_apart : (r : Replica) (rows : Database) → Stands r → working_rows r ≡ Some rows → NoValueTwice r.tables rows
rows_apart r rows h is =
    let state = state_now r h in subst (NoValueTwice r.tables) (same_Some state.left rows (sym state.rows ∙ is)) state.apart

-- each commit is of an accepted record
pub commits_within : (r : Replica) → Stands r → AreWithin r.commits r.accepted
commits_within r h = commits_are_within r.tables (loaded r.base) r.accepted r.commits (numbered r h) h.commits

-- the first n of the records in the order of their commits are those of the first n commits
first_ran : (r : Replica) (n : ℕ) → Stands r → take n (ran r) ≡ records_at r.accepted (take n r.commits)
first_ran r n h = sym (records_at_take r.accepted r.commits n (commits_within r h))

pub published_is_gapped : PublishedIsGapped
published_is_gapped r n sound within =
    let h = sound_stands r sound in
    let state = state_at r n h in
    let left : left_by (operations r.tables r.base (ran r) n) ≡ state.left =
    operations_leave_rows r.tables r.base (ran r) n state.left (ap (after r.tables (loaded r.base)) (first_ran r n h) ∙ state.ran) in
    record { closed = state.closed; rows = state.rows ∙ ap Some (sym left) }

-- ---- one commit behind another

-- what tells the gnos of the commits among operations, in order
pub record TellsGnos (gnos_of : List Op → List ℕ) : Type 0 where
  pub none : gnos_of [] ≡ []
  pub load : (base : List Entry) (ops : List Op) → gnos_of (Load base ∷ ops) ≡ gnos_of ops
  pub commit : (gno : ℕ) (batch : List Entry) (ops : List Op) → gnos_of (Commit gno batch ∷ ops) ≡ gno ∷ gnos_of ops

module _ (ts : List Table) (base : Database) (log : List Record) (numbers : AreNumbered 1 log) where
  -- the record of a commit is found at its number
  found : (front : List ℕ) (gno : ℕ) (may : MayCommit ts base log front gno) → slice_get log (gno - 1) ≡ Some may.rec
  found front gno may =
      ap (λ n. slice_get log (n - 1)) (sym may.number) ∙ record_at_number log may.front may.rest may.rec numbers may.split

  first_found : (front rest : List ℕ) (gno : ℕ) (may : MayCommit ts base log front gno) → records_at log (gno ∷ rest) ≡ may.rec ∷ records_at log rest
  first_found front rest gno may = records_at_first log gno rest may.rec (found front gno may)

  applies_here : (front : List ℕ) (gno : ℕ) (mid : Database) (may : MayCommit ts base log front gno) →
      after ts base (records_at log front) ≡ Some mid → effect ts may.rec.changes mid ≡ Some may.good.leaves
  applies_here front gno mid may is = ap (effect ts may.rec.changes) (same_Some mid may.rows (sym is ∙ may.rows_are)) ∙ may.good.applies

  leaves_here : (front : List ℕ) (gno : ℕ) (mid next : Database) (may : MayCommit ts base log front gno) → after ts base (records_at log front) ≡ Some mid → effect ts may.rec.changes mid ≡ Some next
      → after ts base (records_at log (front ++ gno ∷ [])) ≡ Some next
  leaves_here front gno mid next may is one =
      ap (after ts base) (records_at_pushed log front gno may.rec (found front gno may))
      ∙ after-push ts base (records_at log front) may.rec ∙ ap (option_and_then (effect ts may.rec.changes)) is ∙ one

  regrouped : (front rest : List ℕ) (gno : ℕ) → AreCommits ts base log (front ++ gno ∷ rest) → AreCommits ts base log ((front ++ gno ∷ []) ++ rest)
  regrouped front rest gno are = subst (AreCommits ts base log) (sym (append_assoc front (gno ∷ []) rest)) are

  -- each record states its marks where it was committed
  marks_from : (front rest : List ℕ) (mid : Database) → AreCommits ts base log (front ++ rest) → after ts base (records_at log front) ≡ Some mid → StateMarks ts mid (records_at log rest)
  marks_from front [] mid are is = tt
  marks_from front (gno ∷ rest) mid are is =
      let may = are front gno rest refl in
      let here = subst (λ (db : Database). SameRows may.rec.marks (marks ts may.rec.changes db)) (same_Some may.rows mid (sym may.rows_are ∙ is)) may.good.marks in
      subst (StateMarks ts mid) (sym (first_found front rest gno may)) (
        here,
        λ next one. marks_from (front ++ gno ∷ []) rest next (regrouped front rest gno are) (leaves_here front gno mid next may is one),
      )

  gnos_from : (gnos_of : List Op → List ℕ) → TellsGnos gnos_of → (front rest : List ℕ) (mid : Database) → AreCommits ts base log (front ++ rest) → after ts base (records_at log front) ≡ Some mid
      → gnos_of (commits_from ts mid (records_at log rest)) ≡ rest
  gnos_from gnos_of tells front [] mid are is = tells.none
  gnos_from gnos_of tells front (gno ∷ rest) mid are is =
      let may = are front gno rest refl in
      let one = applies_here front gno mid may is in
      let then = leaves_here front gno mid may.good.leaves may is one in
      let others = gnos_from gnos_of tells (front ++ gno ∷ []) rest may.good.leaves (regrouped front rest gno are) then in
      ap (λ l. gnos_of (commits_from ts mid l)) (first_found front rest gno may)
      ∙ ap (λ o. gnos_of (commits_of may.rec (λ leaves. commits_from ts leaves (records_at log rest)) o)) one
      ∙ tells.commit may.rec.gno (rows_in (writes may.rec.changes) may.good.leaves) (commits_from ts may.good.leaves (records_at log rest))
      ∙ (λ i. may.number i ∷ others i)

-- each record that was committed stated its marks, where it was committed
pub commits_state_marks : (r : Replica) → Stands r → StateMarks r.tables (loaded r.base) (ran r)
commits_state_marks r h = marks_from r.tables (loaded r.base) r.accepted (numbered r h) [] r.commits (loaded r.base) h.commits refl

-- of the first n operations the first n commits are told
pub gnos_of_operations : (gnos_of : List Op → List ℕ) (r : Replica) (n : ℕ) → TellsGnos gnos_of → Stands r → gnos_of (operations r.tables r.base (ran r) n) ≡ take n r.commits
gnos_of_operations gnos_of r n tells h =
    tells.load r.base (commits_from r.tables (loaded r.base) (take n (ran r)))
    ∙ ap (λ l. gnos_of (commits_from r.tables (loaded r.base) l)) (first_ran r n h)
    ∙ gnos_from r.tables (loaded r.base) r.accepted (numbered r h) gnos_of tells [] (take n r.commits) (loaded r.base)
    (first_are_commits r n h) refl

-- there is an operation for each of them, behind the load
pub length_operations : (r : Replica) (n : ℕ) → Stands r → n ≤ length r.commits → length (operations r.tables r.base (ran r) n) ≡ n + 1
length_operations r n h within =
    let state = state_at r n h in
    let among = commits_are_within r.tables (loaded r.base) r.accepted (take n r.commits) (numbered r h) (first_are_commits r n h) in
    let all : length (commits_from r.tables (loaded r.base) (take n (ran r))) ≡ n =
    ap (λ l. length (commits_from r.tables (loaded r.base) l)) (first_ran r n h)
    ∙ one_commit_each r.tables (loaded r.base) (records_at r.accepted (take n r.commits)) state.left state.ran
    ∙ length_records_at r.accepted (take n r.commits) among ∙ length-take-le n r.commits within in
    ap suc all ∙ sym (add-one n)
