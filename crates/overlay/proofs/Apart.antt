-- Transactions over one database that are apart from one another: they apply one after another, and one batch
-- leaves what all of them leave.
use Rattle.std.proofs.Common.{◌≡◌, sym, ap, ◌∙◌, refl, Bool, true, false, ◌||◌, cond, List, [], ◌∷◌, ◌++◌, Option, Some, None, IsSome, is_some, ℤ}
use Rattle.std.specs.Prelude.{unwrap_or, option_and_then}
use Rattle.std.specs.List.{AllByRecursion}
use Rattle.std.specs.Option.{option_or}
use Rattle.std.specs.FinMap.{get, find, same_map}
use Rattle.std.proofs.lemmas.Bool.{or_parts}
use Rattle.std.proofs.lemmas.Option.{same_Some}
use Rattle.schema.specs.declared.Table.{Table}
use Rattle.schema.specs.declared.RowId.{RowId}
use Rattle.schema.proofs.Conflicts.{none_of_both}
use Rattle.schema.specs.RowId.{row_cmp, exact_row, row_total}
use Rattle.schema.specs.Rows.{has_row, meets}
use Rattle.schema.proofs.Lists.{AllByRecursion-push, AllByRecursion-front, AllByRecursion-behind}
use Rattle.rows.specs.Database.{Database, writes, effect, kin, marks}
use Rattle.rows.specs.Frame.{SameEffect}
use Rattle.rows.proofs.Apply.{has_row-left}
use Rattle.rows.proofs.Effect.{effect_joined}
use Rattle.rows.proofs.Frame.{applies_behind, not_in_first, same_kin, same_marks}
use Rattle.store_trait.specs.Batch.{Entry, IsRising, put_batch}
use Rattle.store_trait.proofs.Batches.{get-put_batch}
use Rattle.overlay.specs.Pending.{Pending, left_at}
use Rattle.overlay.specs.Follows.{Follows}
use Rattle.overlay.specs.Joining.{joined_all, first_left, all_changes, EachFollows, IsApart, AllApart, ApartGoesOn, ApartWithoutConflict, NotYetJoined, JoinedIsAfter, BatchIsAfter}
use Rattle.overlay.proofs.Follow.{left_at-Follows, get-Follows, Follows-moved}
use Rattle.overlay.proofs.Joining.{find-joined_all, joined_all_rises}

-- ---- rows

written : {ts : List Table} {db : Database} {pending : Pending} {after : Database} → Follows ts db pending after → (q : RowId) → IsSome (left_at pending q) → has_row (writes pending.changes) q ≡ true
written {pending = pending} {after = after} f q is =
    by (has_row (writes pending.changes) q) (ap is_some (sym (left_at-Follows f q)) ∙ is)
  where
    by : (b : Bool) → is_some (cond b (Some (get after q)) None) ≡ true → b ≡ true
    by true h = refl
    by false h = h

unwritten : {ts : List Table} {db : Database} {pending : Pending} {after : Database} → Follows ts db pending after → (q : RowId) → has_row (writes pending.changes) q ≡ false → left_at pending q ≡ None
unwritten {after = after} f q none = left_at-Follows f q ∙ ap (λ b. cond b (Some (get after q)) None) none

-- of two transactions that are apart, the earlier leaves no row that the later one writes
left_by_later : {ts : List Table} {db : Database} {earlier later : Pending} {after end : Database} → Follows ts db earlier after → Follows ts db later end → IsApart ts db earlier later →
    (q : RowId) → IsSome (left_at later q) → left_at earlier q ≡ None
left_by_later {ts = ts} {db = db} {earlier = earlier} {later = later} f g apart q is =
    unwritten f q (not_in_first (writes earlier.changes) (writes later.changes ++ kin ts later.changes db) q apart.rows
    (has_row-left (writes later.changes) (kin ts later.changes db) q (written g q is)))

pub apart_without_conflict : ApartWithoutConflict
apart_without_conflict ts db earlier later none =
    let wrote = writes earlier.changes in
    let sets = or_parts (meets wrote (writes later.changes) || meets wrote (kin ts later.changes db) || meets (writes later.changes) (kin ts earlier.changes db))
    (meets (marks ts earlier.changes db) (marks ts later.changes db)) none in
    let parts = or_parts (meets wrote (writes later.changes) || meets wrote (kin ts later.changes db)) (meets (writes later.changes) (kin ts earlier.changes db)) sets.0 in
    let own = or_parts (meets wrote (writes later.changes)) (meets wrote (kin ts later.changes db)) parts.0 in
    record { rows = none_of_both wrote (writes later.changes) (kin ts later.changes db) own.0 own.1; marks = sets.1 }

pub apart-more : ApartGoesOn
apart-more ts db [] pending = (λ all. (tt, tt), λ parts. (tt, tt))
apart-more ts db (first ∷ pendings) pending =
    let rest = apart-more ts db pendings pending in (
      λ all.
          let front = AllByRecursion-front (IsApart ts db first) pendings (pending ∷ []) all.0 in
          let last = AllByRecursion-behind (IsApart ts db first) pendings (pending ∷ []) all.0 in
          let there = rest.0 all.1 in
          ((front, there.0), (last.0, there.1)),
      λ parts. (AllByRecursion-push (IsApart ts db first) pendings pending parts.0.0 parts.1.0, rest.1 (parts.0.1, parts.1.1)),
    )

-- ---- over what the first of them leaves

module _ {ts : List Table} {db : Database} {first : Pending} {mid : Database} (f : Follows ts db first mid) where
  moved : (pending : Pending) (after : Database) → Follows ts db pending after → IsApart ts db first pending → SameEffect ts pending.changes db after mid
  moved pending after g apart =
      applies_behind ts first.changes pending.changes db mid after f.applied g.applied apart.rows apart.marks

  each_moved : (pendings : List Pending) → EachFollows ts db pendings → AllByRecursion (IsApart ts db first) pendings → EachFollows ts mid pendings
  each_moved [] each apart = tt
  each_moved (pending ∷ pendings) each apart =
      let same = moved pending each.0.0 each.0.1 apart.0 in
      ((same.leaves, Follows-moved each.0.1 same), each_moved pendings each.1 apart.1)

  apart_moved : (earlier : Pending) → marks ts earlier.changes mid ≡ marks ts earlier.changes db → (pendings : List Pending) → EachFollows ts db pendings →
      AllByRecursion (IsApart ts db first) pendings → AllByRecursion (IsApart ts db earlier) pendings → AllByRecursion (IsApart ts mid earlier) pendings
  apart_moved earlier stay [] each apart were = tt
  apart_moved earlier stay (pending ∷ pendings) each apart were =
      let same = moved pending each.0.0 each.0.1 apart.0 in
      let here : IsApart ts mid earlier pending = record {
        rows = ap (λ l. meets (writes earlier.changes) (writes pending.changes ++ l)) (same_kin same) ∙ were.0.rows;
        marks = (λ i. meets (stay i) (same_marks same i)) ∙ were.0.marks;
      } in
      (here, apart_moved earlier stay pendings each.1 apart.1 were.1)

  all_apart_moved : (pendings : List Pending) → EachFollows ts db pendings → AllByRecursion (IsApart ts db first) pendings → AllApart ts db pendings → AllApart ts mid pendings
  all_apart_moved [] each apart were = tt
  all_apart_moved (pending ∷ pendings) each apart were =
      let stay = same_marks (moved pending each.0.0 each.0.1 apart.0) in
      (apart_moved pending stay pendings each.1 apart.1 were.0, all_apart_moved pendings each.1 apart.1 were.1)

  -- what the first leaves of a row, none of the others changes
  none_later : (pendings : List Pending) → EachFollows ts db pendings → AllByRecursion (IsApart ts db first) pendings → (q : RowId) (left : Option (List ℤ)) → left_at first q ≡ Some left →
      first_left pendings q ≡ None
  none_later [] each apart q left is = refl
  none_later (pending ∷ pendings) each apart q left is =
      by (left_at pending q) refl ∙ none_later pendings each.1 apart.1 q left is
    where
      by : (o : Option (Option (List ℤ))) → left_at pending q ≡ o → option_or (left_at pending q) (first_left pendings q) ≡ first_left pendings q
      by None e = ap (λ o. option_or o (first_left pendings q)) e
      by (Some x) e =
          let none : left_at first q ≡ None = left_by_later f each.0.1 apart.0 q (ap is_some e) in
          cc

  first_or_later : (pendings : List Pending) → EachFollows ts db pendings → AllByRecursion (IsApart ts db first) pendings → (q : RowId) →
      unwrap_or (first_left pendings q) (get mid q) ≡ unwrap_or (option_or (left_at first q) (first_left pendings q)) (get db q)
  first_or_later pendings each apart q =
      ap (unwrap_or (first_left pendings q)) (get-Follows f q) ∙ by (left_at first q) refl
    where
      by : (o : Option (Option (List ℤ))) → left_at first q ≡ o → unwrap_or (first_left pendings q) (unwrap_or o (get db q)) ≡ unwrap_or (option_or o (first_left pendings q)) (get db q)
      by None e = refl
      by (Some left) e = ap (λ o. unwrap_or o left) (none_later pendings each apart q left e)

-- ---- all of them

-- what the transactions leave one after another, and its rows
abbrev AllRun : List Table → Database → List Pending → Type 0
AllRun ts db pendings = (after : Database) × (effect ts (all_changes pendings) db ≡ Some after) × ((q : RowId) → get after q ≡ unwrap_or (first_left pendings q) (get db q))

all_run : (ts : List Table) (db : Database) (pendings : List Pending) → EachFollows ts db pendings → AllApart ts db pendings → AllRun ts db pendings
all_run ts db [] each apart = (db, refl, λ q. refl)
all_run ts db (first ∷ pendings) each apart =
    let mid = each.0.0 in
    let f = each.0.1 in
    let rest = all_run ts mid pendings (each_moved f pendings each.1 apart.0) (all_apart_moved f pendings each.1 apart.0 apart.1) in (
      rest.0,
      effect_joined ts first.changes (all_changes pendings) db ∙ ap (option_and_then (effect ts (all_changes pendings))) f.applied ∙ rest.1,
      λ q. rest.2 q ∙ first_or_later f pendings each.1 apart.0 q,
    )

-- a batch of the rows of all leaves what all of them leave
of_all_rows : (ts : List Table) (db : Database) (pendings : List Pending) (batch : List Entry) (run : AllRun ts db pendings) → IsRising batch →
    ((q : RowId) → find row_cmp q batch ≡ first_left pendings q) → put_batch batch db ≡ run.0
of_all_rows ts db pendings batch run rising same =
    same_map row_total exact_row (put_batch batch db) run.0 (λ q.
    get-put_batch batch db q rising ∙ ap (λ o. unwrap_or o (get db q)) (same q) ∙ sym (run.2 q))

pub joined_is_after : JoinedIsAfter
joined_is_after ts db pendings each apart =
    let run = all_run ts db pendings each apart in
    run.1 ∙ ap Some (sym (of_all_rows ts db pendings (joined_all [] pendings) run (joined_all_rises [] pendings refl) (find-joined_all [] pendings)))

pub batch_is_after : BatchIsAfter
batch_is_after ts db after pendings batch each apart applied rising same =
    let run = all_run ts db pendings each apart in
    of_all_rows ts db pendings batch run rising same ∙ same_Some run.0 after (sym run.1 ∙ applied)

-- ---- rows that are not joined yet

none_before : (ts : List Table) (db : Database) (before : List Pending) (pending : Pending) (behind : List Pending) → EachFollows ts db (before ++ pending ∷ behind) →
    AllApart ts db (before ++ pending ∷ behind) → (q : RowId) → IsSome (left_at pending q) → first_left before q ≡ None
none_before ts db [] pending behind each apart q is = refl
none_before ts db (first ∷ before) pending behind each apart q is =
    let here = at before each.1 apart.0 in
    (λ i. option_or (left_by_later each.0.1 here.0.1 here.1 q is i) (first_left before q)) ∙ none_before ts db before pending behind each.1 apart.1 q is
  where
    at : (before : List Pending) → EachFollows ts db (before ++ pending ∷ behind) → AllByRecursion (IsApart ts db first) (before ++ pending ∷ behind) →
        ((after : Database) × Follows ts db pending after) × IsApart ts db first pending
    at [] each apart = (each.0, apart.0)
    at (p ∷ before) each apart = at before each.1 apart.1

pub not_yet_joined : NotYetJoined
not_yet_joined ts db before pending behind each apart q is =
    find-joined_all [] before q ∙ none_before ts db before pending behind each apart q is
