-- What several transactions leave of one database, joined into one batch.
use Rattle.std.specs.Prelude.{◌≡◌, ◌↔◌, ℤ, false, List, [], ◌∷◌, ◌++◌, Option, Some, None, IsSome}
use Rattle.std.specs.List.{AllByRecursion, flat_map}
use Rattle.std.specs.Option.{option_or}
use Rattle.std.specs.FinMap.{find}
use Rattle.schema.specs.declared.Table.{Table}
use Rattle.schema.specs.declared.RowId.{RowId}
use Rattle.schema.specs.RowId.{row_cmp}
use Rattle.schema.specs.Rows.{meets, conflicts}
use Rattle.rows.specs.declared.Change.{Change}
use Rattle.rows.specs.Database.{Database, writes, effect, kin, marks, touched_by}
use Rattle.store_trait.specs.Batch.{Entry, IsRising, put_batch, in_order}
use Rattle.overlay.specs.Pending.{Pending, left_at}
use Rattle.overlay.specs.Follows.{Follows}

-- the entries with those that a transaction leaves
abbrev pub joined : List Entry → Pending → List Entry
joined entries pending = in_order (entries ++ pending.left)

-- the entries with those that several transactions leave, one after another
abbrev pub joined_all : List Entry → List Pending → List Entry
joined_all entries [] = entries
joined_all entries (pending ∷ rest) = joined_all (joined entries pending) rest

-- what the first of the transactions that changes a row leaves of it
abbrev pub first_left : List Pending → RowId → Option (Option (List ℤ))
first_left [] q = None
first_left (pending ∷ rest) q = option_or (left_at pending q) (first_left rest q)

-- the changes of the transactions, one behind the other
abbrev pub all_changes : List Pending → List Change
all_changes pendings = flat_map (λ pending. pending.changes) pendings

-- the changes of each of the transactions by itself apply to db, and what they leave is there
abbrev pub EachFollows : List Table → Database → List Pending → Type 0
EachFollows ts db pendings = AllByRecursion (λ pending. (after : Database) × Follows ts db pending after) pendings

-- over db, the later transaction neither writes a row that the earlier one writes nor has one as its kin, and their marks do not meet
pub record IsApart (ts : List Table) (db : Database) (earlier later : Pending) : Type 0 where
  pub rows : meets (writes earlier.changes) (writes later.changes ++ kin ts later.changes db) ≡ false
  pub marks : meets (marks ts earlier.changes db) (marks ts later.changes db) ≡ false

-- each later one of the transactions is apart from each earlier one
abbrev pub AllApart : List Table → Database → List Pending → Type 0
AllApart ts db [] = Unit {0}
AllApart ts db (pending ∷ rest) = AllByRecursion (IsApart ts db pending) rest × AllApart ts db rest

-- one more transaction, which is apart from each before it
abbrev pub ApartGoesOn : Type 0
ApartGoesOn = (ts : List Table) (db : Database) (pendings : List Pending) (pending : Pending) →
    AllApart ts db (pendings ++ pending ∷ []) ↔ (AllApart ts db pendings × AllByRecursion (λ earlier. IsApart ts db earlier pending) pendings)

-- two transactions are apart where they do not conflict, the kin of each being the rows that it refers to
abbrev pub ApartWithoutConflict : Type 0
ApartWithoutConflict = (ts : List Table) (db : Database) (earlier later : Pending) →
    conflicts (touched_by ts earlier.changes db) (touched_by ts later.changes db) ≡ false → IsApart ts db earlier later

-- one more transaction
abbrev pub JoinedGoesOn : Type 0
JoinedGoesOn = (entries : List Entry) (pendings : List Pending) (pending : Pending) →
    joined_all entries (pendings ++ pending ∷ []) ≡ joined (joined_all entries pendings) pending

-- the rows of all, in the order of row ids
abbrev pub JoinedHasRows : Type 0
JoinedHasRows = (entries : List Entry) (pendings : List Pending) (q : RowId) →
    find row_cmp q (joined_all entries pendings) ≡ option_or (find row_cmp q entries) (first_left pendings q)

abbrev pub JoinedRises : Type 0
JoinedRises = (entries : List Entry) (pendings : List Pending) → IsRising entries → IsRising (joined_all entries pendings)

-- no row of a transaction that is apart from those before it is joined by then
abbrev pub NotYetJoined : Type 0
NotYetJoined = (ts : List Table) (db : Database) (before : List Pending) (pending : Pending) (behind : List Pending) →
    EachFollows ts db (before ++ pending ∷ behind) → AllApart ts db (before ++ pending ∷ behind) →
    (q : RowId) → IsSome (left_at pending q) → find row_cmp q (joined_all [] before) ≡ None

-- transactions that are apart apply one after another, and one batch leaves what all of them leave
abbrev pub JoinedIsAfter : Type 0
JoinedIsAfter = (ts : List Table) (db : Database) (pendings : List Pending) →
    EachFollows ts db pendings → AllApart ts db pendings →
    effect ts (all_changes pendings) db ≡ Some (put_batch (joined_all [] pendings) db)

-- and so does every batch that has the same rows
abbrev pub BatchIsAfter : Type 0
BatchIsAfter = (ts : List Table) (db after : Database) (pendings : List Pending) (batch : List Entry) →
    EachFollows ts db pendings → AllApart ts db pendings → effect ts (all_changes pendings) db ≡ Some after →
    IsRising batch → ((q : RowId) → find row_cmp q batch ≡ first_left pendings q) → put_batch batch db ≡ after
