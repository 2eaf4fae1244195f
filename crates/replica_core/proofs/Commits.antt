-- What records leave, and the commits that they become, one more record at a time.
use Rattle.std.proofs.Common.{◌≡◌, ◌∙◌, sym, ap, refl, ℕ, zero, suc, ◌+◌, ◌≤◌, List, [], ◌∷◌, ◌++◌, map, length, take, Option, Some, None, add-one, slice_get}
use Rattle.std.specs.Option.{option_and_then, option_map_or}
use Rattle.std.proofs.lemmas.Option.{none-some, same_Some}
use Rattle.std.proofs.lemmas.List.{take-take}
use Rattle.std.specs.FinMap.{empty}
use Rattle.schema.specs.declared.Table.{Table}
use Rattle.rows.specs.Database.{Database, effect, writes}
use Rattle.store_trait.specs.Batch.{Entry, put_batch, put_batches, rows_in}
use Rattle.store_trait.specs.Operation.{batch_of, loaded}
use Rattle.store_trait.proofs.Batches.{put_batch-writes}
use Rattle.store_trait.specs.declared.Op.{Op}
use Rattle.store_trait.specs.declared.Op.TheVariants.{Load, Commit}
use Rattle.record_codec.specs.declared.records.Record.{Record}
use Rattle.record_codec.specs.Group.{AreNumbered}
use Rattle.record_codec.specs.Log.{after}
use Rattle.record_codec.proofs.Numbered.{take_numbered}
use Rattle.replica_core.specs.Replica.{commits_from, operations, numbered_from, operations_in_order}
use Rattle.replica_core.specs.Laws.{OneCommitMore, OneCommitEach, FirstCommits, OperationsLeaveRows}

-- ---- lists

pub take-got : {X : Type 0} (xs : List X) (n : ℕ) (x : X) → slice_get xs n ≡ Some x → take (n + 1) xs ≡ take n xs ++ x ∷ []
take-got [] n x is = absurd (none-some x is)
take-got (y ∷ xs) zero x is = ap (λ z. z ∷ []) (same_Some y x is)
take-got (y ∷ xs) (suc n) x is =
    ap (λ k. take k (y ∷ xs)) (add-one (suc n))
    ∙ ap (λ l. y ∷ l) (ap (λ k. take k xs) (sym (add-one n)) ∙ take-got xs n x is)

-- ---- after

pub after-push : (ts : List Table) (db : Database) (xs : List Record) (r : Record) → after ts db (xs ++ r ∷ []) ≡ option_and_then (effect ts r.changes) (after ts db xs)
after-push ts db [] r =
    elim (effect ts r.changes db) as (λ o. option_and_then (λ d. after ts d []) o ≡ o) [ None ↦ refl | Some left ↦ refl ]
after-push ts db (x ∷ xs) r =
    elim (effect ts x.changes db) as (λ o.
    option_and_then (λ d. after ts d (xs ++ r ∷ [])) o
    ≡ option_and_then (effect ts r.changes) (option_and_then (λ d. after ts d xs) o)) [
      | None ↦ refl
      | Some mid ↦ after-push ts mid xs r
    ]

-- ---- commits_from

-- the commit of a record that leaves this, and the commits of this record and others, where it leaves something
abbrev pub commit_of : Record → Database → Op
commit_of r left = Commit r.gno (rows_in (writes r.changes) left)

abbrev pub commits_of : Record → (Database → List Op) → Option Database → List Op
commits_of r others leaves = option_map_or (λ left. commit_of r left ∷ others left) leaves []

-- one more record is one more commit
pub one_commit_more : OneCommitMore
one_commit_more ts db [] r mid leaves is last =
    let here : effect ts r.changes db ≡ Some leaves = ap (effect ts r.changes) (same_Some db mid is) ∙ last in
    λ i. commits_of r (λ left. []) (here i)
one_commit_more ts db (x ∷ xs) r mid leaves is last =
    elim (effect ts x.changes db) as (λ o. option_and_then (λ d. after ts d xs) o ≡ Some mid → commits_of x (λ left. commits_from ts left (xs ++ r ∷ [])) o
    ≡ commits_of x (λ left. commits_from ts left xs) o ++ commit_of r leaves ∷ []) [
      | None ↦ λ h. absurd (none-some mid h)
      | Some left ↦ λ h. ap (λ l. commit_of x left ∷ l) (one_commit_more ts left xs r mid leaves h last)
    ] is

-- there is a commit for each record
pub one_commit_each : OneCommitEach
one_commit_each ts db [] mid is = refl
one_commit_each ts db (x ∷ xs) mid is =
    elim (effect ts x.changes db) as (λ o. option_and_then (λ d. after ts d xs) o ≡ Some mid → length (commits_of x (λ left. commits_from ts left xs) o) ≡ suc (length xs)) [
      | None ↦ λ h. absurd (none-some mid h)
      | Some left ↦ λ h. ap suc (one_commit_each ts left xs mid h)
    ] is

-- the first of the commits are those of the first records
pub first_commits : FirstCommits
first_commits ts db zero xs = refl
first_commits ts db (suc n) [] = refl
first_commits ts db (suc n) (x ∷ xs) =
    elim (effect ts x.changes db) as (λ o.
    take (suc n) (commits_of x (λ left. commits_from ts left xs) o) ≡ commits_of x (λ left. commits_from ts left (take n xs)) o) [
      | None ↦ refl
      | Some left ↦ ap (λ l. commit_of x left ∷ l) (first_commits ts left n xs)
    ]

-- the commits, put in order, leave what the records leave
pub put_batches-commits_from : (ts : List Table) (db : Database) (xs : List Record) (left : Database) → after ts db xs ≡ Some left → put_batches (map batch_of (commits_from ts db xs)) db ≡ left
put_batches-commits_from ts db [] left is = same_Some db left is
put_batches-commits_from ts db (x ∷ xs) left is =
    elim (effect ts x.changes db) as (λ o. effect ts x.changes db ≡ o → option_and_then (λ d. after ts d xs) o ≡ Some left →
    put_batches (map batch_of (commits_of x (λ mid. commits_from ts mid xs) o)) db ≡ left) [
      | None ↦ λ _ h. absurd (none-some left h)
      | Some mid ↦ λ here h.
          ap (put_batches (map batch_of (commits_from ts mid xs))) (put_batch-writes ts x.changes db mid here)
          ∙ put_batches-commits_from ts mid xs left h
    ] refl is

pub operations_leave_rows : OperationsLeaveRows
operations_leave_rows ts base records n left is = put_batches-commits_from ts (put_batch base empty) (take n records) left is

-- ---- in the order of the log

-- the commits of records that are numbered one by one have their numbers
pub numbered_commits : (ts : List Table) (db : Database) (gno : ℕ) (records : List Record) → AreNumbered gno records → commits_from ts db records ≡ numbered_from ts db gno records
numbered_commits ts db gno [] are = refl
numbered_commits ts db gno (x ∷ xs) are =
    elim (effect ts x.changes db) as (λ o. commits_of x (λ left. commits_from ts left xs) o
    ≡ option_map_or (λ left. Commit gno (rows_in (writes x.changes) left) ∷ numbered_from ts left (gno + 1) xs) o []) [
      | None ↦ refl
      | Some left ↦ λ i. Commit (are.0 i) (rows_in (writes x.changes) left) ∷ numbered_commits ts left (gno + 1) xs are.1 i
    ]

-- so the operations of the first m accepted records are those in the order of the log
pub ops_in_order : (ts : List Table) (base : List Entry) (accepted : List Record) (m n : ℕ) → AreNumbered 1 accepted → n ≤ m →
    operations ts base (take m accepted) n ≡ operations_in_order ts base accepted n
ops_in_order ts base accepted m n are within =
    ap (λ records. Load base ∷ commits_from ts (loaded base) records) (take-take n m accepted within)
    ∙ ap (λ ops. Load base ∷ ops) (numbered_commits ts (loaded base) 1 (take n accepted) (take_numbered 1 n accepted are))

-- ---- the next of a list of accepted records

pub after-next : (ts : List Table) (base : Database) (accepted : List Record) (n : ℕ) (next : Record) → slice_get accepted n ≡ Some next →
    after ts base (take (n + 1) accepted) ≡ option_and_then (effect ts next.changes) (after ts base (take n accepted))
after-next ts base accepted n next got = ap (after ts base) (take-got accepted n next got) ∙ after-push ts base (take n accepted) next
