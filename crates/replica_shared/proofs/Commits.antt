-- The operations of commits: how many they are, and how they grow.
use Rattle.std.proofs.Common.{◌≡◌, ◌∙◌, sym, ap, subst, refl, ℕ, zero, suc, ◌+◌, ◌<◌, ◌≤◌, List, [], ◌∷◌, ◌++◌, length, take, drop, Some, None, arith, slice_get, get_or, length-append, append_assoc}
use Rattle.std.specs.Option.{option_map_or}
use Rattle.std.proofs.lemmas.List.{take-append-drop, take-take, take-append-le, take_all}
use mathlib.Core.List.{IsPrefix}
use Rattle.schema.specs.declared.Table.{Table}
use Rattle.rows.specs.Database.{Database, effect, writes}
use Rattle.store_trait.specs.Batch.{Entry, rows_in}
use Rattle.store_trait.specs.Operation.{loaded}
use Rattle.store_trait.specs.declared.Op.{Op}
use Rattle.store_trait.specs.declared.Op.TheVariants.{Load, Commit}
use Rattle.published.specs.History.{gnos_of}
use Rattle.record_codec.specs.declared.records.Record.{Record}
use Rattle.replica_core.specs.Replica.{commits_from, operations}
use Rattle.replica_core.proofs.Commits.{first_commits}

-- ---- lists

-- a beginning is no longer than the list
pub prefix_length : (xs ys : List Op) → IsPrefix xs ys → length xs ≤ length ys
prefix_length xs ys p = omega (arith, length-append xs p.0, ap length p.1)

-- one more of the longer list
pub prefix_next : {A : Type 0} (xs ys : List A) (y : A) → IsPrefix xs ys → slice_get ys (length xs) ≡ Some y → IsPrefix (xs ++ y ∷ []) ys
prefix_next [] [] y p is = absurd (cc (is))
prefix_next [] (z ∷ ys) y p is = (ys, ap (λ w. w ∷ ys) (cc (is)))
prefix_next (x ∷ xs) [] y p is = absurd (cc (p.1))
prefix_next (x ∷ xs) (z ∷ ys) y p is =
    let rest = prefix_next xs ys y (p.0, cc (p.1)) is in (rest.0, cc (p.1, rest.1))

pub prefix_take : {A : Type 0} (n : ℕ) (xs : List A) → IsPrefix (take n xs) xs
prefix_take n xs = (drop n xs, take-append-drop n xs)

-- a beginning is as much of the list as it is long
pub prefix_is : (xs ys : List Op) → IsPrefix xs ys → xs ≡ take (length xs) ys
prefix_is [] ys p = refl
prefix_is (x ∷ xs) [] p = absurd (cc (p.1))
prefix_is (x ∷ xs) (y ∷ ys) p =
    let rest = prefix_is xs ys (p.0, cc (p.1)) in cc (p.1, rest)

-- so of two of one list the shorter is as much of the longer
pub prefix_of_longer : (xs ys whole : List Op) → IsPrefix xs whole → IsPrefix ys whole → length xs ≤ length ys → xs ≡ take (length xs) ys
prefix_of_longer [] ys whole p q le = refl
prefix_of_longer (x ∷ xs) [] whole p q le = absurd (omega arith)
prefix_of_longer (x ∷ xs) (y ∷ ys) [] p q le = absurd (cc (p.1))
prefix_of_longer (x ∷ xs) (y ∷ ys) (z ∷ whole) p q le =
    let rest = prefix_of_longer xs ys whole (p.0, cc (p.1)) (q.0, cc (q.1)) (omega arith) in cc (p.1, q.1, rest)

-- what begins a beginning begins the list
pub front : (xs ys zs : List Op) → IsPrefix (xs ++ ys) zs → IsPrefix xs zs
front xs ys zs p = (ys ++ p.0, sym (append_assoc xs ys p.0) ∙ p.1)

-- behind so many the places are counted on from there
pub slice_get-drop : (n k : ℕ) (xs : List Op) → slice_get (drop n xs) k ≡ slice_get xs (n + k)
slice_get-drop zero k xs = ap (slice_get xs) (omega arith)
slice_get-drop (suc n) k [] = refl
slice_get-drop (suc n) k (x ∷ xs) =
    let number : suc (n + k) ≡ suc n + k = omega arith in
    slice_get-drop n k xs ∙ ap (slice_get (x ∷ xs)) number

-- an element that was looked up within the list
pub looked_up : (xs : List Op) (i : ℕ) (x : Op) → i < length xs → x ≡ get_or xs i x → slice_get xs i ≡ Some x
looked_up [] i x within is = absurd (omega arith)
looked_up (y ∷ xs) zero x within is = ap (λ o. Some o) (sym is)
looked_up (y ∷ xs) (suc i) x within is = looked_up xs i x (omega arith) is

-- ---- commits

-- they are no more than the records
pub few_commits : (ts : List Table) (db : Database) (xs : List Record) → length (commits_from ts db xs) ≤ length xs
few_commits ts db [] = omega arith
few_commits ts db (x ∷ xs) =
    elim (effect ts x.changes db) as (λ o. length (option_map_or (λ left. Commit x.gno (rows_in (writes x.changes) left) ∷ commits_from ts left xs) o []) ≤ suc (length xs)) [
      | None ↦ omega arith
      | Some left ↦ (let rest = few_commits ts left xs in omega arith)
    ]

-- none of them is a load
abbrev AreCommits : List Op → Type 0
AreCommits [] = Unit {0}
AreCommits (Load base ∷ ops) = ⊥
AreCommits (Commit gno batch ∷ ops) = AreCommits ops

-- the operations of records are commits alone
pub commits_alone : (ts : List Table) (db : Database) (xs : List Record) → AreCommits (commits_from ts db xs)
commits_alone ts db [] = tt
commits_alone ts db (x ∷ xs) =
    elim (effect ts x.changes db) as (λ o. AreCommits (option_map_or (λ left. Commit x.gno (rows_in (writes x.changes) left) ∷ commits_from ts left xs) o [])) [
      | None ↦ tt
      | Some left ↦ commits_alone ts left xs
    ]

-- so each has its gno
pub gnos_of-drop : (n : ℕ) (ops : List Op) → AreCommits ops → gnos_of (drop n ops) ≡ drop n (gnos_of ops)
gnos_of-drop zero ops are = refl
gnos_of-drop (suc n) [] are = refl
gnos_of-drop (suc n) (Load base ∷ ops) are = absurd are
gnos_of-drop (suc n) (Commit gno batch ∷ ops) are = gnos_of-drop n ops are

-- ---- operations

few_taken : (n : ℕ) (xs : List Record) → length (take n xs) ≤ n
few_taken zero xs = omega arith
few_taken (suc n) [] = omega arith
few_taken (suc n) (x ∷ xs) = let rest = few_taken n xs in omega arith

-- no more than the load and as many commits
pub few_operations : (ts : List Table) (base : List Entry) (records : List Record) (n : ℕ) → length (operations ts base records n) ≤ n + 1
few_operations ts base records n =
    let few = few_commits ts (loaded base) (take n records) in
    let size = few_taken n records in
    omega arith

-- those of fewer records are the first of them
pub first_operations : (ts : List Table) (base : List Entry) (records : List Record) (n m : ℕ) → n ≤ m → operations ts base records n ≡ take (n + 1) (operations ts base records m)
first_operations ts base records n m le =
    let same : commits_from ts (loaded base) (take n records) ≡ take n (commits_from ts (loaded base) (take m records)) =
    ap (commits_from ts (loaded base)) (sym (take-take n m records le)) ∙ sym (first_commits ts (loaded base) n (take m records)) in
    let number : suc n ≡ n + 1 = omega arith in
    ap (λ l. Load base ∷ l) same ∙ ap (λ k. take k (operations ts base records m)) number

-- so they begin them
pub prefix_operations : (ts : List Table) (base : List Entry) (records : List Record) (n m : ℕ) → n ≤ m → IsPrefix (operations ts base records n) (operations ts base records m)
prefix_operations ts base records n m le =
    subst (λ l. IsPrefix l (operations ts base records m)) (sym (first_operations ts base records n m le)) (prefix_take (n + 1) (operations ts base records m))

-- more records behind them leave them
pub same_operations : (ts : List Table) (base : List Entry) (records more : List Record) (n : ℕ) → n ≤ length records → operations ts base (records ++ more) n ≡ operations ts base records n
same_operations ts base records more n within = ap (λ l. Load base ∷ commits_from ts (loaded base) l) (take-append-le n records more within)

-- those of all records
pub all_operations : (ts : List Table) (base : List Entry) (records : List Record) (n : ℕ) → length records ≡ n → operations ts base records n ≡ Load base ∷ commits_from ts (loaded base) records
all_operations ts base records n size = ap (λ l. Load base ∷ commits_from ts (loaded base) l) (take_all n records (omega (arith, size)))
