-- Records whose numbers are moved: they leave the same, and are covered by their parents.
use Rattle.std.proofs.Common.{◌≡◌, ◌∙◌, sym, ap, subst, refl, ℕ, ◌+◌, ◌-◌, ◌≤◌, true, max, List, [], ◌∷◌, ◌++◌, length, map, Option, Some, None, arith}
use Rattle.std.specs.Prelude.{option_and_then}
use Rattle.std.specs.List.{list_all}
use Rattle.std.proofs.lemmas.List.{map-append}
use Rattle.schema.specs.declared.Table.{Table}
use Rattle.schema.specs.Rows.{Touched, conflicts}
use Rattle.schema.specs.Covering.{Covers}
use Rattle.schema.proofs.Covers.{covers_at_end}
use Rattle.schema.proofs.Lists.{AllByRecursion-append, AllByRecursion-behind, AllByRecursion-map}
use Rattle.rows.specs.Database.{Database, effect}
use Rattle.rows.specs.Shape.{is_shaped}
use Rattle.record_codec.specs.declared.records.Record.{Record}
use Rattle.record_codec.specs.Log.{after, place_of}
use Rattle.record_codec.proofs.Logs.{after-append}
use Rattle.moved_numbers.specs.Moved.{ahead, behind, moved, BackAgain, ParentAtLeast, MovedTwice, MovedLeaves, MovedIsShaped}
use Rattle.moved_numbers.proofs.Nexts.{EachNext, numbered_within}

-- ---- one record

same_numbers : (r : Record) (g h s t p q : ℕ) → g ≡ h → s ≡ t → p ≡ q → record r { gno = g; sequence = s; parent = p } ≡ record r { gno = h; sequence = t; parent = q }
same_numbers r g h s t p q gno sequence parent = cc

pub back_again : BackAgain
back_again n r = same_numbers r (n + r.gno - n) r.gno (n + r.sequence - n) r.sequence (n + r.parent - n) r.parent (omega arith) (omega arith) (omega arith)

pub parent_at_least : ParentAtLeast
parent_at_least n r gno sequence =
    same_numbers r (n + (r.gno - n)) r.gno (n + (r.sequence - n)) r.sequence (n + (r.parent - n)) (max n r.parent) (omega arith) (omega arith) (omega arith)

pub moved_twice : MovedTwice
moved_twice a b c d r le =
    same_numbers r (d + (b + (r.gno - a) - c)) (d + b - c + (r.gno - a)) (d + (b + (r.sequence - a) - c)) (d + b - c + (r.sequence - a))
    (d + (b + (r.parent - a) - c)) (d + b - c + (r.parent - a)) (omega arith) (omega arith) (omega arith)

pub all_back : (n : ℕ) (log : List Record) → map (ahead n) (map (behind n) log) ≡ log
all_back n [] = refl
all_back n (r ∷ log) = let one = back_again n r in let others = all_back n log in cc

-- ---- what they leave

same_steps : {A : Type 0} (f g : A → Option A) → ((x : A) → f x ≡ g x) → (o : Option A) → option_and_then f o ≡ option_and_then g o
same_steps f g h None = refl
same_steps f g h (Some x) = h x

pub after-map : (f : Record → Record) → ((r : Record) → (f r).changes ≡ r.changes) → (ts : List Table) (log : List Record) (db : Database) → after ts db (map f log) ≡ after ts db log
after-map f same ts [] db = refl
after-map f same ts (r ∷ log) db =
    ap (λ changes. option_and_then (λ d. after ts d (map f log)) (effect ts changes db)) (same r)
    ∙ same_steps (λ d. after ts d (map f log)) (λ d. after ts d log) (after-map f same ts log) (effect ts r.changes db)

pub moved_leaves : MovedLeaves
moved_leaves ts db n m log = after-map (moved n m) (λ _. refl) ts log db

pub moved_is_shaped : MovedIsShaped
moved_is_shaped ts n m log all = AllByRecursion-map (moved n m) (λ made. list_all (is_shaped ts) made.changes ≡ true) log all

-- what comes after records that leave these rows
pub after-rest : (ts : List Table) (base mid : Database) (front rest : List Record) → after ts base front ≡ Some mid → after ts base (front ++ rest) ≡ after ts mid rest
after-rest ts base mid front rest leaves = after-append ts base front rest ∙ ap (option_and_then (λ db. after ts db rest)) leaves

-- ---- parents

covers-ahead : (n parent : ℕ) (rows : Touched) (log : List Record) → Covers (map place_of log) rows parent → Covers (map place_of (map (ahead n) log)) rows (parent - n)
covers-ahead n parent rows [] all = tt
covers-ahead n parent rows (r ∷ log) all = (λ h. let le : r.sequence ≤ parent = all.0 h in omega arith, covers-ahead n parent rows log all.1)

covers-behind : (n parent : ℕ) (rows : Touched) (log : List Record) → Covers (map place_of log) rows parent → Covers (map place_of (map (behind n) log)) rows (n + parent)
covers-behind n parent rows [] all = tt
covers-behind n parent rows (r ∷ log) all = (λ h. let le : r.sequence ≤ parent = all.0 h in omega arith, covers-behind n parent rows log all.1)

-- the conflict of a record before with these rows is no later than the parent
abbrev pub IsUnder : Touched → ℕ → ℕ × Touched → Type 0
IsUnder rows parent before = conflicts before.1 rows ≡ true → before.0 ≤ parent

pub covers_rest : (parent : ℕ) (rows : Touched) (front rest : List Record) → Covers (map place_of (front ++ rest)) rows parent →
    Covers (map place_of (map (ahead (length front)) rest)) rows (parent - length front)
covers_rest parent rows front rest all =
    covers-ahead (length front) parent rows rest
    (AllByRecursion-behind (IsUnder rows parent) (map place_of front) (map place_of rest)
    (subst (λ l. Covers l rows parent) (map-append place_of front rest) all))

pub covers_after : (parent : ℕ) (rows : Touched) (front log : List Record) → EachNext (λ done next. next.sequence ≡ 0 + length done + 1) front →
    Covers (map place_of log) rows parent → Covers (map place_of (front ++ map (behind (length front)) log)) rows (length front + parent)
covers_after parent rows front log numbered all =
    let n = length front in
    subst (λ l. Covers l rows (n + parent)) (sym (map-append place_of front (map (behind n) log)))
    (AllByRecursion-append (IsUnder rows (n + parent)) (map place_of front) (map place_of (map (behind n) log))
    (covers_at_end (map place_of front) rows (n + parent) (numbered_within 0 (n + parent) front numbered (omega arith)))
    (covers-behind n parent rows log all))
