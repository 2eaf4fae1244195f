-- Commits that are appended to the rows that readers see: their numbers, and that they may be.
use Rattle.std.proofs.Common.{◌≡◌, ◌∙◌, sym, ap, subst, refl, ℕ, zero, suc, ◌+◌, ◌-◌, ◌<◌, ◌≤◌, Bool, true, false, ◌||◌, ◌==◌, List, [], ◌∷◌, ◌++◌, append_assoc, length, length-append, map, get_or}
use Rattle.std.proofs.Common.{take, drop, Some, None, arith, add-zero}
use Rattle.std.specs.Prelude.{option_and_then, slice_get}
use Rattle.std.specs.Option.{option_map_or}
use Rattle.std.proofs.Math.Bool.{or-false, or_assoc}
use Rattle.std.proofs.lemmas.List.{append-nil, map-append, length-map, length-take-le, take_more}
use Rattle.std.proofs.lemmas.Bool.{or_right}
use Rattle.std.proofs.lemmas.Option.{none-some, slice_get_read}
use Rattle.schema.specs.declared.Table.{Table}
use Rattle.schema.proofs.Lists.{get_within}
use Rattle.rows.specs.Database.{Database, effect, writes}
use Rattle.store_trait.specs.Batch.{Entry, rows_in}
use Rattle.store_trait.specs.declared.Op.{Op}
use Rattle.store_trait.specs.declared.Op.TheVariants.{Load, Commit}
use Rattle.store_trait.specs.Operation.{batch_of}
use Rattle.record_codec.specs.declared.records.Record.{Record}
use Rattle.record_codec.specs.Group.{AreNumbered}
use Rattle.record_codec.specs.Log.{after}
use Rattle.scheduler.specs.Gnos.{has_gno, AreDistinct}
use Rattle.scheduler.proofs.Gnos.{has_gno-append, has_gno_first, distinct_between}
use Rattle.gapped.specs.Gapped.{records_at}
use Rattle.gapped.proofs.Choosing.{AreWithin, number_at, records_at_first}
use Rattle.replica_core.specs.Replica.{commits_from}
use Rattle.published.specs.Plain.{Shown, MayFollow, HasAdded}
use Rattle.published.specs.History.{IsCommit, CommitsFrom, AreNew, gnos_of}
use Rattle.published.proofs.Histories.{commit_at, gnos_of-append}
use Rattle.world.specs.Appended.{MayAppendAll, AppendsAll}

one_more : (a b : ℕ) → (a + 1) + b ≡ a + suc b
one_more a b = omega arith

-- ---- the numbers of commits

-- the operations are commits of these numbers
abbrev pub HaveGnos : List Op → List ℕ → Type 0
HaveGnos [] [] = Unit {0}
HaveGnos [] (n ∷ gnos) = ⊥
HaveGnos (op ∷ ops) [] = ⊥
HaveGnos (Load base ∷ ops) (n ∷ gnos) = ⊥
HaveGnos (Commit gno batch ∷ ops) (n ∷ gnos) = (gno ≡ n) × HaveGnos ops gnos

pub have_take : (n : ℕ) (ops : List Op) (gnos : List ℕ) → HaveGnos ops gnos → HaveGnos (take n ops) (take n gnos)
have_take zero ops gnos h = tt
have_take (suc n) [] [] h = tt
have_take (suc n) [] (g ∷ gnos) h = absurd h
have_take (suc n) (op ∷ ops) [] h = absurd h
have_take (suc n) (Load base ∷ ops) (g ∷ gnos) h = absurd h
have_take (suc n) (Commit gno batch ∷ ops) (g ∷ gnos) h = (h.0, have_take n ops gnos h.1)

pub have_drop : (n : ℕ) (ops : List Op) (gnos : List ℕ) → HaveGnos ops gnos → HaveGnos (drop n ops) (drop n gnos)
have_drop zero ops gnos h = h
have_drop (suc n) [] [] h = tt
have_drop (suc n) [] (g ∷ gnos) h = absurd h
have_drop (suc n) (op ∷ ops) [] h = absurd h
have_drop (suc n) (Load base ∷ ops) (g ∷ gnos) h = absurd h
have_drop (suc n) (Commit gno batch ∷ ops) (g ∷ gnos) h = have_drop n ops gnos h.1

pub have_are : (ops : List Op) (gnos : List ℕ) → HaveGnos ops gnos → gnos_of ops ≡ gnos
have_are [] [] h = refl
have_are [] (g ∷ gnos) h = absurd h
have_are (op ∷ ops) [] h = absurd h
have_are (Load base ∷ ops) (g ∷ gnos) h = absurd h
have_are (Commit gno batch ∷ ops) (g ∷ gnos) h = (λ i. h.0 i ∷ have_are ops gnos h.1 i)

-- the commits of records that apply have the records' numbers
pub commits_have : (ts : List Table) (db : Database) (records : List Record) (left : Database) → after ts db records ≡ Some left →
    HaveGnos (commits_from ts db records) (map (λ (r : Record). r.gno) records)
commits_have ts db [] left e = tt
commits_have ts db (r ∷ records) left e =
    elim (effect ts r.changes db) as (λ o. option_and_then (λ d. after ts d records) o ≡ Some left →
    HaveGnos (option_map_or (λ leaves. Commit r.gno (rows_in (writes r.changes) leaves) ∷ commits_from ts leaves records) o []) (map (λ (x : Record). x.gno) (r ∷ records))) [
      | None ↦ λ h. absurd (none-some left h)
      | Some leaves ↦ λ h. (refl, commits_have ts leaves records left h)
    ] e

-- the records of numbers have these
pub numbers_at : (log : List Record) (gnos : List ℕ) → AreNumbered 1 log → AreWithin gnos log → map (λ (r : Record). r.gno) (records_at log gnos) ≡ gnos
numbers_at log [] numbered within = refl
numbers_at log (gno ∷ gnos) numbered within =
    let here = within gno (has_gno_first gno gnos) in
    let found = get_within log (gno - 1) (omega (arith, here.0, here.1)) in
    let number : found.0.gno ≡ gno = number_at log (gno - 1) found.0 numbered found.1 ∙ back gno here.0 in
    ap (map (λ (r : Record). r.gno)) (records_at_first log gno gnos found.0 found.1)
    ∙ (λ i. number i ∷ numbers_at log gnos numbered (λ n is. within n (or_right (gno == n) (has_gno gnos n) is)) i) where
      back : (n : ℕ) → 1 ≤ n → (n - 1) + 1 ≡ n
      back n some = omega (arith, some)

-- ---- commits in the order of the log

-- the commits of numbered records are numbered
pub commits_numbered : (ts : List Table) (db : Database) (n : ℕ) (records : List Record) → AreNumbered n records → CommitsFrom n (commits_from ts db records)
commits_numbered ts db n [] h = tt
commits_numbered ts db n (r ∷ records) h =
    elim (effect ts r.changes db) as (λ o. CommitsFrom n (option_map_or (λ leaves. Commit r.gno (rows_in (writes r.changes) leaves) ∷ commits_from ts leaves records) o [])) [
      | None ↦ tt
      | Some leaves ↦ (h.0, commits_numbered ts leaves (n + 1) records h.1)
    ]

-- those behind some of them are numbered on
pub drop_numbered : (n k : ℕ) (ops : List Op) → CommitsFrom n ops → CommitsFrom (n + k) (drop k ops)
drop_numbered n zero ops h = subst (λ (m : ℕ). CommitsFrom m ops) (sym (add-zero n)) h
drop_numbered n (suc k) [] h = tt
drop_numbered n (suc k) (op ∷ ops) h = subst (λ (m : ℕ). CommitsFrom m (drop k ops)) (one_more n k) (drop_numbered (n + 1) k ops h.1)

-- ---- commits of other numbers

-- commits of numbers that are distinct, also from those before them
pub are_new : (gone : List ℕ) (ops : List Op) (gnos : List ℕ) → HaveGnos ops gnos → AreDistinct (gone ++ gnos) → ((gno : ℕ) → has_gno gnos gno ≡ true → 1 ≤ gno) → AreNew gone ops
are_new gone [] [] h apart some = tt
are_new gone [] (g ∷ gnos) h apart some = absurd h
are_new gone (op ∷ ops) [] h apart some = absurd h
are_new gone (Load base ∷ ops) (g ∷ gnos) h apart some = absurd h
are_new gone (Commit gno batch ∷ ops) (g ∷ gnos) h apart some =
    let rest = are_new (gone ++ g ∷ []) ops gnos h.1 (subst AreDistinct (sym (append_assoc gone (g ∷ []) gnos)) apart) (λ n is. some n (or_right (g == n) (has_gno gnos n) is)) in (
      subst (λ (n : ℕ). 1 ≤ n) (sym h.0) (some g (has_gno_first g gnos)),
      ap (has_gno gone) h.0 ∙ distinct_between gone g gnos apart,
      subst (λ (n : ℕ). AreNew (gone ++ n ∷ []) ops) (sym h.0) rest,
    )

-- it is of the set of those before, and not of their list
pub new_same : (gone others : List ℕ) (ops : List Op) → ((gno : ℕ) → has_gno others gno ≡ has_gno gone gno) → AreNew gone ops → AreNew others ops
new_same gone others [] same h = tt
new_same gone others (Load base ∷ ops) same h = absurd h
new_same gone others (Commit gno batch ∷ ops) same h = (
  h.0,
  same gno ∙ h.1,
  new_same (gone ++ gno ∷ []) (others ++ gno ∷ []) ops (λ n. has_gno-append others (gno ∷ []) n ∙ ap (λ (b : Bool). b || has_gno (gno ∷ []) n) (same n) ∙ sym (has_gno-append gone (gno ∷ []) n)) h.2,
)

-- the one whose turn it is has a number that none has of those before it
new_at : {R : Type 0} (now : Shown R) (gone : List ℕ) (ops : List Op) (i : ℕ) (op : Op) → AreNew gone ops → slice_get ops i ≡ Some op →
    ((gno : ℕ) → has_gno now.gnos gno ≡ (has_gno gone gno || has_gno (gnos_of (take i ops)) gno)) → MayFollow false now op
new_at now gone [] i op h at are = absurd (none-some op at)
new_at now gone (Load base ∷ ops) i op h at are = absurd h
new_at now gone (Commit gno batch ∷ ops) zero op h at are =
    subst (λ (o : Op). MayFollow false now o) (first at) (h.0, are gno ∙ or-false (has_gno gone gno) ∙ h.1) where
      first : Some (Commit gno batch) ≡ Some op → Commit gno batch ≡ op
      first e = cc e
new_at now gone (Commit gno batch ∷ ops) (suc i) op h at are = new_at now (gone ++ gno ∷ []) ops i op h.2 at (λ n.
    are n ∙ ap (λ (b : Bool). has_gno gone n || b) (has_gno-append (gno ∷ []) (gnos_of (take i ops)) n) ∙ sym (or_assoc (has_gno gone n) (has_gno (gno ∷ []) n) (has_gno (gnos_of (take i ops)) n))
    ∙ ap (λ (b : Bool). b || has_gno (gnos_of (take i ops)) n) (sym (has_gno-append gone (gno ∷ []) n)))

-- ---- one after another

pub appends_none : {R : Type 0} (shown : Shown R) → AppendsAll shown shown []
appends_none shown = record {
  leaves = ap (λ (l : List (List Entry)). record shown { waiting = l }) (sym (append-nil shown.waiting));
  gnos = λ gno. sym (or-false (has_gno shown.gnos gno));
}

pub appends_more : {R : Type 0} (old now new : Shown R) (ops : List Op) (i : ℕ) (op : Op) → AppendsAll old now (take i ops) → op ≡ get_or ops i op → i < length ops →
    new ≡ record now { gnos = new.gnos; waiting = now.waiting ++ batch_of op ∷ [] } → HasAdded now.gnos op new.gnos →
    AppendsAll old new (take (i + 1) ops)
appends_more old now new ops i op so_far here within leaves added =
    let taken : take (i + 1) ops ≡ take i ops ++ op ∷ [] = take_more ops i op within ∙ ap (λ (o : Op). take i ops ++ o ∷ []) (sym here) in
    let waits : now.waiting ++ batch_of op ∷ [] ≡ old.waiting ++ map batch_of (take (i + 1) ops) =
    ap (λ (s : Shown _). s.waiting ++ batch_of op ∷ []) so_far.leaves ∙ append_assoc old.waiting (map batch_of (take i ops)) (batch_of op ∷ [])
    ∙ ap (λ (l : List (List Entry)). old.waiting ++ l) (sym (map-append batch_of (take i ops) (op ∷ [])) ∙ ap (map batch_of) (sym taken)) in
    record {
      leaves = leaves ∙ (λ j. record (so_far.leaves j) { gnos = new.gnos; waiting = waits j });
      gnos = λ gno.
          added gno ∙ ap (λ (b : Bool). b || has_gno (gnos_of (op ∷ [])) gno) (so_far.gnos gno)
          ∙ or_assoc (has_gno old.gnos gno) (has_gno (gnos_of (take i ops)) gno) (has_gno (gnos_of (op ∷ [])) gno)
          ∙ ap (λ (b : Bool). has_gno old.gnos gno || b) (sym (has_gno-append (gnos_of (take i ops)) (gnos_of (op ∷ [])) gno)
          ∙ ap (λ (l : List ℕ). has_gno l gno) (sym (gnos_of-append (take i ops) (op ∷ [])) ∙ ap gnos_of (sym taken)));
    }

-- what an append asks of the operation whose turn it is
pub append_asks : {R : Type 0} (old now : Shown R) (ops : List Op) (i : ℕ) (op : Op) → MayAppendAll old.preserve old ops → AppendsAll old now (take i ops) → op ≡ get_or ops i op → i < length ops →
    MayFollow now.preserve now op
append_asks {R} old now ops i op may so_far here within = subst (λ (b : Bool). MayFollow b now op) (sym order) (by old.preserve may) where
  order : now.preserve ≡ old.preserve
  order = ap (λ (s : Shown R). s.preserve) so_far.leaves

  at : slice_get ops i ≡ Some op
  at = slice_get_read ops (length ops) i op refl within here

  long : length now.waiting ≡ length old.waiting + i
  long =
      ap (λ (s : Shown R). length s.waiting) so_far.leaves ∙ length-append old.waiting (map batch_of (take i ops))
      ∙ ap (λ n. length old.waiting + n) (length-map (take i ops) batch_of ∙ length-take-le i ops (omega (arith, within)))

  upto : now.upto ≡ old.upto
  upto = ap (λ (s : Shown R). s.upto) so_far.leaves

  by : (b : Bool) → MayAppendAll b old ops → MayFollow b now op
  by true h = subst (λ (n : ℕ). IsCommit op n) (omega (arith, long, upto)) (commit_at (old.upto + length old.waiting + 1) ops i op h at)
  by false h = new_at now old.gnos ops i op h at so_far.gnos
