-- What a publication does to a copy.
use Rattle.std.proofs.Common.{◌≡◌, ℕ, ◌+◌, ◌-◌, ◌≤◌, ◌==◌, ◌||◌, Bool, false, List, [], ◌∷◌, ◌++◌, length, drop, map, fold, refl, sym, ap, subst, ◌∙◌, Option, Some, IfSome, arith, append_assoc}
use Rattle.std.proofs.Common.{length-append}
use Rattle.std.proofs.Math.Seq.{drop-length, drop-nil}
use Rattle.std.proofs.lemmas.List.{append-nil, drop-append-le, length-drop}
use Rattle.std.proofs.lemmas.List.Sums.{fold-append}
use Rattle.rows.specs.Database.{Database}
use Rattle.store_trait.specs.declared.Op.{Op}
use Rattle.store_trait.specs.declared.Op.TheVariants.{Commit}
use Rattle.store_trait.specs.Batch.{Entry, put_batches}
use Rattle.store_trait.specs.Operation.{batch_of, left_by}
use Rattle.scheduler.specs.Gnos.{has_gno, low_of}
use Rattle.scheduler.proofs.Gnos.{has_gno-push, low_of_same}
use Rattle.published.specs.History.{IsHistory, IsWithin, MayAppend, gnos_of, commits_in}
use Rattle.published.specs.VersionValue.{VersionValue}
use Rattle.published.specs.Copies.{after_step, puts_in, Settles}
use Rattle.published.specs.Publication.{Publishing, unsaid, IsTied}
use Rattle.published.specs.declared.version.CopyStep.{CopyStep}
use Rattle.published.specs.declared.version.CopyStep.TheVariants.{Put, Note}
use Rattle.store_trait.proofs.Batches.{left_by-append}
use Rattle.published.proofs.Histories.{begun, history_put, put_is_new, commits_in-with, gnos_of-append, no_gnos}

module _ {J : Type 0} where
  -- a step that puts an operation adds it
  pub puts_in-put : (steps : List (CopyStep J)) (op : Op) → puts_in (steps ++ Put op ∷ []) ≡ puts_in steps ++ op ∷ []
  puts_in-put [] op = refl
  puts_in-put (Put first ∷ steps) op = ap (λ l. first ∷ l) (puts_in-put steps op)
  puts_in-put (Note ops ∷ steps) op = puts_in-put steps op

  -- a step that notes what was published adds none
  pub puts_in-note : (steps : List (CopyStep J)) (ops : List Op) → puts_in (steps ++ Note ops ∷ []) ≡ puts_in steps
  puts_in-note [] ops = refl
  puts_in-note (Put first ∷ steps) ops = ap (λ l. first ∷ l) (puts_in-note steps ops)
  puts_in-note (Note others ∷ steps) ops = puts_in-note steps ops

  rows_after : (steps : List (CopyStep J)) (held : VersionValue) → (fold after_step held steps).rows ≡ put_batches (map batch_of (puts_in steps)) held.rows
  rows_after [] held = refl
  rows_after (Put op ∷ steps) held = rows_after steps (after_step {J = J} held (Put op))
  rows_after (Note ops ∷ steps) held = rows_after steps (after_step {J = J} held (Note ops))

  -- what waits, and then the note
  noted : (steps : List (CopyStep J)) (held : VersionValue) (ops : List Op) → fold after_step held (steps ++ Note ops ∷ [])
      ≡ record { rows = put_batches (map batch_of (puts_in steps)) held.rows; by = ops }
  noted steps held ops = fold-append after_step held steps (Note ops ∷ []) ∙ ap (λ db. record { rows = db; by = ops }) (rows_after steps held)

  -- the steps of a publication leave what its operations leave
  pub settles : (rows : Database) (published all : List Op) (steps after : List (CopyStep J)) → rows ≡ left_by published → all ≡ published ++ puts_in steps → after ≡ steps ++ Note all ∷ []
      → Settles (record { rows = rows; by = published }) after
  settles rows published all steps after left whole is =
      let done = ap (fold after_step (record { rows = rows; by = published })) is ∙ noted steps (record { rows = rows; by = published }) all in
      let same : put_batches (map batch_of (puts_in steps)) rows ≡ left_by all =
      ap (put_batches (map batch_of (puts_in steps))) left ∙ sym (left_by-append published (puts_in steps)) ∙ ap left_by (sym whole) in
      ap (λ (h : VersionValue). h.rows) done ∙ same ∙ ap (λ (h : VersionValue). left_by h.by) (sym done)

  -- and then these are the operations
  pub published_after : (rows : Database) (published all : List Op) (steps after : List (CopyStep J)) → after ≡ steps ++ Note all ∷ []
      → (fold after_step (record { rows = rows; by = published }) after).by ≡ all
  published_after rows published all steps after is =
      ap (λ (h : VersionValue). h.by) (ap (fold after_step (record { rows = rows; by = published })) is ∙ noted steps (record { rows = rows; by = published }) all)

module _ {preserve : Bool} {known : Option (List Op)} {rows : Database} {p : Publishing} {gnos : List ℕ} (tied : IsTied preserve known rows p gnos) where
  -- the history has no more than what is published and what waits
  known_within : length p.history - length p.published ≤ length p.waiting
  known_within =
      let sizes = ap length tied.whole in
      omega (arith, length-append p.history (unsaid p), length-append p.published p.waiting, length-drop (length p.history - length p.published) p.waiting, sizes)

  -- a commit that may be appended has a number that is not noted
  pub new_number : {op : Op} {gno : ℕ} {batch : List Entry} → op ≡ Commit gno batch → MayAppend preserve (p.published ++ p.waiting) op → (1 ≤ gno) × (has_gno gnos gno ≡ false)
  new_number {gno = gno} {batch = batch} is may =
      let new = put_is_new preserve (p.published ++ p.waiting) gno batch tied.history (subst (MayAppend preserve (p.published ++ p.waiting)) is may) in
      (new.0, tied.has gno ∙ new.1)

  -- one more commit waits
  pub tied_put : {op : Op} {gno : ℕ} {batch : List Entry} {longer : List Op} (more : List ℕ) → op ≡ Commit gno batch → MayAppend preserve (p.published ++ p.waiting) op
      → IsWithin known (p.published ++ p.waiting ++ op ∷ []) → longer ≡ p.waiting ++ op ∷ [] → ((g : ℕ) → has_gno more g ≡ (has_gno gnos g || (gno == g))) → length more ≡ length gnos + 1
      → IsTied preserve known rows (record p { waiting = longer }) more
  tied_put {op = op} {gno = gno} {longer = longer} more is may within waits has count =
      let all : p.published ++ longer ≡ (p.published ++ p.waiting) ++ op ∷ [] = ap (λ l. p.published ++ l) waits ∙ sym (append_assoc p.published p.waiting (op ∷ [])) in
      let some : 1 ≤ length (p.published ++ p.waiting) = begun preserve (p.published ++ p.waiting) tied.history in record {
        left = tied.left;
        begun = tied.begun;
        history = subst (IsHistory preserve) (sym all) (history_put preserve (p.published ++ p.waiting) op tied.history may);
        has = λ g.
            has g
            ∙ ap (λ b. b || (gno == g)) (tied.has g)
            ∙ sym (has_gno-push (gnos_of (p.published ++ p.waiting)) gno g)
            ∙ ap (λ l. has_gno (gnos_of (p.published ++ p.waiting) ++ l) g) (sym (ap (λ o. gnos_of (o ∷ [])) is))
            ∙ ap (λ l. has_gno l g) (sym (gnos_of-append (p.published ++ p.waiting) (op ∷ [])) ∙ ap gnos_of (sym all));
        number = count ∙ ap (λ n. n + 1) tied.number ∙ sym (ap commits_in all ∙ commits_in-with (p.published ++ p.waiting) (op ∷ []) some);
        whole =
            let known = length p.history - length p.published in
            ap (λ l. p.history ++ drop known l) waits
            ∙ ap (λ l. p.history ++ l) (drop-append-le known p.waiting (op ∷ []) known_within)
            ∙ sym (append_assoc p.history (unsaid p) (op ∷ []))
            ∙ ap (λ l. l ++ op ∷ []) tied.whole
            ∙ sym all;
        within = subst (IsWithin known) (sym all) within;
      }

  -- all that waits is in the history
  pub tied_known : {all : List Op} → all ≡ p.published ++ p.waiting → IsTied preserve known rows (record p { history = all }) gnos
  tied_known {all = all} whole = record {
    left = tied.left;
    begun = tied.begun;
    history = tied.history;
    has = tied.has;
    number = tied.number;
    whole =
        let none : drop (length all - length p.published) p.waiting ≡ [] =
        ap (λ n. drop n p.waiting) (omega (arith, ap length whole, length-append p.published p.waiting)) ∙ drop-length p.waiting in
        ap (λ l. all ++ l) none ∙ append-nil all ∙ whole;
    within = tied.within;
  }

  -- all that waited is published
  pub tied_shown : {rows' : Database} {by : List Op} → p.history ≡ p.published ++ p.waiting → rows' ≡ left_by by → by ≡ p.history
      → IsTied preserve known rows' (record { published = by; waiting = []; history = p.history }) gnos
  tied_shown {by = by} whole left same =
      let both : by ++ [] ≡ p.published ++ p.waiting = append-nil by ∙ same ∙ whole in record {
        left = left;
        begun = subst (λ (l : List Op). 1 ≤ length l) (sym (same ∙ whole)) (begun preserve (p.published ++ p.waiting) tied.history);
        history = subst (IsHistory preserve) (sym both) tied.history;
        has = λ g. tied.has g ∙ ap (λ l. has_gno (gnos_of l) g) (sym both);
        number = tied.number ∙ ap commits_in (sym both);
        whole = ap (λ l. p.history ++ l) (drop-nil (length p.history - length by)) ∙ ap (λ l. l ++ []) (sym same);
        within = subst (IsWithin known) (sym both) tied.within;
      }

  -- The history, and then what is not in it, is all that was appended: a history, whose number of commits and whose mark are those of what
  -- was noted.
  pub whole_history : IsHistory preserve (p.history ++ unsaid p)
  whole_history = subst (IsHistory preserve) (sym tied.whole) tied.history

  -- a beginning of all that ever may be published
  pub whole_within : IsWithin known (p.history ++ unsaid p)
  whole_within = subst (IsWithin known) (sym tied.whole) tied.within

  -- as many are noted as are commits in the history and in what waits and is not in it
  pub whole_number : {count : ℕ} → count ≡ length gnos → count ≡ commits_in (p.history ++ unsaid p)
  whole_number is = is ∙ tied.number ∙ ap commits_in (sym tied.whole)

  -- and the mark is theirs
  pub whole_mark : {upto : ℕ} → upto ≡ low_of gnos → upto ≡ low_of (gnos_of (p.history ++ unsaid p))
  whole_mark is = is ∙ low_of_same gnos (gnos_of (p.published ++ p.waiting)) (λ g some. tied.has g) ∙ ap (λ l. low_of (gnos_of l)) (sym tied.whole)

-- at first nothing is noted
pub tied_begun : (preserve : Bool) (known : Option (List Op)) (rows : Database) (load : List Op) (gnos : List ℕ) → IsHistory preserve load → commits_in load ≡ 0 → IsWithin known load
    → rows ≡ left_by load → gnos ≡ [] → IsTied preserve known rows (record { published = load; waiting = []; history = load }) gnos
tied_begun preserve known rows load gnos h none within left is = record {
  left = left;
  begun = begun preserve load h;
  history = subst (IsHistory preserve) (sym (append-nil load)) h;
  has = λ g. ap (λ l. has_gno l g) (is ∙ sym (no_gnos preserve load h none) ∙ ap gnos_of (sym (append-nil load)));
  number = ap (λ (l : List ℕ). length l) is ∙ sym none ∙ ap commits_in (sym (append-nil load));
  whole = ap (λ l. load ++ l) (drop-nil (length load - length load));
  within = subst (IsWithin known) (sym (append-nil load)) within;
}

-- a publisher is what is published, what waits, and the history
pub same_publishing : (a b : Publishing) → a.published ≡ b.published → a.waiting ≡ b.waiting → a.history ≡ b.history → a ≡ b
same_publishing a b p w h i = record { published = p i; waiting = w i; history = h i }

-- what an extended history has
pub found : (p q : Publishing) (all : List Op) (told : Option (List Op)) → p ≡ q → told ≡ Some all → IfSome told (λ l. l ≡ q.published ++ q.waiting) → all ≡ p.published ++ p.waiting
found p q all told same is all_of = subst (λ o. IfSome o (λ l. l ≡ q.published ++ q.waiting)) is all_of ∙ ap (λ v. v.published ++ v.waiting) (sym same)
