-- Over a legal log each gapped state is there and fits, and the records that wait are good over it.
use Rattle.std.proofs.Common.{◌≡◌, ◌∙◌, sym, ap, subst, refl, true, false, inl, inr, append_assoc, ℕ, List, [], ◌∷◌, ◌++◌, Some}
use Rattle.std.proofs.lemmas.Bool.{cases_Bool}
use Rattle.std.proofs.lemmas.Option.{same_Some}
use Rattle.std.proofs.lemmas.List.{append-nil}
use Rattle.schema.specs.declared.Table.{Table}
use Rattle.rows.specs.Database.{Database, ChildrenHaveParents, NoValueTwice}
use Rattle.record_codec.specs.declared.records.Record.{Record}
use Rattle.record_codec.specs.Log.{after, IsLegalNext, IsLegalLog}
use Rattle.record_codec.proofs.Logs.{after-push}
use Rattle.executor.specs.Laws.{IsGood}
use Rattle.scheduler.specs.Gnos.{has_gno}
use Rattle.gapped.specs.Gapped.{chosen, gapped, AreChosen, IsClosed}
use Rattle.gapped.specs.Laws.{LegalIsGapped, WaitingIsGood}
use Rattle.gapped.proofs.Choosing.{chosen-append, chosen_here, not_chosen_here}
use Rattle.gapped.proofs.Alongside.{AreAlongside, alongside_base, alongside_passed, alongside_taken}

-- the chosen records of a log with one more, which is chosen or not
chosen-push : (gnos : List ℕ) (log : List Record) (next : Record) →
    has_gno gnos next.gno ≡ true → chosen gnos (log ++ next ∷ []) ≡ chosen gnos log ++ next ∷ []
chosen-push gnos log next is =
    chosen-append gnos log (next ∷ []) ∙ ap (λ l. chosen gnos log ++ l) (chosen_here gnos next [] is)

chosen-pass : (gnos : List ℕ) (log : List Record) (next : Record) →
    has_gno gnos next.gno ≡ false → chosen gnos (log ++ next ∷ []) ≡ chosen gnos log
chosen-pass gnos log next new =
    chosen-append gnos log (next ∷ []) ∙ ap (λ l. chosen gnos log ++ l) (not_chosen_here gnos next [] new) ∙ append-nil (chosen gnos log)

-- what the records of a log left, and what the chosen ones left, where each child has its parent if each had it in the base
record Sides (ts : List Table) (base : Database) (gnos : List ℕ) (log : List Record) : Type 0 where
  whole : Database
  left : Database
  is_whole : after ts base log ≡ Some whole
  is_left : gapped ts base log gnos ≡ Some left
  along : AreAlongside ts gnos log whole left
  parents : ChildrenHaveParents ts base → ChildrenHaveParents ts left

-- with a legal record more
next_sides : (ts : List Table) (base : Database) (gnos : List ℕ) (log : List Record) (next : Record) → Sides ts base gnos log →
    IsLegalNext ts base log next → (has_gno gnos next.gno ≡ true → AreChosen gnos log next) → Sides ts base gnos (log ++ next ∷ [])
next_sides ts base gnos log next sides legal closed =
    let over : IsGood ts next legal.before =
    record { leaves = legal.leaves; applies = legal.applies; refs = legal.refs; marks = legal.marks } in
    let same : sides.whole ≡ legal.before = same_Some sides.whole legal.before (sym sides.is_whole ∙ legal.is_before) in
    let along = subst (λ (db : Database). AreAlongside ts gnos log db sides.left) same sides.along in
    let is_whole : after ts base (log ++ next ∷ []) ≡ Some legal.leaves =
    after-push ts base legal.before log next legal.is_before ∙ legal.applies in
    elim (cases_Bool (has_gno gnos next.gno)) [
      | inl is ↦
          let both = alongside_taken ts gnos log legal.before sides.left next along (closed is) over legal.parents is in
          record {
            whole = legal.leaves;
            left = both.leaves;
            is_whole = is_whole;
            is_left = ap (after ts base) (chosen-push gnos log next is)
                ∙ after-push ts base sides.left (chosen gnos log) next sides.is_left ∙ both.applies;
            along = both.along;
            parents = λ had. both.parents (sides.parents had);
          }
      | inr new ↦ record {
        whole = legal.leaves;
        left = sides.left;
        is_whole = is_whole;
        is_left = ap (after ts base) (chosen-pass gnos log next new) ∙ sides.is_left;
        along = alongside_passed ts gnos log legal.before sides.left next along over new;
        parents = sides.parents;
      }
    ]

-- with all others
further_sides : (ts : List Table) (base : Database) (gnos : List ℕ) (front rest : List Record) → Sides ts base gnos front →
    IsLegalLog ts base (front ++ rest) → IsClosed gnos (front ++ rest) → Sides ts base gnos (front ++ rest)
further_sides ts base gnos front [] sides legal closed = subst (Sides ts base gnos) (sym (append-nil front)) sides
further_sides ts base gnos front (next ∷ rest) sides legal closed =
    let regrouped : front ++ next ∷ rest ≡ (front ++ next ∷ []) ++ rest = sym (append_assoc front (next ∷ []) rest) in
    let one = next_sides ts base gnos front next sides (legal front next rest refl) (closed front next rest refl) in
    subst (Sides ts base gnos) (sym regrouped)
    (further_sides ts base gnos (front ++ next ∷ []) rest one
    (subst (λ (l : List Record). IsLegalLog ts base l) regrouped legal) (subst (λ (l : List Record). IsClosed gnos l) regrouped closed))

sides_of : (ts : List Table) (base : Database) (log : List Record) (gnos : List ℕ) → NoValueTwice ts base → IsLegalLog ts base log →
    IsClosed gnos log → Sides ts base gnos log
sides_of ts base log gnos apart legal closed =
    let none : Sides ts base gnos [] =
    record {
      whole = base;
      left = base;
      is_whole = refl;
      is_left = refl;
      along = alongside_base ts gnos base apart;
      parents = λ had. had;
    } in
    further_sides ts base gnos [] log none legal closed

pub legal_is_gapped : LegalIsGapped
legal_is_gapped ts base log gnos fit legal closed =
    let sides = sides_of ts base log gnos fit.apart legal closed in
    record {
      left = sides.left;
      rows = sides.is_left;
      fit = record { parents = sides.parents fit.parents; apart = sides.along.left_apart };
    }

pub waiting_is_good : WaitingIsGood
waiting_is_good ts base log gnos rec db apart legal closed waits is =
    let sides = sides_of ts base log gnos apart legal closed in
    subst (λ (d : Database). IsGood ts rec d) (same_Some sides.left db (sym sides.is_left ∙ is))
    (sides.along.waiting waits.front rec waits.rest waits.split waits.new waits.chosen_)
