-- Where all of a log is committed, its length is an order parent.
use Rattle.std.proofs.Common.{◌≡◌, ◌∙◌, sym, ap, subst, ℕ, suc, ◌+◌, ◌≤◌, List, [], ◌∷◌, ◌++◌, length, reverse, Some, eqb, refl, arith}
use Rattle.std.specs.List.{AllByRecursion, slice_get}
use Rattle.std.proofs.lemmas.List.{reverse-reverse}
use Rattle.std.proofs.lemmas.Option.{slice_get_within}
use Rattle.log_index.specs.declared.Entry.{Entry}
use Rattle.log_index.specs.declared.Footprint.{Footprint}
use Rattle.log_index.specs.Footprint.{touched}
use Rattle.log_index.specs.Log.{IsNumbered}
use Rattle.log_index.proofs.Places.{length_covers}
use Rattle.tracker_trait.specs.History.{last_of}
use Rattle.tracker_trait.specs.Law.{IsOrderParent, stamped}
use Rattle.writeset_trackers.proofs.Lists.{either_within, of_reverse}

abbrev IsWithin : ℕ → Entry → Type 0
IsWithin n e = e.sequence ≤ n

each_within : (n : ℕ) (log : List Entry) → ((i : ℕ) (e : Entry) → slice_get log i ≡ Some e → e.sequence ≤ n) → AllByRecursion (IsWithin n) log
each_within n [] at = tt
each_within n (e ∷ log) at = (at 0 e refl, each_within n log (λ i next is. at (suc i) next is))

last_within : (n : ℕ) (log : List Entry) (session : ℕ) → AllByRecursion (IsWithin n) log → last_of log session ≤ n
last_within n [] session all = omega arith
last_within n (last ∷ older) session all = either_within (eqb last.session session) last.sequence (last_of older session) n all.0 (last_within n older session all.1)

pub serial : (log : List Entry) (t : Footprint) (session order : ℕ) → IsNumbered log → order ≡ length log → IsOrderParent log t session order
serial log t session order numbered e = record {
  covers = length_covers log (touched t) order numbered (omega (arith, e));
  within = omega (arith, e);
  own = last_within order (reverse log) session (of_reverse (IsWithin order) (reverse log) (subst (AllByRecursion (IsWithin order)) (sym (reverse-reverse log))
      (each_within order log (λ i next is. omega (arith, (numbered i next is).number, slice_get_within log i next is, e)))));
}

-- the log with the transaction behind it
pub logged : (Agrees : List Entry → Type 0) (log new : List Entry) (t : Footprint) (session parent committed : ℕ) → committed ≡ length log →
    new ≡ log ++ record { sequence = committed + 1; parent = parent; session = session; footprint = t } ∷ [] → Agrees (stamped log t session parent) → Agrees new
logged Agrees log new t session parent committed e is agrees =
    subst Agrees (sym (is ∙ ap (λ n. log ++ record { sequence = n + 1; parent = parent; session = session; footprint = t } ∷ []) e)) agrees
