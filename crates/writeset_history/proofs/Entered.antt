-- What a history is once digests were entered, one after another.
use Rattle.std.proofs.Common.{◌≡◌, ◌∙◌, sym, ap, subst, refl, ℕ, ◌+◌, ◌<◌, ◌≤◌, Bool, true, false, ◌||◌, cond, eqb, List, [], ◌∷◌, length, get_or, take, fold, Option, Some, unwrap_or, is_some}
use Rattle.std.proofs.Common.{nat_cmp, arith}
use Rattle.std.specs.Cmp.{nat_cmp_total, nat_eq_equiv}
use Rattle.std.specs.FinMap.{empty, get, get-empty, insert, len, len-insert}
use Rattle.std.specs.List.{list_any}
use Rattle.std.proofs.lemmas.List.Sums.{fold_more}
use Rattle.writeset_history.specs.History.{Numbers, History, entered, IsUpTo}
use Rattle.writeset_history.specs.Laws.{EntersEach, IsKeptUpTo}
use Rattle.writeset_history.proofs.Held.{get_entered}

-- one digest more
pub entered_more : (from so_far next : History) (digests : List ℕ) (i digest sequence : ℕ) → i < length digests → digest ≡ get_or digests i 0 → so_far ≡ entered from (take i digests) sequence →
    next ≡ record so_far { numbers = insert so_far.numbers digest sequence } → next ≡ entered from (take (i + 1) digests) sequence
entered_more from so_far next digests i digest sequence h item before step =
    step ∙ ap (λ (s : History). record s { numbers = insert s.numbers digest sequence }) before
    ∙ ap (λ d. record from { numbers = insert (fold (λ (numbers : Numbers) (q : ℕ). insert numbers q sequence) from.numbers (take i digests)) d sequence }) item
    ∙ ap (λ (m : Numbers). record from { numbers = m }) (sym (fold_more (λ (numbers : Numbers) (q : ℕ). insert numbers q sequence) from.numbers digests i 0 h))

-- it takes one place at most
len-entered_one : (m : Numbers) (digest sequence : ℕ) → len (insert m digest sequence) ≤ len m + 1
len-entered_one m digest sequence = subst (λ n. n ≤ len m + 1) (sym (len-insert nat_cmp_total m digest sequence)) (at_most (is_some (get m digest)))
  where
    at_most : (b : Bool) → cond b (len m) (len m + 1) ≤ len m + 1
    at_most true = omega arith
    at_most false = omega arith

-- so there is room for those that are still to come
pub room_more : (so_far next : History) (all i digest sequence : ℕ) → next ≡ record so_far { numbers = insert so_far.numbers digest sequence } → len so_far.numbers + all ≤ so_far.limit + i →
    len next.numbers + all ≤ next.limit + (i + 1)
room_more so_far next all i digest sequence step room =
    subst (λ (h : History). len h.numbers + all ≤ h.limit + (i + 1)) (sym step) (omega (arith, room, len-entered_one so_far.numbers digest sequence))

-- ---- the laws

each_in : (m : Numbers) (digests : List ℕ) (sequence digest : ℕ) →
    get (fold (λ (numbers : Numbers) (d : ℕ). insert numbers d sequence) m digests) digest ≡ cond (list_any (λ d. eqb d digest) digests) (Some sequence) (get m digest)
each_in m [] sequence digest = refl
each_in m (d ∷ digests) sequence digest =
    each_in (insert m d sequence) digests sequence digest
    ∙ ap (cond (list_any (λ e. eqb e digest) digests) (Some sequence)) (get_entered m d sequence digest ∙ ap (λ b. cond b (Some sequence) (get m digest)) (nat_eq_equiv.symm digest d))
    ∙ joined (eqb d digest) (list_any (λ e. eqb e digest) digests) (Some sequence) (get m digest)
  where
    joined : (a b : Bool) (x y : Option ℕ) → cond b x (cond a x y) ≡ cond (a || b) x y
    joined true true x y = refl
    joined true false x y = refl
    joined false b x y = refl

pub enters_each : EntersEach
enters_each h digests sequence digest = each_in h.numbers digests sequence digest

none_known : (digest n : ℕ) → unwrap_or (get (empty {X = ℕ} {R = nat_cmp}) digest) 0 ≤ n
none_known digest n = subst (λ o. unwrap_or o 0 ≤ n) (sym (get-empty nat_cmp digest)) (omega arith)

enters_up_to : (h : History) (digests : List ℕ) (before sequence : ℕ) → IsUpTo h before → before ≤ sequence → IsUpTo (entered h digests sequence) sequence
enters_up_to h digests before sequence newest rises = record {
  start = omega (arith, newest.start, rises);
  numbers = λ digest. subst (λ o. unwrap_or o 0 ≤ sequence) (sym (enters_each h digests sequence digest)) (of_any digest (list_any (λ d. eqb d digest) digests));
}
  where
    of_any : (digest : ℕ) (b : Bool) → unwrap_or (cond b (Some sequence) (get h.numbers digest)) 0 ≤ sequence
    of_any digest true = omega arith
    of_any digest false = omega (arith, newest.numbers digest, rises)

pub kept_up_to : IsKeptUpTo
kept_up_to = record {
  new = λ limit. record { start = omega arith; numbers = λ digest. none_known digest 0 };
  entered = enters_up_to;
  emptied = λ h sequence. record { start = omega arith; numbers = λ digest. none_known digest sequence };
}
