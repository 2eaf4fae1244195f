-- What follows of the number of the next commit, where it is appended and where all is published.
use Rattle.std.proofs.Common.{◌≡◌, ◌∙◌, ℕ, ◌+◌, ◌≤◌, ◌<◌, Bool, true, false, List, [], ◌∷◌, ◌++◌, length, refl, sym, ap, subst, arith}
use Rattle.std.proofs.Common.{append_assoc, append-nil, length-append}
use Rattle.store_trait.specs.Batch.{Entry}
use Rattle.store_trait.specs.declared.Op.{Op}
use Rattle.store_trait.specs.declared.Op.TheVariants.{Load, Commit}
use Rattle.scheduler.specs.Gnos.{has_gno}
use Rattle.scheduler.proofs.Gnos.{lacks_both, lacks_one}
use Rattle.published.specs.History.{IsCommit, MayAppend, gnos_of}
use Rattle.published.proofs.Histories.{gnos_of-append}
use Rattle.tests_threads.specs.Numbers.{IsNext, behind}

-- behind the load the first is next in the order of the log, and any is where that is not kept
pub begins : (preserve : Bool) (base : List Entry) (next : ℕ) → (preserve ≡ true → next ≡ 1) → IsNext preserve (Load base ∷ []) next
begins true base next first = sym (first refl)
begins false base next first = λ gno most. refl

-- the next may be appended
pub may_go_on : (preserve : Bool) (ops : List Op) (op : Op) (next : ℕ) → 1 ≤ next → IsNext preserve ops next → IsCommit op next
    → MayAppend preserve ops op
may_go_on true ops op next some is commit = subst (λ (n : ℕ). IsCommit op n) (sym is) commit
may_go_on false ops (Load base) next some is commit = absurd commit
may_go_on false ops (Commit gno batch) next some is commit = (omega (arith, some, commit), is gno (omega (arith, commit)))

-- one below another, where neither was there, is not there once that one is appended
below_put : (published waiting : List Op) (gno : ℕ) (batch : List Entry) (other : ℕ)
    → has_gno (gnos_of (published ++ waiting)) other ≡ false → other < gno
    → has_gno (gnos_of (published ++ (waiting ++ Commit gno batch ∷ []))) other ≡ false
below_put published waiting gno batch other none less =
    let one = Commit gno batch ∷ [] in
    let gnos : gnos_of (published ++ (waiting ++ one)) ≡ gnos_of (published ++ waiting) ++ gno ∷ [] =
    ap gnos_of (sym (append_assoc published waiting one)) ∙ gnos_of-append (published ++ waiting) one in
    subst (λ (l : List ℕ). has_gno l other ≡ false) (sym gnos)
    (lacks_both (gnos_of (published ++ waiting)) (gno ∷ []) other none (lacks_one gno other (λ same. omega (arith, less, same))))

-- behind it the one behind it is next
pub goes_on : (preserve : Bool) (published waiting : List Op) (op : Op) (next : ℕ) → 1 ≤ next → IsNext preserve (published ++ waiting) next
    → IsCommit op next → IsNext preserve (published ++ (waiting ++ op ∷ [])) (behind preserve next)
goes_on true published waiting op next some is commit =
    ap length (sym (append_assoc published waiting (op ∷ []))) ∙ length-append (published ++ waiting) (op ∷ []) ∙ ap (λ (n : ℕ). n + 1) is
goes_on false published waiting (Load base) next some is commit = absurd commit
goes_on false published waiting (Commit gno batch) next some is commit =
    λ other most. below_put published waiting gno batch other (is other (omega (arith, most))) (omega (arith, most, some, commit))

-- and the same is next once all are published
pub goes_on_shown : (preserve : Bool) (published waiting : List Op) (next : ℕ) → IsNext preserve (published ++ waiting) next
    → IsNext preserve ((published ++ waiting) ++ []) next
goes_on_shown preserve published waiting next is =
    subst (λ (l : List Op). IsNext preserve l next) (sym (append-nil (published ++ waiting))) is
