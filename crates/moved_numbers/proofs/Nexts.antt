-- What is true of each record of a log and those before it, as the log is taken apart, put together, and renumbered.
use Rattle.std.proofs.Common.{◌≡◌, ◌∙◌, sym, ap, subst, refl, ℕ, ◌+◌, ◌≤◌, ◌<◌, List, [], ◌∷◌, ◌++◌, length, map, append_assoc, length-append, arith}
use Rattle.std.specs.List.{AllByRecursion}
use Rattle.record_codec.specs.declared.records.Record.{Record}
use Rattle.record_codec.specs.Log.{place_of}
use Rattle.record_codec.proofs.Logs.{no_next}

-- as in a legal log, and in an acceptable list
abbrev pub EachNext : (List Record → Record → Type 0) → List Record → Type 0
EachNext P log = (done : List Record) (next : Record) (more : List Record) → log ≡ done ++ next ∷ more → P done next

pub each-behind : (P : List Record → Record → Type 0) (front rest : List Record) → EachNext P (front ++ rest) → EachNext (λ done next. P (front ++ done) next) rest
each-behind P front rest all = λ done next more e. all (front ++ done) next more (ap (λ l. front ++ l) e ∙ sym (append_assoc front done (next ∷ more)))

each-cons : (P : List Record → Record → Type 0) (x : Record) (log : List Record) → P [] x → EachNext (λ done next. P (x ∷ done) next) log → EachNext P (x ∷ log)
each-cons P x log first others = λ done next more e. at done next more e
  where
    at : (done : List Record) (next : Record) (more : List Record) → x ∷ log ≡ done ++ next ∷ more → P done next
    at [] next more e = let same : x ≡ next = cc in subst (P []) same first
    at (y ∷ done) next more e =
        let same : x ≡ y = cc in
        let rest : log ≡ done ++ next ∷ more = cc in
        subst (λ (z : Record). P (z ∷ done) next) same (others done next more rest)

pub each-append : (P : List Record → Record → Type 0) (front rest : List Record) → EachNext P front → EachNext (λ done next. P (front ++ done) next) rest → EachNext P (front ++ rest)
each-append P [] rest first others = others
each-append P (x ∷ front) rest first others =
    each-cons P x (front ++ rest) (first [] x front refl)
    (each-append (λ done next. P (x ∷ done) next) front rest (each-behind P (x ∷ []) front first) others)

pub each-map : (f : Record → Record) (P Q : List Record → Record → Type 0) → ((done : List Record) (next : Record) → P done next → Q (map f done) (f next)) →
    (log : List Record) → EachNext P log → EachNext Q (map f log)
each-map f P Q step [] all = λ done next more e. absurd (no_next done more next e)
each-map f P Q step (x ∷ log) all =
    each-cons Q (f x) (map f log) (step [] x (all [] x log refl))
    (each-map f (λ done next. P (x ∷ done) next) (λ done next. Q (f x ∷ done) next) (λ done next. step (x ∷ done) next) log (each-behind P (x ∷ []) log all))

-- each has fewer before it than there are
pub each-within : (P : List Record → Record → Type 0) (log : List Record) → EachNext P log → EachNext (λ done next. P done next × (length done < length log)) log
each-within P log all = λ done next more e. (all done next more e, omega (arith, ap length e, length-append done (next ∷ more)))

-- those that are numbered after k have no number above what all have
pub numbered_within : (k top : ℕ) (log : List Record) → EachNext (λ done next. next.sequence ≡ k + length done + 1) log → k + length log ≤ top →
    AllByRecursion (λ before. before.0 ≤ top) (map place_of log)
numbered_within k top [] all le = tt
numbered_within k top (r ∷ log) all le =
    let here : r.sequence ≡ k + 0 + 1 = all [] r log refl in
    (omega (arith, here), numbered_within (k + 1) top log (λ done next more e. omega (arith, all (r ∷ done) next more (ap (λ l. r ∷ l) e))) (omega arith))
