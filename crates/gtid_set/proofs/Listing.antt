-- Intervals that are read one behind the other, as a loop does.
use Rattle.std.proofs.Common.{◌≡◌, ◌∙◌, sym, ap, refl, ℕ, ◌+◌, ◌<◌, ◌≤◌, List, [], ◌∷◌, ◌++◌, length, get_or, drop, append_assoc, Result, Ok, Err}
use Rattle.std.proofs.lemmas.List.{drop_more, drop_all, append-nil}
use Rattle.gtid_set.specs.declared.fault.GtidFault.{GtidFault}
use Rattle.gtid_set.specs.declared.fault.GtidFault.TheVariants.{BadUuid, BadNumber, BadInterval, ForeignSource, Memory}
use Rattle.gtid_set.specs.declared.intervals.Interval.{Interval}
use Rattle.gtid_set.specs.Reading.{◌>>=◌, Fails, interval_at, intervals_at}

-- what was read before, and what is still read
abbrev pub with_front : List Interval → Result (List Interval) GtidFault → Result (List Interval) GtidFault
with_front front read = read >>= λ is. Ok (front ++ is)

pub Fails-is : {Y : Type 0} (fault : GtidFault) (read : Result Y GtidFault) → read ≡ Err fault → Fails fault read
Fails-is BadUuid read e = e
Fails-is BadNumber read e = e
Fails-is BadInterval read e = e
Fails-is ForeignSource read e = e
Fails-is Memory read e = tt

regroup : (front : List Interval) (i : Interval) (read : Result (List Interval) GtidFault) → with_front front (read >>= λ is. Ok (i ∷ is)) ≡ with_front (front ++ i ∷ []) read
regroup front i (Ok is) = ap (λ (l : List Interval). Ok l) (sym (append_assoc front (i ∷ []) is))
regroup front i (Err fault) = refl

pub goes_on : (texts : List (List ℕ)) (k : ℕ) (front : List Interval) (text : List ℕ) (i : Interval) (total : Result (List Interval) GtidFault) → k < length texts → text ≡ get_or texts k text →
    Ok i ≡ interval_at text
    → with_front front (intervals_at (drop k texts)) ≡ total → with_front (front ++ i ∷ []) (intervals_at (drop (k + 1) texts)) ≡ total
unfolding intervals_at
goes_on texts k front text i total lt at read so_far =
    let next : drop k texts ≡ text ∷ drop (k + 1) texts = drop_more texts k text lt ∙ ap (λ (t : List ℕ). t ∷ drop (k + 1) texts) (sym at) in
    let one : with_front front (intervals_at (drop k texts)) ≡ with_front (front ++ i ∷ []) (intervals_at (drop (k + 1) texts)) =
    rw (next, ← read) (regroup front i (intervals_at (drop (k + 1) texts))) in
    sym one ∙ so_far

pub ends : (texts : List (List ℕ)) (k : ℕ) (front : List Interval) (text : List ℕ) (fault : GtidFault) (total : Result (List Interval) GtidFault) → k < length texts → text ≡ get_or texts k text →
    Err fault ≡ interval_at text
    → with_front front (intervals_at (drop k texts)) ≡ total → Fails fault total
unfolding intervals_at
ends texts k front text fault total lt at read so_far =
    let next : drop k texts ≡ text ∷ drop (k + 1) texts = drop_more texts k text lt ∙ ap (λ (t : List ℕ). t ∷ drop (k + 1) texts) (sym at) in
    let one : with_front front (intervals_at (drop k texts)) ≡ Err fault = rw (next, ← read) refl in
    Fails-is fault total (sym so_far ∙ one)

pub is_done : (texts : List (List ℕ)) (k : ℕ) (front : List Interval) (total : Result (List Interval) GtidFault) → length texts ≤ k → with_front front (intervals_at (drop k texts)) ≡ total →
    total ≡ Ok front
unfolding intervals_at
is_done texts k front total le so_far =
    let one : with_front front (intervals_at (drop k texts)) ≡ Ok front = rw (drop_all k texts le) (ap (λ (l : List Interval). Ok l) (append-nil front)) in
    sym so_far ∙ one
