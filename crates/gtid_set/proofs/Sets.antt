-- The set of what was read, and what is answered of it.
use Rattle.std.proofs.Common.{◌≡◌, ◌∙◌, refl, ℕ, ◌≤◌, false, eqb, List, [], ◌∷◌, length, Some, Result, Ok, Err, arith}
use Rattle.std.specs.Prelude.{IfOk, IfErr}
use Rattle.std.specs.List.{AllByRecursion, slice_split}
use Rattle.std.proofs.lemmas.Bool.{false≢true, or_left}
use Rattle.std.proofs.lemmas.Bool.Decides.{nat_tests}
use Rattle.gtid_set.specs.declared.fault.GtidFault.{GtidFault}
use Rattle.gtid_set.specs.declared.fault.GtidFault.TheVariants.{BadUuid, BadNumber, BadInterval, ForeignSource, Memory}
use Rattle.gtid_set.specs.declared.intervals.Interval.{Interval}
use Rattle.gtid_set.specs.Numbers.{is_within, has_number, IsInterval, AreThoseOf}
use Rattle.gtid_set.specs.Ids.{Ids, IsSetOf}
use Rattle.gtid_set.specs.Reading.{Fails, Reads, is_colon, intervals_at, head_at, listed_at, ids_at, Lists}
use Rattle.gtid_set.proofs.Rising.{within_true}
use Rattle.gtid_set.proofs.Listing.{Fails-is}
use Rattle.gtid_set.proofs.Grammar.{each_interval, read_listed, listed_read, split_listed}

-- a list with an interval has a number
some_numbers : (listed new : List Interval) → AllByRecursion IsInterval listed → 1 ≤ length listed → AreThoseOf listed new → 1 ≤ length new
some_numbers [] new each some those = absurd (omega arith)
some_numbers (i ∷ is) [] each some those =
    let here = or_left (is_within i i.first) (has_number is i.first) (within_true i i.first (omega arith) each.0.rising) in
    absurd (false≢true (those.have i.first ∙ here))
some_numbers (i ∷ is) (j ∷ js) each some those = omega arith

not_none : (numbers : List Interval) → 1 ≤ length numbers → false ≡ eqb (length numbers) 0
not_none numbers some = grind (arith, nat_tests)

pub set_of : (source list : List ℕ) (listed numbers : List Interval) → intervals_at (slice_split is_colon list) ≡ Ok listed → AreThoseOf listed numbers →
    IsSetOf (record { source = Some source; numbers = listed }) (record { source = Some source; numbers = numbers })
set_of source list listed numbers e those =
    let some = some_numbers listed numbers (each_interval (slice_split is_colon list) listed e) (split_listed list listed e).1 those in
    record { is_set = record { numbers = those.are; source = not_none numbers some }; source = refl; numbers = those.have }

ids_some : (text : List ℕ) → false ≡ eqb (length text) 0 → ids_at text ≡ listed_at text
ids_some [] e = absurd (false≢true e)
ids_some (c ∷ cs) e = refl

pub read_is : (text source list : List ℕ) (listed : List Interval) → false ≡ eqb (length text) 0 → head_at text ≡ Ok (source, list) → intervals_at (slice_split is_colon list) ≡ Ok listed →
    ids_at text ≡ Ok (record { source = Some source; numbers = listed })
unfolding listed_at
read_is text source list listed some head e = ids_some text some ∙ rw (head, e) refl

pub read_head : (text : List ℕ) (fault : GtidFault) → false ≡ eqb (length text) 0 → head_at text ≡ Err fault → Fails fault (ids_at text)
unfolding listed_at
read_head text fault some head =
    let whole : ids_at text ≡ Err fault = ids_some text some ∙ rw head refl in Fails-is fault (ids_at text) whole

Fails-at : {X Y : Type 0} (fault : GtidFault) (read : Result X GtidFault) (total : Result Y GtidFault) → (read ≡ Err fault → total ≡ Err fault) → Fails fault read → Fails fault total
Fails-at BadUuid read total go h = go h
Fails-at BadNumber read total go h = go h
Fails-at BadInterval read total go h = go h
Fails-at ForeignSource read total go h = go h
Fails-at Memory read total go h = tt

pub read_list : (text source list : List ℕ) (fault : GtidFault) → false ≡ eqb (length text) 0 → head_at text ≡ Ok (source, list) → Fails fault (intervals_at (slice_split is_colon list)) →
    Fails fault (ids_at text)
unfolding listed_at
read_list text source list fault some head h =
    let go : intervals_at (slice_split is_colon list) ≡ Err fault → ids_at text ≡ Err fault = λ e. ids_some text some ∙ rw (head, e) refl in
    Fails-at fault (intervals_at (slice_split is_colon list)) (ids_at text) go h

-- ---- what `parse` says of it

pub found : (text : List ℕ) (answer : Result Ids GtidFault) → Reads answer (ids_at text) → IfOk answer (λ set. (listed : Ids) × Lists text listed × IsSetOf listed set)
found text (Ok set) h = (h.0, read_listed text h.0 h.1, h.2)
found text (Err fault) h = tt

fails_ok : (fault : GtidFault) (read : Result Ids GtidFault) (listed : Ids) → Fails fault read → read ≡ Ok listed → fault ≡ Memory
fails_ok BadUuid read listed h e = absurd (cc)
fails_ok BadNumber read listed h e = absurd (cc)
fails_ok BadInterval read listed h e = absurd (cc)
fails_ok ForeignSource read listed h e = absurd (cc)
fails_ok Memory read listed h e = refl

pub only : (text : List ℕ) (answer : Result Ids GtidFault) (listed : Ids) → Reads answer (ids_at text) → Lists text listed → IfErr answer (λ fault. fault ≡ Memory)
only text (Ok set) listed h l = tt
only text (Err fault) listed h l = fails_ok fault (ids_at text) listed h (listed_read text listed l)
