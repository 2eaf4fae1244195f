-- What those are told who wait for commits.
use Rattle.std.proofs.Common.{◌≡◌, sym, subst, ℕ, ◌<◌, ◌≤◌, Bool, true, List, Option, Some, None, Result, Ok, Err, IfOk, IfErr, arith}
use Rattle.std.specs.Prelude.{MatchOption, unwrap_or}
use Rattle.std.proofs.lemmas.Bool.{false_from_ne_true}
use Rattle.store_trait.specs.declared.Op.{Op}
use Rattle.gtid_set.specs.Ids.{Ids, IsSet, no_ids}
use Rattle.gtid_set.specs.Numbers.{has_number, IsGreatest}
use Rattle.gtid_set.specs.declared.intervals.Interval.{Interval}
use Rattle.relay.specs.declared.ReplicaFault.{ReplicaFault}
use Rattle.scheduler.specs.Gnos.{has_gno, low_of}
use Rattle.published.specs.History.{IsHistory, gnos_of, commits_in}
use Rattle.published.proofs.Histories.{low_in_order}
use Rattle.replica_shared.specs.Names.{ReplicaNames}
use Rattle.replica_shared.specs.Awaited.{has_all, up_to, AreAmong, AreUpTo}
use Rattle.replica_shared.specs.Together.{State, IsStopBehind, TellsStopBehind, TellsStop}
use Rattle.replica_shared.specs.Feeding.{TellsStopOf}
use Rattle.replica_shared.proofs.Awaiting.{up_to_low, not_up_to_low, all_has, all_lack, set_numbers_from_one, in_order_upto, in_order_behind}

-- what follows from a fact of each answer holds of it
pub ok_weaker : {T E : Type 0} (P Q : T → Type 0) (result : Result T E) → ((x : T) → P x → Q x) → IfOk result P → IfOk result Q
ok_weaker P Q (Ok x) weaker is = weaker x is
ok_weaker P Q (Err e) weaker is = tt

-- and what follows from two
pub ok_both : {T E : Type 0} (P Q R : T → Type 0) (result : Result T E) → ((x : T) → P x → Q x → R x) → IfOk result P → IfOk result Q → IfOk result R
ok_both P Q R (Ok x) both p q = both x p q
ok_both P Q R (Err e) both p q = tt

-- what follows from a fact of each fault holds of it
pub err_weaker : {T E : Type 0} (P Q : E → Type 0) (result : Result T E) → ((e : E) → P e → Q e) → IfErr result P → IfErr result Q
err_weaker P Q (Ok x) weaker is = tt
err_weaker P Q (Err e) weaker is = weaker e is

-- a fault that tells of a stop behind which some wait tells of it whatever the state was
pub tells_stop : {T : Type 0} (names : ReplicaNames) (preserve : Bool) (wanted : List Interval) (s : State)
    (result : Result T ReplicaFault) → IfErr result (IsStopBehind names preserve wanted s) → IfErr result (TellsStopBehind names preserve wanted)
tells_stop names preserve wanted s result stop = err_weaker _ _ result (λ fault is. record { state = s; stop = is }) stop

-- in the order of the log the mark is the number of commits
low_is : (preserve : Bool) (ops : List Op) → preserve ≡ true → IsHistory preserve ops → low_of (gnos_of ops) ≡ commits_in ops
low_is preserve ops order h = low_in_order ops (subst (λ b. IsHistory b ops) order h)

-- ---- the commits from 1 to one

-- in the order of the log, where the commits from 1 to one are published, so many are
pub upto_in_order : (preserve : Bool) (ops : List Op) (gno : ℕ) → preserve ≡ true → IsHistory preserve ops → has_all (gnos_of ops) (up_to gno) ≡ true → gno ≤ commits_in ops
upto_in_order preserve ops gno order h all = subst (λ n. gno ≤ n) (low_is preserve ops order h) (up_to_low (gnos_of ops) gno all)

-- a stop in front of one of the commits from 1 to a gno is told as one of that gno
pub told_upto : {names : ReplicaNames} {preserve : Bool} {gno : ℕ} {fault : ReplicaFault} →
    TellsStopBehind names preserve (up_to gno) fault → TellsStop names preserve gno fault
told_upto {preserve = preserve} {gno = gno} h =
    let ops = h.state.publication.published in
    let behind = not_up_to_low (gnos_of ops) gno h.stop.1 in
    record { state = h.state; stop = h.stop.0; behind = behind; in_order = λ order. subst (λ n. n < gno) (low_is preserve ops order h.stop.0.history) behind }

-- ---- those of a set

-- where each interval of a set is published, each number of it is
pub among : (ids : Ids) (is : List Interval) (gnos : List ℕ) → is ≡ ids.numbers → has_all gnos is ≡ true → AreAmong gnos ids
among ids is gnos same all gno has = all_has gnos is gno all (subst (λ l. has_number l gno ≡ true) (sym same) has)

-- in the order of the log no number of it is then above the number of commits
pub among_in_order : (preserve : Bool) (ops : List Op) (ids : Ids) → preserve ≡ true → IsHistory preserve ops → AreAmong (gnos_of ops) ids → AreUpTo (commits_in ops) ids
among_in_order preserve ops ids order h are gno has = in_order_upto preserve ops gno order h (are gno has)

module _ {names : ReplicaNames} {preserve : Bool} {ids : Ids} {fault : ReplicaFault} where
  -- a stop in front of one of a set's intervals is told as one of the set
  pub told_set : {is : List Interval} → is ≡ ids.numbers → IsSet ids → TellsStopBehind names preserve is fault → TellsStopOf names preserve ids fault
  told_set {is = is} same set h =
      let ops = h.state.publication.published in
      let l = all_lack (gnos_of ops) is h.stop.1 in
      let has = subst (λ (q : List Interval). has_number q l.gno ≡ true) same l.has in
      record {
        state = h.state;
        stop = h.stop.0;
        gno = l.gno;
        has = has;
        behind = l.lacks;
        in_order = λ order. in_order_behind preserve ops l.gno order h.stop.0.history (set_numbers_from_one ids l.gno set has) l.lacks;
      }

  -- where the order of the log is kept its greatest number is told
  pub told_greatest : (greatest : Option ℕ) {n : ℕ} → preserve ≡ true → MatchOption greatest (ids ≡ no_ids) (IsGreatest ids.numbers) → n ≡ unwrap_or greatest 0
      → TellsStopBehind names preserve (up_to n) fault → TellsStopOf names preserve ids fault
  told_greatest None {n = n} order most is h =
      let low = not_up_to_low (gnos_of h.state.publication.published) n h.stop.1 in
      absurd (omega (arith, low, is))
  told_greatest (Some m) {n = n} order most is h =
      let ops = h.state.publication.published in
      let few : commits_in ops < n = subst (λ k. k < n) (low_is preserve ops order h.stop.0.history) (not_up_to_low (gnos_of ops) n h.stop.1) in
      record {
        state = h.state;
        stop = h.stop.0;
        gno = n;
        has = subst (λ k. has_number ids.numbers k ≡ true) (sym is) most.have;
        behind = false_from_ne_true (has_gno (gnos_of ops) n) (λ has. let upto = in_order_upto preserve ops n order h.stop.0.history has in omega (arith, upto, few));
        in_order = λ _. few;
      }
