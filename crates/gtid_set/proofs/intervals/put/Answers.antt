use Rattle.std.proofs.Common.{subst, sym, List, ◌+◌, ◌-◌, arith, drop}
use Rattle.gtid_set.specs.declared.intervals.Interval.{Interval}
use Rattle.gtid_set.specs.Numbers.{RiseFrom, Puts, IsPlace}
use Rattle.gtid_set.proofs.Places.{inserted, far, none_left}
use Rattle.gtid_set.proofs.intervals.put.Goals as goal
use Rattle.gtid_set.proofs.intervals.put.Goals.{else-at-len-via-then-at-len+else-index-number, else-at-len-via-else-at-len}

pub returns-in_ok-insert-clause-ok : goal.returns-in_ok-insert-clause-ok
returns-in_ok-insert-clause-ok c =
    let is = c.args.intervals.now.items in
    let at = c.place_of-at.result in
    let n = c.args.number in
    let goes : RiseFrom (n + 2) (drop at is) = elim c.else-at-len.branch [
      | else-at-len-via-then-at-len+else-index-number w ↦ far is at (n + 2) w.index.result.now c.requires.are (omega arith) w.index.ensures (omega arith)
      | else-at-len-via-else-at-len w ↦ none_left is at (n + 2) (omega arith)
    ] in
    let place = subst (λ (l : List Interval). IsPlace l (n - 1) at) c.deref.ensures.value c.place_of-at.ensures in
    let all = inserted is at n c.requires.are place (omega arith) (omega arith) goes in
    (all.0, subst (λ (l : List Interval). Puts is l n) (sym c.in_ok-insert.ensures.items) all.1)
