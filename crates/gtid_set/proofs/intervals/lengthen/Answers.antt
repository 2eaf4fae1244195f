use Rattle.std.proofs.Common.{◌∙◌, ap, arith, suc, ◌+◌}
use Rattle.gtid_set.specs.declared.intervals.Interval.{Interval}
use Rattle.gtid_set.proofs.Places.{same_read, joined_at, raised, far_next, none_left, behind_end, begins_at}
use Rattle.gtid_set.proofs.intervals.lengthen.Goals as goal
use Rattle.gtid_set.proofs.intervals.lengthen.Goals.{else-at-len-via-then-at-len+else-index-number, else-at-len-via-else-at-len}

pub returns-then-index-number : goal.returns-then-index-number
returns-then-index-number c =
    let same = same_read c.args.intervals.now.items (c.args.at + 1) c.remove-next.result c.index.result.now (omega arith) c.remove-next.ensures.value c.index.ensures in
    joined_at c.args.intervals.now.items c.remove-next.new.self.items c.args.at c.args.number c.index_mut.result.now c.remove-next.result c.requires.are (omega arith)
    c.remove-next.ensures.items c.index_mut.ensures.value c.remove-next.ensures.value c.requires.behind (ap (λ (i : Interval). i.first) same ∙ c.if-index-number.true)

pub returns-else-at-len : goal.returns-else-at-len
returns-else-at-len c =
    let is = c.args.intervals.now.items in
    let at = c.args.at in
    let x = c.index_mut-else-at-len.result.now in
    let ends = ap (λ i. i.last + 1) c.index_mut-else-at-len.ensures.value ∙ c.requires.behind x in
    raised is at c.args.number x c.requires.are c.requires.number (omega arith) c.index_mut-else-at-len.ensures.value ends
    (elim c.else-at-len.branch [
      | else-at-len-via-then-at-len+else-index-number w ↦
          let rises = behind_end is at x c.requires.are (omega arith) c.index_mut-else-at-len.ensures.value in
          let low = begins_at is at (x.last + 2) w.index.result.now rises (omega arith) w.index.ensures in
          far_next is at (c.args.number + 2) w.index.result.now c.requires.are (omega arith) w.index.ensures (omega (arith, low, ends, w.if-index-number.false))
      | else-at-len-via-else-at-len w ↦ none_left is (suc at) (c.args.number + 2) (omega arith)
    ])
