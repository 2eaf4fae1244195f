use Rattle.std.proofs.Common.{◌∙◌, sym, ap, subst, List, ℕ, Result}
use Rattle.std.specs.List.{slice_split}
use Rattle.std.proofs.lemmas.Result.{err_from_is_err_and}
use Rattle.gtid_set.specs.declared.fault.GtidFault.{GtidFault}
use Rattle.gtid_set.specs.declared.intervals.Interval.{Interval}
use Rattle.gtid_set.specs.Reading.{Fails, is_colon, intervals_at}
use Rattle.gtid_set.proofs.Sets.{set_of, read_is, read_head, read_list}
use Rattle.gtid_set.proofs.set.read.Goals as goal

pub returns-in_err-source-clause-exact : goal.returns-in_err-source-clause-exact
returns-in_err-source-clause-exact c =
    let p = err_from_is_err_and c.from_residual.result c.from_residual.ensures.1 in
    rw (p.1, p.2) (read_head c.args.text.now c.in_err-source.field-0.0 c.if-is_empty.ensures c.in_err-source.ensures.value)

pub returns-in_err-intervals-clause-exact : goal.returns-in_err-intervals-clause-exact
returns-in_err-intervals-clause-exact c =
    let p = err_from_is_err_and c.from_residual-in_err-intervals.result c.from_residual-in_err-intervals.ensures.1 in
    let same = ap (λ (l : List ℕ). intervals_at (slice_split is_colon l)) c.range_from.ensures.value in
    rw (p.1, p.2) (read_list c.args.text.now c.in_ok-source.source _ c.in_err-intervals.field-0.0 c.if-is_empty.ensures c.in_ok-source.ensures.value
    (subst (λ (r : Result (List Interval) GtidFault). Fails c.in_err-intervals.field-0.0 r) same c.in_err-intervals.ensures.err))

pub invariant_of-result : goal.invariant_of-result
invariant_of-result c =
    let those = c.in_ok-intervals.ensures.ok in
    (set_of c.in_ok-source.source c.range_from.result.now those.0 c.in_ok-intervals.intervals.items those.1 those.2).is_set

pub returns-clause-exact : goal.returns-clause-exact
returns-clause-exact c =
    let those = c.in_ok-intervals.ensures.ok in
    let same = ap (λ (l : List ℕ). intervals_at (slice_split is_colon l)) c.range_from.ensures.value in (
      (record { source = _; numbers = those.0 }),
      read_is c.args.text.now c.in_ok-source.source _ those.0 c.if-is_empty.ensures c.in_ok-source.ensures.value (sym same ∙ those.1),
      set_of c.in_ok-source.source c.range_from.result.now those.0 c.in_ok-intervals.intervals.items those.1 those.2,
    )
