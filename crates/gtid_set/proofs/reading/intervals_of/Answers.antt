use Rattle.std.proofs.Common.{length, lit<, arith}
use Rattle.std.specs.List.{slice_split}
use Rattle.std.proofs.lemmas.Iterator.Splits.{YieldsList-from_str_split}
use Rattle.std.proofs.lemmas.Iterator.Consumers.{YieldsList-turn, YieldsList-end}
use Rattle.std.proofs.lemmas.List.{length_push}
use Rattle.std.proofs.lemmas.Result.{err_from_is_err_and}
use Rattle.gtid_set.specs.Reading.{is_colon, intervals_at}
use Rattle.gtid_set.proofs.Listing.{goes_on, ends, is_done}
use Rattle.gtid_set.proofs.reading.intervals_of.Goals as goal

pub returns-in_err-interval_of : goal.returns-in_err-interval_of
returns-in_err-interval_of c =
    let texts = slice_split is_colon c.args.list.now in
    let t = YieldsList-turn (YieldsList-from_str_split 58 c.args.list.now (lit< tt) (cc) (cc) (cc)) c.loop-text.yielded _ c.loop-text.yielded_by _ _ c.in-Some.text c.in-Some.is c.next.ensures.steps in
    let p = err_from_is_err_and c.from_residual.result c.from_residual.ensures.1 in
    rw (p.1, p.2) (ends texts (length c.loop-text.yielded) c.loop-text.intervals.items c.in-Some.text.now c.in_err-interval_of.field-0.0
    (intervals_at texts) t.0 t.1 c.in_err-interval_of.ensures c.loop-text.invariant)

pub loop-text-preserved : goal.loop-text-preserved
loop-text-preserved c =
    let texts = slice_split is_colon c.args.list.now in
    let t = YieldsList-turn (YieldsList-from_str_split 58 c.args.list.now (lit< tt) (cc) (cc) (cc)) c.loop-text.yielded _ c.loop-text.yielded_by _ _ c.in-Some.text c.in-Some.is c.next.ensures.steps in
    rw (c.in_ok-push.ensures.items, length_push c.loop-text.yielded c.in-Some.text)
    (goes_on texts (length c.loop-text.yielded) c.loop-text.intervals.items c.in-Some.text.now c.in_ok-interval_of.field-0
    (intervals_at texts) t.0 t.1 c.in_ok-interval_of.ensures c.loop-text.invariant)

pub returns : goal.returns
returns c =
    let texts = slice_split is_colon c.args.list.now in
    let t = YieldsList-end (YieldsList-from_str_split 58 c.args.list.now (lit< tt) (cc) (cc) (cc)) c.loop-text.yielded _ c.loop-text.yielded_by _ _ c.in-None.is c.next.ensures.steps in
    is_done texts (length c.loop-text.yielded) c.loop-text.intervals.items (intervals_at texts) (omega (arith, t.1)) c.loop-text.invariant
