-- Lists that a relay accepts, whose numbers are moved.
use Rattle.std.proofs.Common.{◌∙◌, ◌<◌, ◌++◌, length, map, length-append, arith}
use Rattle.std.proofs.lemmas.List.{length-map}
use Rattle.record_codec.specs.Log.{touched}
use Rattle.relay.specs.Relay.{IsAcceptable}
use Rattle.moved_numbers.specs.Moved.{ahead, behind, RestIsAcceptable, RestAccepts, BehindIsAcceptable, BehindAccepts}
use Rattle.moved_numbers.proofs.Nexts.{each-behind, each-append, each-map, each-within}
use Rattle.moved_numbers.proofs.Moving.{covers_rest, covers_after}

pub rest_accepts : RestAccepts
rest_accepts ts front rest new is =
    let n = length front in
    let all = length-append front rest in
    let count = length-map rest (ahead n) in
    record {
      gno = omega (arith, is.gno, all, count);
      sequence = omega (arith, is.sequence, all, count);
      bound = omega (arith, is.bound);
      below = omega (arith, is.below, is.sequence, all);
      covers = covers_rest new.parent (touched new) front rest is.covers;
      shaped = is.shaped;
      flags = is.flags;
      parents = is.parents;
      refs = is.refs;
      unique = is.unique;
      marks = is.marks;
    }

pub rest_is_acceptable : RestIsAcceptable
rest_is_acceptable ts front rest are =
    each-map (ahead (length front)) (λ done next. IsAcceptable ts (front ++ done) next) (IsAcceptable ts)
    (rest_accepts ts front) rest (each-behind (IsAcceptable ts) front rest are)

pub behind_accepts : BehindAccepts
behind_accepts ts front log new are is few =
    let n = length front in
    let all = length-append front (map (behind n) log) in
    let count = length-map log (behind n) in
    record {
      gno = omega (arith, is.gno, all, count);
      sequence = omega (arith, is.sequence, all, count);
      bound = few;
      below = omega (arith, is.below);
      covers = covers_after new.parent (touched new) front log (λ d r m e. (are d r m e).sequence ∙ omega arith) is.covers;
      shaped = is.shaped;
      flags = is.flags;
      parents = is.parents;
      refs = is.refs;
      unique = is.unique;
      marks = is.marks;
    }

pub behind_is_acceptable : BehindIsAcceptable
behind_is_acceptable ts front log are others few =
    each-append (IsAcceptable ts) front (map (behind (length front)) log) are
    (each-map (behind (length front)) (λ done next. IsAcceptable ts done next × (length done < length log)) (λ done next. IsAcceptable ts (front ++ done) next)
    (λ done next is. behind_accepts ts front done next are is.0 (omega (arith, is.0.gno, is.1, few))) log (each-within (IsAcceptable ts) log others))
