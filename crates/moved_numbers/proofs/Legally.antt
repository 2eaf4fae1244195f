-- Legal logs whose numbers are moved.
use Rattle.std.proofs.Common.{◌≡◌, ◌∙◌, sym, ap, refl, List, ◌++◌, length, map, take, Some, length-append, arith}
use Rattle.std.proofs.lemmas.List.{length-map, take-append-le, take-map}
use Rattle.std.proofs.Math.Seq.{take-append-add}
use Rattle.schema.specs.declared.Table.{Table}
use Rattle.rows.specs.Database.{Database}
use Rattle.record_codec.specs.declared.records.Record.{Record}
use Rattle.record_codec.specs.Log.{after, touched, IsLegalNext, IsLegalLog}
use Rattle.moved_numbers.specs.Moved.{ahead, behind, RestIsLegal, BehindIsLegal, BehindLeaves, RestIsSeen}
use Rattle.moved_numbers.proofs.Nexts.{each-behind, each-append, each-map}
use Rattle.moved_numbers.proofs.Moving.{after-map, after-rest, covers_rest, covers_after}

-- ---- what they leave

pub rest_leaves : (ts : List Table) (base mid : Database) (front rest : List Record) → after ts base front ≡ Some mid →
    after ts mid (map (ahead (length front)) rest) ≡ after ts base (front ++ rest)
rest_leaves ts base mid front rest leaves = after-map (ahead (length front)) (λ _. refl) ts rest mid ∙ sym (after-rest ts base mid front rest leaves)

pub behind_leaves : BehindLeaves
behind_leaves ts base mid front log leaves =
    let n = length front in
    after-rest ts base mid front (map (behind n) log) leaves ∙ after-map (behind n) (λ _. refl) ts log mid

pub rest_is_seen : RestIsSeen
rest_is_seen ts base mid front rest accepted u leaves begins few =
    let n = length front in
    let same : take u accepted ≡ map (ahead n) (take u rest) =
    sym (take-append-le u accepted begins.0 few) ∙ ap (take u) begins.1 ∙ take-map (ahead n) u rest in
    ap (after ts mid) same ∙ rest_leaves ts base mid front (take u rest) leaves ∙ ap (after ts base) (sym (take-append-add front rest u))

-- ---- they stay legal

next-ahead : (ts : List Table) (base mid : Database) (front done : List Record) (next : Record) → after ts base front ≡ Some mid →
    IsLegalNext ts base (front ++ done) next → IsLegalNext ts mid (map (ahead (length front)) done) (ahead (length front) next)
next-ahead ts base mid front done next leaves is =
    let n = length front in
    let all = length-append front done in
    let count = length-map done (ahead n) in
    record {
      gno = omega (arith, is.gno, all, count);
      sequence = omega (arith, is.sequence, all, count);
      below = omega (arith, is.below, is.sequence, all);
      covers = covers_rest next.parent (touched next) front done is.covers;
      flags = is.flags;
      before = is.before;
      is_before = rest_leaves ts base mid front done leaves ∙ is.is_before;
      refs = is.refs;
      marks = is.marks;
      leaves = is.leaves;
      applies = is.applies;
      parents = is.parents;
    }

pub rest_is_legal : RestIsLegal
rest_is_legal ts base mid front rest legal leaves =
    each-map (ahead (length front)) (λ done next. IsLegalNext ts base (front ++ done) next) (IsLegalNext ts mid)
    (λ done next. next-ahead ts base mid front done next leaves) rest (each-behind (IsLegalNext ts base) front rest legal)

next-behind : (ts : List Table) (base mid : Database) (front done : List Record) (next : Record) → IsLegalLog ts base front →
    after ts base front ≡ Some mid → IsLegalNext ts mid done next → IsLegalNext ts base (front ++ map (behind (length front)) done) (behind (length front) next)
next-behind ts base mid front done next legal leaves is =
    let n = length front in
    let all = length-append front (map (behind n) done) in
    let count = length-map done (behind n) in
    record {
      gno = omega (arith, is.gno, all, count);
      sequence = omega (arith, is.sequence, all, count);
      below = omega (arith, is.below);
      covers = covers_after next.parent (touched next) front done (λ d r m e. (legal d r m e).sequence ∙ omega arith) is.covers;
      flags = is.flags;
      before = is.before;
      is_before = behind_leaves ts base mid front done leaves ∙ is.is_before;
      refs = is.refs;
      marks = is.marks;
      leaves = is.leaves;
      applies = is.applies;
      parents = is.parents;
    }

pub behind_is_legal : BehindIsLegal
behind_is_legal ts base mid front log legal leaves next =
    each-append (IsLegalNext ts base) front (map (behind (length front)) log) legal
    (each-map (behind (length front)) (IsLegalNext ts mid) (λ done next. IsLegalNext ts base (front ++ done) next)
    (λ done next. next-behind ts base mid front done next legal leaves) log next)
