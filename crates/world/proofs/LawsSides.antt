-- What seats saw of a replica whose records are a beginning of the source's log.
use mathlib.Core.List.{IsPrefix}
use Rattle.std.proofs.Common.{◌≡◌, ◌∙◌, sym, ap, subst, ℕ, suc, ◌≤◌, List, [], ◌∷◌, length, take, drop, Some, arith}
use Rattle.std.proofs.lemmas.List.{take-append-le, take-append-drop, take-take, take_all}
use Rattle.std.proofs.Math.Seq.{take-length}
use Rattle.schema.specs.declared.Table.{Table}
use Rattle.store_trait.specs.Batch.{Entry}
use Rattle.store_trait.specs.declared.Op.{Op}
use Rattle.store_trait.specs.declared.Op.TheVariants.{Load, Commit}
use Rattle.store_trait.specs.Operation.{loaded, left_by}
use Rattle.record_codec.specs.declared.records.Record.{Record}
use Rattle.record_codec.specs.Log.{after, IsLegalLog}
use Rattle.record_codec.proofs.Logs.{beginning_leaves, part_is_numbered}
use Rattle.record_codec.specs.Group.{AreNumbered}
use Rattle.record_codec.proofs.Numbered.{take_numbered}
use Rattle.replica_core.specs.Replica.{operations, commits_from}
use Rattle.replica_core.proofs.Commits.{first_commits, ops_in_order, operations_leave_rows}
use Rattle.published.specs.History.{commits_in}
use Rattle.world.specs.Laws.{SeatsSeeTheSource}
use Rattle.world.proofs.Parts.{take_longer}

-- of two beginnings of a list the shorter is a beginning of the longer
pub shorter : (long short all : List Op) → IsPrefix long all → IsPrefix short all → length short ≤ length long → short ≡ take (length short) long
shorter long short all l s le =
    sym (take-length short)
    ∙ sym (take-append-le (length short) short s.0 (omega arith))
    ∙ ap (take (length short)) (s.1 ∙ sym l.1)
    ∙ take-append-le (length short) long l.0 le

-- the operations of fewer records are the first of them
pub fewer : (ts : List Table) (base : List Entry) (accepted : List Record) (n m : ℕ) → n ≤ m → take (suc n) (operations ts base accepted m) ≡ operations ts base accepted n
fewer ts base accepted n m le =
    ap (λ l. Load base ∷ l) (first_commits ts (loaded base) n (take m accepted) ∙ ap (commits_from ts (loaded base)) (take-take n m accepted le))

pub seats_see : SeatsSeeTheSource
seats_see s r published [] known legal preserve tables base accepted is within long short history le = absurd history
seats_see s r published (Commit gno batch ∷ seen) known legal preserve tables base accepted is within long short history le = absurd history
seats_see s r published (Load batch ∷ seen) known legal preserve tables base accepted is within long short history le =
    let n = length seen in
    let m = commits_in published in
    let all = length r.accepted in
    let numbered : AreNumbered 1 r.accepted =
    subst (λ (l : List Record). AreNumbered 1 l) (take_longer r.accepted s.log accepted all (omega arith) ∙ take_all all r.accepted (omega arith))
    (take_numbered 1 all s.log (part_is_numbered s.tables (loaded s.base) [] s.log legal.legal)) in
    let ops = operations r.tables r.base (take all r.accepted) in
    let same : published ≡ ops m = is ∙ sym (ops_in_order r.tables r.base r.accepted all m numbered within) in
    let some : length published ≡ suc (length (commits_from r.tables (loaded r.base) (take m (take all r.accepted)))) = ap (λ (l : List Op). length l) same in
    let first : Load batch ∷ seen ≡ ops n =
    shorter published (Load batch ∷ seen) known long short (omega (arith, some, le))
    ∙ ap (take (suc n)) same
    ∙ fewer r.tables r.base (take all r.accepted) n m (omega (arith, le)) in
    let whole = subst (λ (l : List Record). IsLegalLog s.tables (loaded s.base) l) (sym (take-append-drop n s.log)) legal.legal in
    let left = beginning_leaves s.tables (loaded s.base) (take n s.log) (drop n s.log) whole in
    let there : after r.tables (loaded r.base) (take n (take all r.accepted)) ≡ Some left.0 =
    ap (λ (l : List Record). after r.tables (loaded r.base) (take n l)) (take_all all r.accepted (omega arith))
    ∙ ap (λ (ts : List Table). after ts (loaded r.base) (take n r.accepted)) tables
    ∙ ap (λ db. after s.tables db (take n r.accepted)) (sym base)
    ∙ ap (after s.tables (loaded s.base)) (sym (take_longer r.accepted s.log accepted n (omega (arith, le, within))))
    ∙ left.1 in
    let number : n ≡ commits_in (Load batch ∷ seen) = omega arith in
    ap (λ k. after s.tables (loaded s.base) (take k s.log)) (sym number)
    ∙ left.1
    ∙ ap Some (sym (ap left_by first ∙ operations_leave_rows r.tables r.base (take all r.accepted) n left.0 there))
