-- What a replica reads of a wire is what was written on it.
use mathlib.Core.List.{IsPrefix}
use Rattle.std.proofs.Common.{◌≡◌, inl, inr, ◌∙◌, sym, ap, subst, refl, ℕ, zero, suc, ◌+◌, ◌≤◌, if◌then◌else◌, true, List, [], ◌∷◌, ◌++◌, length, take}
use Rattle.std.proofs.Common.{◌&&◌, append_assoc, length-append, arith, Option, Some, None, Ok, Err}
use Rattle.std.specs.List.{flat_map, AllByRecursion}
use Rattle.std.specs.Option.{IfSome}
use Rattle.std.proofs.lemmas.Bool.{eq-eqb}
use Rattle.record_codec.specs.declared.records.Record.{Record}
use Rattle.record_codec.specs.Group.{AreNumbered}
use Rattle.record_codec.specs.Log.{after, IsLegalLog}
use Rattle.record_codec.specs.Reading.{record_at}
use Rattle.record_codec.specs.Spelling.{spelling, HasSpelling}
use Rattle.record_codec.specs.Version.{current}
use Rattle.record_codec.proofs.Logs.{beginning_is_legal}
use Rattle.record_codec.proofs.Holding.{numbered_front}
use Rattle.record_codec.proofs.Lengths.{length-spelling}
use Rattle.record_codec.proofs.RecordFields.{record_again}
use Rattle.record_stream.specs.Stream.{AreFirst, Splits, IsPartial}
use Rattle.store_trait.specs.declared.Op.{Op}
use Rattle.store_trait.specs.Operation.{loaded, left_by}
use Rattle.published.specs.History.{commits_in}
use Rattle.log_feed.specs.Feed.{BeginsWith}
use Rattle.log_feed.specs.Laws.{HasFirst, HasHead}
use Rattle.log_feed.proofs.Cut.{one_head, cut_anywhere}
use Rattle.replica_shared.specs.Names.{ReplicaNames}
use Rattle.replica_answers.specs.Followed.{with_next, records_by, records_in, are_numbered, log_in}
use Rattle.replica_answers.specs.Laws.{WereWritten, IsNamedFor, AreAfterSome, ReadsAreOfTheWire}
use Rattle.replica_answers.specs.Replica.{IsAsAfter}

-- ---- the records of bytes that were cut

-- whole records, and then less than one more, have just these
just_by : (n : ℕ) (bytes : List ℕ) (records : List Record) (left : List ℕ) → AreFirst current bytes records left → IsPartial current left → length bytes ≤ n → records_by n bytes ≡ records
just_by zero bytes [] left first partial few = refl
just_by (suc n) bytes [] left first partial few = ap (with_next (records_by n)) (ap (record_at current) first.split ∙ partial)
just_by zero bytes (r ∷ records) left first partial few =
    let text = flat_map (spelling current) records in
    absurd (omega (
      arith,
      few,
      ap (λ (l : List ℕ). length l) first.split,
      length-append (spelling current r ++ text) left,
      length-append (spelling current r) text,
      length-spelling current r,
    ))
just_by (suc n) bytes (r ∷ records) left first partial few =
    let text = flat_map (spelling current) records in
    let rest = text ++ left in
    let split : bytes ≡ spelling current r ++ rest = first.split ∙ append_assoc (spelling current r) text left in
    let read : record_at current bytes ≡ Ok (r, rest) = ap (record_at current) split ∙ record_again current r rest first.have.0 in
    let fewer : length rest ≤ n = omega (arith, few, ap (λ (l : List ℕ). length l) split, length-append (spelling current r) rest, length-spelling current r) in
    ap (with_next (records_by n)) read ∙ ap (λ (l : List Record). r ∷ l) (just_by n rest records left (record { split = refl; have = first.have.1 }) partial fewer)

numbered_so : (n : ℕ) (records : List Record) → AreNumbered n records → are_numbered n records ≡ true
numbered_so n [] are = refl
numbered_so n (r ∷ records) are = ap (λ b. b && are_numbered (n + 1) records) (eq-eqb r.gno n are.0) ∙ numbered_so (n + 1) records are.1

-- the first of numbered records, and less than one more, are a log
log_of : (records : List Record) (rest : List ℕ) → AreNumbered 1 records → (first : HasFirst records rest) → log_in (Some rest) ≡ Some first.those
log_of records rest numbered first =
    let are : records_in rest ≡ first.those = just_by (length rest) rest first.those first.rest first.splits.first first.splits.partial (omega arith) in
    let front : AreNumbered 1 first.those = numbered_front 1 first.those first.begin.0 (subst (AreNumbered 1) (sym first.begin.1) numbered) in
    ap (λ (l : List Record). if are_numbered 1 l then Some l else None) are ∙ ap (λ b. if b then Some first.those else None) (numbered_so 1 first.those front)

-- ---- a beginning of a beginning

-- so many of the front, or all of it, are the first of the whole
first_of : (k : ℕ) (front more : List Record) → (n : ℕ) × (n ≤ length (front ++ more)) × (take n (front ++ more) ≡ take k front)
first_of zero front more = (0, omega arith, refl)
first_of (suc k) [] more = (0, omega arith, refl)
first_of (suc k) (r ∷ front) more =
    let later = first_of k front more in
    (suc later.0, omega (arith, later.1), ap (λ (l : List Record). r ∷ l) later.2)

-- ---- the law

of_records : (names : ReplicaNames) (records log : List Record) (ops : List Op) → names.log ≡ Some log → IsPrefix log records →
    IsLegalLog names.tables (loaded names.base) records → IsAsAfter names ops → AreAfterSome names records ops
of_records names records log ops named begins legal is =
    let whole : IsLegalLog names.tables (loaded names.base) (log ++ begins.0) = subst (IsLegalLog names.tables (loaded names.base)) (sym begins.1) legal in
    let front = beginning_is_legal names.tables (loaded names.base) log begins.0 whole in
    let said : after names.tables (loaded names.base) (take (commits_in ops) log) ≡ Some (left_by ops) =
    subst (λ m. IfSome m (λ l. IsLegalLog names.tables (loaded names.base) l → after names.tables (loaded names.base) (take (commits_in ops) l) ≡ Some (left_by ops))) named is front in
    let first = first_of (commits_in ops) log begins.0 in (
      first.0,
      subst (λ (l : List Record). first.0 ≤ length l) begins.1 first.1,
      ap (λ (l : List Record). after names.tables (loaded names.base) (take first.0 l)) (sym begins.1) ∙ ap (after names.tables (loaded names.base)) first.2 ∙ said,
    )

pub reads_are_of_the_wire : ReadsAreOfTheWire
reads_are_of_the_wire names source text from said rest bytes records ops written read named is =
    elim (cut_anywhere source 1 text records bytes written.is_head written.have written.begin) [
      | inl none ↦ absurd (none.1 from 1 said rest read)
      | inr has ↦
          let same = one_head bytes from source 1 1 said text rest has.left read has.head in
          let log = log_of records has.left written.numbered has.records_are in
          let its : names.log ≡ Some has.records_are.those = named.log ∙ ap (λ (l : List ℕ). log_in (Some l)) same.rests ∙ log in
          (same.sources, same.texts, of_records names records has.records_are.those ops its has.records_are.begin named.legal is)
    ]
