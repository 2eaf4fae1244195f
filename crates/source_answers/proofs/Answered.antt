-- What a write, a flush and a commit answer, by what their calls tell.
use Rattle.std.proofs.Common.{◌≡◌, ◌∙◌, sym, ap, subst, refl, ℕ, ◌+◌, ◌-◌, Bool, true, false, List, [], ◌∷◌, ◌++◌, length, length-append, map, drop, Option, Some, None, IsSome, Result, Ok}
use Rattle.std.proofs.Common.{Err, inl, inr, ◌⊎◌, arith}
use Rattle.std.specs.Result.{result_err, OnOk, OnErr, IsErrOf}
use Rattle.std.specs.Prelude.{◌==◌, if◌then◌else◌}
use Rattle.std.proofs.lemmas.Bool.{eqb-true}
use Rattle.std.proofs.lemmas.Option.{none-some, same_Some}
use Rattle.std.proofs.Math.Seq.{drop-append_seam}
use Rattle.record_codec.specs.declared.records.Record.{Record}
use Rattle.record_codec.specs.Group.{GroupValue}
use Rattle.source_core.specs.declared.fault.SourceFault.{SourceFault}
use Rattle.source_core.specs.declared.fault.SourceFault.TheVariants.{Halted, Memory}
use Rattle.source_core.specs.Source.{Source, IsSound}
use Rattle.source_core.specs.Calls.{cause, seen_log, halted_fault, ends_committed}
use Rattle.source_core.proofs.Flush.Ends.{as_many, group_ends}
use Rattle.durable_source.specs.Durable.{Durable}
use Rattle.durable_source.specs.Calls.{with_source, GroupWaits}
use Rattle.world.specs.declared.events.Reply.TheVariants as replies
use Rattle.world.specs.Legal.{refused_or, stamp_of}
use Rattle.source_answers.specs.Answers.{CallAnswers, WriteAnswers, FlushAnswers, CommitAnswers}
use Rattle.source_answers.specs.Puts.{is_end}

pub wrote : {D : Type 0} (old new : Durable D) (fault : Option SourceFault) (next : Source) (answer : Result (Unit {0}) SourceFault) →
    IsErrOf answer Memory ⊎ (result_err answer ≡ fault) → (IsErrOf answer Memory → fault ≡ None) → OnOk answer ((fault ≡ None) × (new ≡ with_source old next)) → OnErr answer (new ≡ old) →
    WriteAnswers fault next old (refused_or (result_err answer) replies.Done) new
wrote old new fault next (Ok done) exact memory ok err = inl (subst (λ (f : Option SourceFault). CallAnswers f replies.Done next old replies.Done new) (sym ok.0) (refl, ok.1))
wrote old new fault next (Err refusal) (inl lacks) memory ok err =
    let is : refusal ≡ Memory = cc (lacks) in inr (memory lacks, (ap replies.Source is, err))
wrote old new fault next (Err refusal) (inr exact) memory ok err =
    inl (subst (λ (f : Option SourceFault). CallAnswers f replies.Done next old (replies.Source refusal) new) exact (refl, err))

-- where the group of a flush stands in the log
pub waits_behind : (old new : Source) (before now : List GroupValue) (told : ℕ × ℕ) → IsSound old → (w : GroupWaits old before told new now) →
    (told.0 ≡ length old.log + 1) × (length new.log ≡ length old.log + length old.queue) × (drop (told.0 - 1) new.log ≡ w.flushes.records)
waits_behind old new before now told sound w =
    let f = w.flushes in
    let log : new.log ≡ old.log ++ f.records = ap (λ (s : Source). s.log) f.leaves in
    let first : told.0 ≡ length old.log + 1 = ap (λ (t : ℕ × ℕ). t.0) w.told_are ∙ (group_ends old new w.group sound f).0 in
    let place : told.0 - 1 ≡ length old.log = omega (arith, first) in
    let long : length new.log ≡ length old.log + length old.queue =
    omega (arith, ap (λ (l : List Record). length l) log, length-append old.log f.records, as_many old (seen_log old) old.queue f.records f.are) in
    (first, long, (λ i. drop (place i) (log i)) ∙ drop-append_seam old.log f.records)

pub flush_waits : {D : Type 0} (old new : Durable D) (told : ℕ × ℕ) (stamps : List (ℕ × ℕ)) → old.source.halted ≡ false → (old.source.queue ≡ [] → ⊥) → IsSound old.source →
    (w : GroupWaits old.source old.unsynced told new.source new.unsynced) → new.set ≡ old.set → stamps ≡ map stamp_of (drop (told.0 - 1) new.source.log) →
    FlushAnswers old.source.halted old.source.queue old (replies.Flushed told.0 stamps) new
flush_waits {D} old new told stamps runs some sound w set are = subst (λ b. FlushAnswers b old.source.queue old (replies.Flushed told.0 stamps) new) (sym runs) (by old.source.queue refl)
  where
    by : (queue : List ℕ) → old.source.queue ≡ queue → FlushAnswers false queue old (replies.Flushed told.0 stamps) new
    by [] is = absurd (some is)
    by (first ∷ rest) is =
        let at = waits_behind old.source new.source old.unsynced new.unsynced told sound w in
        inl (record { told = told; waits = w; set = set; says = λ i. replies.Flushed (at.0 i) ((are ∙ ap (map stamp_of) at.2) i) })

-- ---- a commit that is refused

all_committed_if : (committed synced : ℕ) (ends : ℕ × ℕ) → (if committed == synced then None else Some ends) ≡ None → committed ≡ synced
all_committed_if committed synced ends none = by (committed == synced) refl none
  where
    by : (b : Bool) → (committed == synced) ≡ b → (if b then None else Some ends) ≡ None → committed ≡ synced
    by true is none = eqb-true committed synced is
    by false is none = absurd (cc (none))

pub commit_refused : {D T : Type 0} (old new : Durable D) (fault : SourceFault) → IsErrOf {T = T} (Err fault) Memory ⊎ (Some fault ≡ halted_fault old.source) →
    (IsSome (halted_fault old.source) → Some fault ≡ halted_fault old.source) → (old.source.committed ≡ old.source.synced → Some fault ≡ halted_fault old.source) → new ≡ old →
    CommitAnswers old.source.halted (ends_committed old.source) old (replies.Source fault) new × (is_end (replies.Source fault) ≡ true)
commit_refused {D} {T} old new fault exact refused no_memory same = by old.source.halted refl (ends_committed old.source) refl exact
  where
    halts_so : (b : Bool) → old.source.halted ≡ b → halted_fault old.source ≡ cause b Halted None
    halts_so b is = ap (λ x. cause x Halted None) is

    by : (b : Bool) → old.source.halted ≡ b → (its_ends : Option (ℕ × ℕ)) → ends_committed old.source ≡ its_ends → IsErrOf {T = T} (Err fault) Memory ⊎ (Some fault ≡ halted_fault old.source) →
        CommitAnswers b its_ends old (replies.Source fault) new × (is_end (replies.Source fault) ≡ true)
    by true is its_ends it exact =
        let halts = halts_so true is in
        let is_halted : fault ≡ Halted = same_Some fault Halted (refused (subst (λ (o : Option SourceFault). IsSome o) (sym halts) refl) ∙ halts) in
        ((ap replies.Source is_halted, same), ap (λ (f : SourceFault). is_end (replies.Source f)) is_halted)
    by false is its_ends it (inr cause_is) = absurd (none-some fault (sym (cause_is ∙ halts_so false is)))
    by false is None it (inl memory) = absurd (none-some fault (sym (no_memory (all_committed_if old.source.committed old.source.synced _ it) ∙ halts_so false is)))
    by false is (Some its_ends) it (inl memory) =
        let is_memory : fault ≡ Memory = cc (memory) in (inr (ap replies.Source is_memory, same), ap (λ (f : SourceFault). is_end (replies.Source f)) is_memory)
