-- What a relay makes of a legal log.
use Rattle.std.proofs.Common.{◌≡◌, ℕ, ◌+◌, ◌<◌, true, List, [], ◌∷◌, ◌++◌, length, take, refl, sym, ap, subst, ◌∙◌, arith, inl, inr, length-append, length-take}
use Rattle.std.specs.List.{list_all}
use Rattle.std.proofs.lemmas.Bool.{cases_eq, cases_lt, and_from}
use Rattle.std.specs.Cmp.{booleans_Decides}
use Rattle.std.proofs.Math.Bool.{beq}
use Rattle.schema.specs.declared.Table.{Table}
use Rattle.schema.specs.declared.Flags.{Flags}
use Rattle.schema.specs.Flags.{flags_of}
use Rattle.rows.specs.Database.{writes}
use Rattle.rows.specs.Shape.{is_shaped}
use Rattle.record_codec.specs.declared.records.Record.{Record}
use Rattle.record_codec.specs.Log.{AreShaped}
use Rattle.relay.specs.Form.{has_flags}
use Rattle.relay.specs.Relay.{received, IsAcceptable}
use Rattle.relay.specs.Laws.{LegalIsAcceptable, ReceivesOfLog}
use Rattle.record_codec.proofs.Logs.{split_at}
use Rattle.rows.proofs.Given.{given_parents_are_kin, given_marks_are_marks}
use Rattle.relay.proofs.Referred.{refs_are_parents, marks_are_unique}
use Rattle.relay.proofs.Stated.{all_have_refs, all_have_marks}
use Rattle.relay.proofs.Judged.{well_formed_record, acceptable_is_accepted, is_skipped, is_gap, by_number, at_most, at_next, past_next}

shaped_in : (ts : List Table) (front rest : List Record) (new : Record) → AreShaped ts (front ++ new ∷ rest) → list_all (is_shaped ts) new.changes ≡ true
shaped_in ts [] rest new all = all.0
shaped_in ts (r ∷ front) rest new all = shaped_in ts front rest new all.1

within : (log front rest : List Record) (new : Record) → log ≡ front ++ new ∷ rest → length front < length log
within log front rest new e = omega (arith, ap length e, length-append front (new ∷ rest))

-- flags that are those of the tables that are written pass the test
flags_fit : (ts : List Table) (new : Record) → new.flags ≡ flags_of ts (writes new.changes) → has_flags ts new ≡ true
flags_fit ts new is =
    let flags = flags_of ts (writes new.changes) in
    let fk : beq new.flags.fk flags.fk ≡ true = (booleans_Decides new.flags.fk flags.fk).1 (ap (λ (f : Flags). f.fk) is) in
    let keys : beq new.flags.missing_keys flags.missing_keys ≡ true = (booleans_Decides new.flags.missing_keys flags.missing_keys).1 (ap (λ (f : Flags). f.missing_keys) is) in
    and_from (beq new.flags.fk flags.fk) (beq new.flags.missing_keys flags.missing_keys) fk keys

pub legal_is_acceptable : LegalIsAcceptable
legal_is_acceptable ts base log legal shaped few = λ front new rest e.
    let next = legal front new rest e in
    let lt = within log front rest new e in
    record {
      gno = next.gno;
      sequence = next.sequence;
      bound = omega (arith, next.gno);
      below = next.below;
      covers = next.covers;
      shaped = shaped_in ts front rest new (subst (λ (l : List Record). AreShaped ts l) e shaped);
      flags = flags_fit ts new next.flags;
      parents = refs_are_parents ts new.changes next.before new.refs next.refs;
      refs = all_have_refs ts new.changes new.refs (λ q is. next.refs q ∙ given_parents_are_kin ts new.changes next.before next.leaves q next.applies is);
      unique = marks_are_unique ts new.changes next.before new.marks next.marks;
      marks = all_have_marks ts new.changes new.marks (λ mark is. next.marks mark ∙ given_marks_are_marks ts new.changes next.before next.leaves mark next.applies is);
    }

take_front : (front rest : List Record) (new : Record) → take (length front) (front ++ new ∷ rest) ≡ front
take_front [] rest new = refl
take_front (r ∷ front) rest new = ap (λ l. r ∷ l) (take_front front rest new)

-- what is answered to a record whose number is this
answered : (ts : List Table) (source : List ℕ) (accepted front : List Record) (n gone : ℕ) (new : Record) →
    length accepted ≡ n → IsAcceptable ts front new → (length front ≡ n → accepted ≡ front) →
    received (record { tables = ts; source = source; accepted = accepted; gone = gone }) source new ≡ by_number new.gno n
answered ts source accepted front n gone new long is same =
    elim (cases_lt n new.gno) [
      | inl lt ↦
          elim (cases_eq new.gno (n + 1)) [
            | inl e ↦
                let here : IsAcceptable ts accepted new = subst (λ (l : List Record). IsAcceptable ts l new) (sym (same (omega (arith, is.gno)))) is in
                acceptable_is_accepted (record { tables = ts; source = source; accepted = accepted; gone = gone }) source new refl here ∙ sym (at_next new.gno n e)
            | inr ne ↦
                is_gap (record { tables = ts; source = source; accepted = accepted; gone = gone }) source new refl (well_formed_record ts front new is) (omega arith)
                ∙ sym (past_next new.gno n (omega arith))
          ]
      | inr le ↦
          is_skipped (record { tables = ts; source = source; accepted = accepted; gone = gone }) source new refl (well_formed_record ts front new is) (omega arith) ∙ sym (at_most new.gno n le)
    ]

pub receives_of_log : ReceivesOfLog
receives_of_log ts base source log n gone place new legal shaped few le at =
    let w = split_at log place new at in
    let is = legal_is_acceptable ts base log legal shaped few w.0 new w.1 w.2 in
    answered ts source (take n log) w.0 n gone new (omega (arith, length-take n log)) is (λ e. ap (take n) w.2 ∙ ap (λ k. take k (w.0 ++ new ∷ w.1)) (sym e) ∙ take_front w.0 w.1 new)
