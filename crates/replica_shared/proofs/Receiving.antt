-- When a record is told to be of another source.
use Rattle.std.proofs.Common.{◌≡◌, ◌∙◌, sym, ap, subst, refl, ℕ, ◌+◌, ◌⊎◌, inl, inr, Bool, true, false, not, ◌==◌, nat_le, List, length, Option, Some, None, Result, Ok, Err, IsErrAnd, if◌then◌else◌}
use Rattle.std.specs.Option.{option_map_or}
use Rattle.std.specs.Str.{bytes_eq}
use Rattle.record_codec.specs.declared.records.Record.{Record}
use Rattle.relay.specs.declared.ReplicaFault.{ReplicaFault}
use Rattle.relay.specs.declared.ReplicaFault.TheVariants as faults
use Rattle.relay.specs.declared.Received.{Received}
use Rattle.relay.specs.declared.Received.TheVariants.{Accepted, Skipped}
use Rattle.relay.specs.Relay.{is_malformed, is_covered}
use Rattle.replica_core.specs.Replica.{Replica}
use Rattle.replica_core.specs.Calls.{received}
use Rattle.replica_shared.specs.Names.{ReplicaNames}
use Rattle.replica_shared.specs.Together.{IsStop}
use Rattle.replica_shared.specs.Feeding.{Receives}

-- the answer to a record of the source, where the replica is not stopped
abbrev of_own : Bool → Bool → Bool → Bool → Result Received ReplicaFault
of_own bad old next covered =
    if bad then Err faults.Malformed else if old then Ok Skipped else if not next then Err faults.Gap else if not covered then Err faults.BadParent else Ok Accepted

abbrev told_of : Option ℕ → Bool → Result Received ReplicaFault → Result Received ReplicaFault
told_of stopped same own = option_map_or (λ at. Err (faults.Stopped at)) stopped (if not same then Err faults.ForeignSource else own)

foreign_told : (stopped : Option ℕ) (own : Result Received ReplicaFault) → IsErrAnd (told_of stopped false own) (λ fault. (fault ≡ faults.ForeignSource) ⊎ IsStop fault)
foreign_told None own = inl refl
foreign_told (Some at) own = inr (at, refl)

never_accepted : (stopped : Option ℕ) (own : Result Received ReplicaFault) → told_of stopped false own ≡ Ok Accepted → ⊥
never_accepted None own is = cc
never_accepted (Some at) own is = cc

own_told : (stopped : Option ℕ) (same bad old next covered : Bool) → told_of stopped same (of_own bad old next covered) ≡ Err faults.ForeignSource → same ≡ false
own_told stopped false bad old next covered is = refl
own_told (Some at) true bad old next covered is = cc
own_told None true true old next covered is = cc
own_told None true false true next covered is = cc
own_told None true false false false covered is = cc
own_told None true false false true false is = cc
own_told None true false false true true is = cc

module _ {names : ReplicaNames} {preserve : Bool} {from : List ℕ} {new : Record} {answer : Result Received ReplicaFault}
    (h : Receives names preserve from new answer) where
  abbrev r : Replica
  r = h.before

  abbrev own : Result Received ReplicaFault
  own = of_own (is_malformed r.tables new) (nat_le new.gno (length r.accepted)) (new.gno == length r.accepted + 1) (is_covered r.accepted new)

  -- a record of another source is refused as such, unless the replica is stopped
  pub refuses_foreign : bytes_eq from names.source ≡ false → IsErrAnd answer (λ fault. (fault ≡ faults.ForeignSource) ⊎ IsStop fault)
  refuses_foreign other = elim h.told [
    | inl lacks ↦ absurd (never_accepted r.stopped own (sym is ∙ h.memory lacks))
    | inr told ↦ subst (λ (a : Result Received ReplicaFault). IsErrAnd a (λ fault. (fault ≡ faults.ForeignSource) ⊎ IsStop fault)) (sym (told ∙ is)) (foreign_told r.stopped own)
  ]
    where
      is : received r from new ≡ told_of r.stopped false own
      is = ap (λ (b : Bool). told_of r.stopped b own) (ap (bytes_eq from) h.named.1 ∙ other)

  -- and one of its own never is
  pub refuses_no_own : answer ≡ Err faults.ForeignSource → bytes_eq from names.source ≡ false
  refuses_no_own is = elim h.told [
    | inl lacks ↦ absurd (never answer is lacks)
    | inr told ↦ ap (bytes_eq from) (sym h.named.1)
        ∙ own_told r.stopped (bytes_eq from r.source) (is_malformed r.tables new) (nat_le new.gno (length r.accepted)) (new.gno == length r.accepted + 1)
        (is_covered r.accepted new) (sym told ∙ is)
  ]
    where
      never : (told : Result Received ReplicaFault) → told ≡ Err faults.ForeignSource → told ≡ Err faults.Memory → ⊥
      never told foreign lacks = cc
