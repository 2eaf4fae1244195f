-- The first fault of a list of tables, a table at a time.
use Rattle.std.proofs.Common.{◌≡◌, ◌∙◌, sym, ℕ, ◌+◌, ◌<◌, List, [], ◌∷◌, ◌++◌, length, take, drop, Option, Some, None, is_some, true, false, arith, add-one, inl, inr}
use Rattle.std.specs.List.{slice_get}
use Rattle.std.specs.Option.{option_or, option_and_then}
use Rattle.std.proofs.Math.Seq.{drop-cons}
use Rattle.std.proofs.lemmas.Option.{slice_get_cases}
use Rattle.std.proofs.lemmas.List.{take_more}
use Rattle.schema.specs.declared.Table.{Table}
use Rattle.schema.specs.declared.SchemaFault.{SchemaFault}
use Rattle.schema.specs.Schema.{fault_from, table_fault}

-- the first fault from place i on is that of the table there, and else the first from place i + 1 on
pub fault_step : (ts : List Table) (i : ℕ) (fault : Option SchemaFault) → i < length ts → Some fault ≡ option_and_then (λ t. Some (table_fault ts (take i ts) t)) (slice_get ts i) →
    fault_from ts (take i ts) (drop i ts) ≡ option_or fault (fault_from ts (take (i + 1) ts) (drop (i + 1) ts))
fault_step ts i fault h e =
    elim (slice_get_cases ts i).1 [
      | inl w ↦
          let t = w.0 in
          let here : drop i ts ≡ t ∷ drop (i + 1) ts = drop-cons ts i t h ∙ rw (add-one, w.3) in
          let front : take (i + 1) ts ≡ take i ts ++ t ∷ [] = take_more ts i t h ∙ rw w.3 in
          let is : Some fault ≡ Some (table_fault ts (take i ts) t) = e ∙ rw w.2 in
          rw (here, front) (cc is)
      | inr w ↦ absurd (omega (arith, w.0))
    ]

-- where the table at place i has no fault, the first is behind it
pub no_fault_here : (ts : List Table) (i : ℕ) (fault first : Option SchemaFault) → i < length ts → Some fault ≡ option_and_then (λ t. Some (table_fault ts (take i ts) t)) (slice_get ts i) →
    is_some fault ≡ false → fault_from ts (take i ts) (drop i ts) ≡ first → fault_from ts (take (i + 1) ts) (drop (i + 1) ts) ≡ first
no_fault_here ts i None first h e n so_far = sym (fault_step ts i None h e) ∙ so_far
no_fault_here ts i (Some fault) first h e n so_far = cc

-- where it has one, that is the first
pub fault_here : (ts : List Table) (i : ℕ) (fault first : Option SchemaFault) → i < length ts → Some fault ≡ option_and_then (λ t. Some (table_fault ts (take i ts) t)) (slice_get ts i) →
    is_some fault ≡ true → fault_from ts (take i ts) (drop i ts) ≡ first → fault ≡ first
fault_here ts i None first h e n so_far = cc
fault_here ts i (Some fault) first h e n so_far = sym (fault_step ts i (Some fault) h e) ∙ so_far
