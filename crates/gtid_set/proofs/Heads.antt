-- The identifier at the front of a text, and the colon behind it.
use Rattle.std.proofs.Common.{◌≡◌, ◌≢◌, ◌∙◌, refl, ℕ, ◌<◌, ◌≤◌, false, eqb, List, length, get_or, take, drop, Option, Some, None, Ok, Err, arith}
use Rattle.std.proofs.lemmas.Bool.Decides.{nat_tests}
use Rattle.std.proofs.lemmas.List.{length-take, drop_all}
use Rattle.std.proofs.Math.Seq.{drop-cons}
use Rattle.uuid.specs.Text.{parsed, parsed_hyphenated}
use Rattle.gtid_set.specs.declared.fault.GtidFault.{GtidFault}
use Rattle.gtid_set.specs.declared.fault.GtidFault.TheVariants.{BadUuid, BadInterval}
use Rattle.gtid_set.specs.Reading.{source_at, head_at, is_colon}

parsed_at_36 : (s : List ℕ) → length s ≡ 36 → parsed s ≡ parsed_hyphenated s
parsed_at_36 s len = rw len refl

none_from : (o : Option (List ℕ)) → (((u : List ℕ) × (o ≡ Some u)) → ⊥) → Err BadUuid ≡ source_at o
none_from None h = refl
none_from (Some u) h = absurd (h (u, refl))

pub no_source : (name : List ℕ) → length name ≡ 36 → (((u : List ℕ) × (parsed name ≡ Some u)) → ⊥) → Err BadUuid ≡ source_at (parsed_hyphenated name)
no_source name len h = none_from (parsed_hyphenated name) (λ w. h (w.0, parsed_at_36 name len ∙ w.1))

short_none : (s : List ℕ) → length s < 36 → parsed_hyphenated s ≡ None
short_none s lt =
    let no : eqb (length s) 36 ≡ false = grind (arith, nat_tests) in
    rw no refl

pub head_short : (text : List ℕ) → length text < 36 → head_at text ≡ Err BadUuid
unfolding head_at
head_short text lt =
    let none = short_none (take 36 text) (omega (arith, length-take 36 text)) in
    rw none refl

pub head_bad : (text : List ℕ) (fault : GtidFault) → source_at (parsed_hyphenated (take 36 text)) ≡ Err fault → head_at text ≡ Err fault
unfolding head_at
head_bad text fault e = rw e refl

pub head_ends : (text source : List ℕ) → source_at (parsed_hyphenated (take 36 text)) ≡ Ok source → length text ≤ 36 → head_at text ≡ Err BadInterval
unfolding head_at
head_ends text source e le = rw (e, drop_all 36 text le) refl

no_colon : (c : ℕ) → c ≢ 58 → is_colon c ≡ false
no_colon c h = grind (arith, nat_tests)

pub head_goes : (text source : List ℕ) → source_at (parsed_hyphenated (take 36 text)) ≡ Ok source → 36 < length text → get_or text 36 0 ≢ 58 → head_at text ≡ Err BadInterval
unfolding head_at
head_goes text source e lt ne = rw (e, drop-cons text 36 0 lt, no_colon (get_or text 36 0) ne) refl

pub head_is : (text source : List ℕ) → source_at (parsed_hyphenated (take 36 text)) ≡ Ok source → 36 < length text → get_or text 36 0 ≡ 58 → head_at text ≡ Ok (source, drop 37 text)
unfolding head_at
head_is text source e lt is = rw (e, drop-cons text 36 0 lt, is) refl
