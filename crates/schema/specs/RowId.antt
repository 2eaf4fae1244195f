-- The order of row ids: by table, and then by key.
use Rattle.std.specs.Prelude.{◌≡◌, ℕ, ℤ, Bool, refl}
use Rattle.std.specs.Ordering.{nat_cmp, int_cmp, ordering_then, eq_by_cmp}
use Rattle.std.specs.declared.cmp.Ordering.{Ordering}
use Rattle.std.specs.declared.cmp.Ordering.TheVariants.{Equal}
use Rattle.std.specs.Cmp.{IsTotalOrder, nat_cmp_total, int_cmp_total}
use Rattle.std.specs.Coded.{Coded, code_by, coded×, coded_ℕ, coded_ℤ}
use Rattle.std.proofs.Common.{ap}
use Rattle.std.proofs.lemmas.Cmp.{on_total, then_total}
use Rattle.std.proofs.lemmas.Map.Lookups.{exact_unsigned, exact_signed, exact_pairs}
use Rattle.schema.specs.declared.RowId.{RowId}

-- by table, and then by key
abbrev pub row_cmp : RowId → RowId → Ordering
row_cmp a b = ordering_then (nat_cmp a.table b.table) (int_cmp a.key b.key)

-- whether two row ids name one row
abbrev pub same_row : RowId → RowId → Bool
same_row a b = eq_by_cmp row_cmp a b

-- as a pair of numbers
abbrev pub coded_row_id : Coded RowId
coded_row_id = code_by (ℕ × ℤ) (coded× coded_ℕ coded_ℤ) (λ r. (r.table, r.key)) (λ p. record { table = p.0; key = p.1 }) (λ _. refl)

-- row ids that compare alike are one
pub exact_row : (a b : RowId) → row_cmp a b ≡ Equal → a ≡ b
exact_row a b h = ap (λ (p : ℕ × ℤ). record { table = p.0; key = p.1 }) (exact_pairs nat_cmp int_cmp exact_unsigned exact_signed (a.table, a.key) (b.table, b.key) h)

pub row_total : IsTotalOrder row_cmp
row_total = then_total (on_total (λ r. r.table) nat_cmp_total) (on_total (λ r. r.key) int_cmp_total)
