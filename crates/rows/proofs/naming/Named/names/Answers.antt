use Rattle.std.proofs.Common.{◌≡◌, sym, ap, arith, ◌∙◌, ◌≤◌, ◌==◌, false, nat_lt}
use Rattle.std.proofs.lemmas.Bool.Decides.{nat_tests}
use Rattle.std.proofs.lemmas.Nat.Bits.{bit_at_above}
use Rattle.rows.specs.Naming.{names_column}
use Rattle.rows.proofs.naming.Named.names.Goals as goal

pub returns-else-column-lt16 : goal.returns-else-column-lt16
returns-else-column-lt16 c =
    let above : 16 ≤ c.args.column = omega arith in
    let not_lower : nat_lt c.args.column 16 ≡ false = grind (arith, nat_tests) in
    not_lower ∙ sym (ap (λ n. n == 1) (bit_at_above c.self.inside.mask 16 c.args.column c.self.invariant.low above)) ∙ ap (λ n. names_column n.mask c.args.column) c.self.view_is
