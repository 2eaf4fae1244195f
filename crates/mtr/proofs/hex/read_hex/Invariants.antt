use Rattle.std.proofs.Common.{◌≡◌, map, Some, List, ℕ}
use Rattle.std.specs.Io.KnownBytes.{Consumes}
use Rattle.script_text.specs.HexText.{digits_read}
use Rattle.mtr.proofs.hex.read_hex.Given as goal

-- what was read so far has these digits
abbrev pub invariant-loop : goal.invariant-loop
invariant-loop g l = (text : List ℕ) × Consumes (g.R.Read.remaining l.fn.input) (g.R.Read.remaining l.input) text × (digits_read text ≡ map Some l.digits)
