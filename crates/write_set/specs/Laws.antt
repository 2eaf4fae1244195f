-- What follows from the definitions.
use Rattle.std.specs.Prelude.{◌≡◌, ℕ, ◌&&◌, ◌||◌, ◌==◌, List}
use Rattle.std.specs.List.{list_any}
use Rattle.std.specs.List.Sorted.{IsStrictlyIncreasing}
use Rattle.schema.specs.declared.Table.{Table}
use Rattle.log_index.specs.declared.Footprint.{Footprint}
use Rattle.write_set.specs.Digest.{digest_of, mark_digest, is_keyed, digests_of}

-- a number is among the digests of a footprint just where it is the digest of a row in a keyed table that it writes, or of a mark
abbrev pub HasJustTheDigests : Type 0
HasJustTheDigests =
    (tables : List Table) (t : Footprint) (d : ℕ) →
    list_any (λ n. d == n) (digests_of tables t)
    ≡ (list_any (λ row. is_keyed tables row && (d == digest_of row)) t.writes || list_any (λ mark. d == mark_digest mark) t.marks)

-- the digests of a footprint rise
abbrev pub DigestsRise : Type 0
DigestsRise = (tables : List Table) (t : Footprint) → IsStrictlyIncreasing (digests_of tables t)
