-- Which transactions are committed, and the low-water mark.
use Rattle.std.specs.Prelude.{ℕ, ◌+◌, ◌%◌, Bool, false, ◌||◌, ◌&&◌, nat_le, List, replicate, slice_index_or}

pub record Marks : Type 0 where
  -- every transaction up to this number is committed, and the next is not
  pub low : ℕ
  -- whether each of the 4096 transactions behind it is committed, at its number modulo 4096
  pub ring : List Bool

-- whether the place of this number is marked
abbrev pub is_marked : List Bool → ℕ → Bool
is_marked ring gno = slice_index_or ring (gno % 4096) false

-- whether the transaction of this number, counted from 1, is committed
abbrev pub is_committed : Marks → ℕ → Bool
is_committed marks gno = nat_le gno marks.low || (nat_le gno (marks.low + 4096) && is_marked marks.ring gno)

-- none is
abbrev pub none_committed : Marks
none_committed = record { low = 0; ring = replicate 4096 false }
