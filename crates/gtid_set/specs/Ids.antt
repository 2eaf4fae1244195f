-- Sets of ids of one source.
use Rattle.std.specs.Prelude.{◌≡◌, ℕ, Bool, true, not, ◌&&◌, ◌||◌, ◌==◌, if◌then◌else◌, List, [], ◌∷◌, length, Option, Some, None, is_none}
use Rattle.std.specs.Str.{bytes_eq}
use Rattle.schema.specs.declared.Gtid.{Gtid}
use Rattle.gtid_set.specs.declared.fault.GtidFault.{GtidFault}
use Rattle.gtid_set.specs.declared.fault.GtidFault.TheVariants.{BadNumber, ForeignSource}
use Rattle.gtid_set.specs.declared.intervals.Interval.{Interval}
use Rattle.gtid_set.specs.Numbers.{is_gno, has_number, AreNumbers}

-- the identifier of the source, its bytes, and the numbers
pub record Ids : Type 0 where
  pub source : Option (List ℕ)
  pub numbers : List Interval

-- The numbers are the one list of their set, and there is a source exactly where there are numbers.
pub record IsSet (ids : Ids) : Type 0 where
  pub numbers : AreNumbers ids.numbers
  pub source : is_none ids.source ≡ (length ids.numbers == 0)

-- no id
abbrev pub no_ids : Ids
no_ids = record { source = None; numbers = [] }

-- the ids of a source from 1 to this number
abbrev pub first_ids : List ℕ → ℕ → Ids
first_ids source n = if n == 0 then no_ids else record { source = Some source; numbers = record { first = 1; last = n } ∷ [] }

-- whether ids of this source may go in: those of the set's own one, or of any where it has none
abbrev pub takes_source : Option (List ℕ) → List ℕ → Bool
takes_source None source = true
takes_source (Some own) source = bytes_eq own source

-- whether the set has the id
abbrev pub has_id : Ids → Gtid → Bool
has_id ids id = takes_source ids.source id.source && has_number ids.numbers id.gno

-- why an id cannot go in: first its number, then its source
abbrev pub add_fault : Ids → Gtid → Option GtidFault
add_fault ids id =
    if not (is_gno id.gno) then Some BadNumber
    else if not (takes_source ids.source id.source) then Some ForeignSource
    else None

-- the set with this id too, and no other
pub record Adds (old new : Ids) (id : Gtid) : Type 0 where
  pub is_set : IsSet new
  pub source : new.source ≡ Some id.source
  pub numbers : (m : ℕ) → has_number new.numbers m ≡ (has_number old.numbers m || (m == id.gno))

-- the set of all ids that are listed, in intervals that may lie in any way
pub record IsSetOf (listed ids : Ids) : Type 0 where
  pub is_set : IsSet ids
  pub source : ids.source ≡ listed.source
  pub numbers : (m : ℕ) → has_number ids.numbers m ≡ has_number listed.numbers m
