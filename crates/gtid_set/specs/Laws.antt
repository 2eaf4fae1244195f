-- What follows from the definitions.
use Rattle.std.specs.Prelude.{◌≡◌, ℕ, ◌+◌, ◌^◌, ◌<◌, ◌&&◌, nat_le, List, length, None, Ok, IfSome}
use Rattle.std.specs.List.{All}
use Rattle.std.specs.Str.{bytes_eq}
use Rattle.schema.specs.declared.Gtid.{Gtid}
use Rattle.gtid_set.specs.Numbers.{has_number}
use Rattle.gtid_set.specs.Ids.{Ids, IsSet, first_ids, has_id, add_fault, Adds, IsSetOf}
use Rattle.gtid_set.specs.Text.{text_of}
use Rattle.gtid_set.specs.Reading.{ids_at}

-- sets of one source with the same numbers are one
abbrev pub OneSet : Type 0
OneSet = (a b : Ids) → IsSet a → IsSet b → a.source ≡ b.source → ((n : ℕ) → has_number a.numbers n ≡ has_number b.numbers n) → a ≡ b

-- what an identifier is: sixteen bytes
pub record IsIdentifier (source : List ℕ) : Type 0 where
  pub sixteen : length source ≡ 16
  pub bytes : All (λ b. b < 256) source

-- the text of a set lists its own intervals
abbrev pub TextIsRead : Type 0
TextIsRead = (ids : Ids) → IsSet ids → IfSome ids.source IsIdentifier → ids_at (text_of ids) ≡ Ok ids

-- so the set of what its text lists is the set itself
abbrev pub TextGivesSet : Type 0
TextGivesSet = (ids listed set : Ids) → IsSet ids → IfSome ids.source IsIdentifier → ids_at (text_of ids) ≡ Ok listed → IsSetOf listed set → set ≡ ids

-- and no two sets have one text
abbrev pub OneText : Type 0
OneText = (a b : Ids) → IsSet a → IsSet b → IfSome a.source IsIdentifier → IfSome b.source IsIdentifier → text_of a ≡ text_of b → a ≡ b

-- the first ids of a source are those that are numbered from 1 to the last one
abbrev pub FirstIds : Type 0
FirstIds = (source : List ℕ) (n : ℕ) (id : Gtid) → has_id (first_ids source n) id ≡ (bytes_eq source id.source && (nat_le 1 id.gno && nat_le id.gno n))

-- the next id may go in, and with it they are the first ids, one more
abbrev pub NextIdFits : Type 0
NextIdFits = (source : List ℕ) (n : ℕ) → n + 1 < 2 ^ 63 → add_fault (first_ids source n) (record { source = source; gno = n + 1 }) ≡ None

abbrev pub NextId : Type 0
NextId = (source : List ℕ) (n : ℕ) (new : Ids) → n + 1 < 2 ^ 63 → Adds (first_ids source n) new (record { source = source; gno = n + 1 }) → new ≡ first_ids source (n + 1)
