-- What a text lists: a source, and intervals; or else the first fault from the left.
use Rattle.std.specs.Prelude.{IsSome, ◌≡◌, ◌⊎◌, ℕ, ◌^◌, ◌≤◌, Bool, false, not, ◌&&◌, ◌==◌, nat_lt, nat_le, if◌then◌else◌, List, [], ◌∷◌, ◌++◌, length, take, drop, Option, Some, None, Result, Ok, Err}
use Rattle.std.specs.Char.{is_ascii_digit}
use Rattle.std.specs.Fmt.{decimal}
use Rattle.std.specs.List.{list_all, slice_split, before_first, after_first, position_or_len}
use Rattle.std.specs.Str.Parse.{digits_value}
use Rattle.uuid.specs.Text.{parsed_hyphenated}
use Rattle.gtid_set.specs.declared.fault.GtidFault.{GtidFault}
use Rattle.gtid_set.specs.declared.fault.GtidFault.TheVariants.{BadUuid, BadNumber, BadInterval, Memory}
use Rattle.gtid_set.specs.declared.intervals.Interval.{Interval}
use Rattle.gtid_set.specs.Numbers.{IsInterval}
use Rattle.gtid_set.specs.Ids.{Ids, IsSetOf, no_ids}

infixl 10 ◌>>=◌
abbrev pub ◌>>=◌ : {A B : Type 0} → Result A GtidFault → (A → Result B GtidFault) → Result B GtidFault
(Ok x) >>= f = f x
(Err fault) >>= f = Err fault

-- what a call refuses is the fault that reading meets, unless memory ran out
abbrev pub Fails : {Y : Type 0} → GtidFault → Result Y GtidFault → Type 0
Fails Memory read = Unit {0}
Fails fault read = read ≡ Err fault

-- what a call answers, seen by view, is what reading gives, unless memory ran out
abbrev pub Gives : {X Y : Type 0} → (X → Y) → Result X GtidFault → Result Y GtidFault → Type 0
Gives view (Ok x) read = read ≡ Ok (view x)
Gives view (Err fault) read = Fails fault read

-- ---- a list of intervals

-- some digits, of which the first is not 0
abbrev pub is_number : List ℕ → Bool
is_number [] = false
is_number (c ∷ cs) = not (c == 48) && list_all is_ascii_digit (c ∷ cs)

-- the number that a text is, where a transaction may have it
unfoldable pub number_at : List ℕ → Result ℕ GtidFault
number_at text = if is_number text && nat_lt (digits_value 10 text) (2 ^ 63) then Ok (digits_value 10 text) else Err BadNumber

abbrev pub is_hyphen : ℕ → Bool
is_hyphen b = b == 45

abbrev pub is_colon : ℕ → Bool
is_colon b = b == 58

-- the interval from one number to another
abbrev pub interval_of : ℕ → ℕ → Result Interval GtidFault
interval_of a b = if nat_le a b then Ok (record { first = a; last = b }) else Err BadInterval

-- an interval: `A`, or `A-B` with all that stands behind the first hyphen as B
unfoldable pub interval_at : List ℕ → Result Interval GtidFault
interval_at text =
    if nat_lt (position_or_len is_hyphen text) (length text)
    then (do
      a ← number_at (before_first is_hyphen text)
      b ← number_at (after_first is_hyphen text)
      interval_of a b)
    else (do
      a ← number_at text
      Ok (record { first = a; last = a }))

-- each of these, in turn
unfoldable pub intervals_at : List (List ℕ) → Result (List Interval) GtidFault
intervals_at [] = Ok []
intervals_at (text ∷ texts) = do
  i ← interval_at text
  is ← intervals_at texts
  Ok (i ∷ is)

-- ---- the whole

-- the source that a name is
abbrev pub source_at : Option (List ℕ) → Result (List ℕ) GtidFault
source_at None = Err BadUuid
source_at (Some source) = Ok source

abbrev pub behind_colon : List ℕ → Result (List ℕ) GtidFault
behind_colon [] = Err BadInterval
behind_colon (c ∷ cs) = if is_colon c then Ok cs else Err BadInterval

-- the source that the first 36 characters name, and what stands behind the colon that follows them
unfoldable pub head_at : List ℕ → Result (List ℕ × List ℕ) GtidFault
head_at text = do
  source ← source_at (parsed_hyphenated (take 36 text))
  list ← behind_colon (drop 36 text)
  Ok (source, list)

-- a source, and intervals, each behind a colon
unfoldable pub listed_at : List ℕ → Result Ids GtidFault
listed_at text = do
  head ← head_at text
  is ← intervals_at (slice_split is_colon head.1)
  Ok (record { source = Some head.0; numbers = is })

-- the empty text lists nothing
abbrev pub ids_at : List ℕ → Result Ids GtidFault
ids_at [] = Ok no_ids
ids_at (c ∷ cs) = listed_at (c ∷ cs)

-- what a call answers is the set of the ids that were read, and what it refuses the fault that reading meets, unless
-- memory ran out
abbrev pub Reads : Result Ids GtidFault → Result Ids GtidFault → Type 0
Reads (Ok set) read = (listed : Ids) × (read ≡ Ok listed) × IsSetOf listed set
Reads (Err fault) read = Fails fault read

-- ---- the texts that list ids, without regard to how they are read

-- one number, or two with a hyphen between them, the first at most the second
abbrev pub IsTextOf : List ℕ → Interval → Type 0
IsTextOf text i = IsInterval i × (((text ≡ decimal i.first) × (i.first ≡ i.last)) ⊎ (text ≡ decimal i.first ++ 45 ∷ decimal i.last))

-- intervals, each behind a colon
abbrev pub ListIntervals : List ℕ → List Interval → Type 0
ListIntervals text [] = text ≡ []
ListIntervals text (i ∷ is) = (one : List ℕ) × (others : List ℕ) × IsTextOf one i × (text ≡ 58 ∷ one ++ others) × ListIntervals others is

-- an identifier of 36 characters, in either case, and at least one interval
pub record ListsSome (text : List ℕ) (listed : Ids) : Type 0 where
  pub name : List ℕ
  pub list : List ℕ
  pub split : text ≡ name ++ list
  pub source : parsed_hyphenated name ≡ listed.source
  pub named : IsSome listed.source
  pub some : 1 ≤ length listed.numbers
  pub intervals : ListIntervals list listed.numbers

-- the text lists these: nothing where it is empty
abbrev pub Lists : List ℕ → Ids → Type 0
Lists text listed = ((text ≡ []) × (listed ≡ no_ids)) ⊎ ListsSome text listed
