-- The one text of a set.
use Rattle.std.specs.Prelude.{ℕ, ◌==◌, if◌then◌else◌, List, [], ◌∷◌, ◌++◌, Option, Some, None}
use Rattle.std.specs.Fmt.{decimal}
use Rattle.std.specs.List.{flat_map}
use Rattle.uuid.specs.Text.{hyphenated_text, lower}
use Rattle.gtid_set.specs.declared.intervals.Interval.{Interval}
use Rattle.gtid_set.specs.Ids.{Ids}

-- `A` of one number, `A-B` of more; 45 is the minus sign
abbrev pub interval_text : Interval → List ℕ
interval_text i = decimal i.first ++ (if i.first == i.last then [] else 45 ∷ decimal i.last)

-- each interval behind a colon, 58
abbrev pub intervals_text : List Interval → List ℕ
intervals_text is = flat_map (λ i. 58 ∷ interval_text i) is

-- the source in lower case, with hyphens, and the intervals; nothing where there is no source
abbrev pub text_with : Option (List ℕ) → List Interval → List ℕ
text_with None numbers = []
text_with (Some source) numbers = hyphenated_text lower source ++ intervals_text numbers

abbrev pub text_of : Ids → List ℕ
text_of ids = text_with ids.source ids.numbers
