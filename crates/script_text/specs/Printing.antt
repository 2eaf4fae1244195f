-- The texts of what is printed: what an event is answered is a line of its own.
use Rattle.std.specs.Prelude.{ℕ, ◌+◌, ◌-◌, ◌==◌, if◌then◌else◌, ℤ, List, [], ◌∷◌, ◌++◌, length, codes, Some, None}
use Rattle.std.specs.List.{flat_map}
use Rattle.std.specs.Fmt.{decimal, signed_decimal}
use Rattle.source_core.specs.FaultText.{fault_text as source_text}
use Rattle.relay.specs.FaultText.{fault_text as replica_text}
use Rattle.record_codec.specs.FaultText.{fault_text as codec_text}
use Rattle.log_file.specs.FaultText.{fault_text as log_text}
use Rattle.gtid_set.specs.Ids.{Ids}
use Rattle.gtid_set.specs.Text.{text_of as text_of_set}
use Rattle.script_text.specs.HexText.{hex_text}
use Rattle.world.specs.declared.events.Reply.{Reply}
use Rattle.world.specs.declared.events.Reply.TheVariants as replies

-- a column behind a space, which is 32
abbrev pub column_text : ℤ → List ℕ
column_text z = 32 ∷ signed_decimal z

abbrev pub columns_text : List ℤ → List ℕ
columns_text columns = flat_map column_text columns

-- a stamp behind a space: ` (SEQUENCE,PARENT)`
abbrev pub stamp_text : ℕ × ℕ → List ℕ
stamp_text stamp = codes " (" ++ (decimal stamp.0 ++ (codes "," ++ (decimal stamp.1 ++ codes ")")))

abbrev pub stamps_text : List (ℕ × ℕ) → List ℕ
stamps_text stamps = flat_map stamp_text stamps

-- the numbers `A-B`
abbrev pub range_text : ℕ → ℕ → List ℕ
range_text first last = decimal first ++ codes "-" ++ decimal last

-- a set of ids, `none` where it is empty
abbrev pub ids_text : Ids → List ℕ
ids_text ids = if length ids.numbers == 0 then codes "none" else text_of_set ids

-- the commits that a read is of: all up to a number, and so many above it where there are any
abbrev pub upto_text : ℕ → ℕ → List ℕ
upto_text upto more = if more == 0 then decimal upto else decimal upto ++ (codes "+" ++ decimal more)

-- the bytes of a file behind those before it: a space, which is 32, and their digits
abbrev pub further_file : List ℕ → List ℕ
further_file bytes = 32 ∷ hex_text bytes

-- the bytes of files in hexadecimal digits, joined by one space
abbrev pub files_text : List (List ℕ) → List ℕ
files_text [] = []
files_text (bytes ∷ files) = hex_text bytes ++ flat_map further_file files

-- what an event prints
abbrev pub text_of : Reply → List ℕ
text_of replies.Done = codes "ok"
text_of (replies.Seen (Some columns)) = codes "row" ++ columns_text columns
text_of (replies.Seen None) = codes "none"
text_of (replies.Prepared parent) = codes "prepared " ++ decimal parent
text_of replies.Empty = codes "empty"
text_of (replies.Flushed first stamps) = codes "flushed " ++ range_text first (first + length stamps - 1) ++ stamps_text stamps
text_of (replies.Synced first last) = codes "synced " ++ range_text first last
text_of (replies.Committed first last) = codes "committed " ++ range_text first last
text_of replies.Nothing = codes "nothing"
text_of replies.Accepted = codes "accepted"
text_of replies.Skipped = codes "skipped"
text_of replies.Unsynced = codes "unsynced"
text_of (replies.Job gno) = codes "job " ++ decimal gno
text_of (replies.Finished gno) = codes "finished " ++ decimal gno
text_of (replies.Commit gno) = codes "commit " ++ decimal gno
text_of (replies.Published upto) = codes "published " ++ decimal upto
text_of (replies.Executed ids) = ids_text ids
text_of (replies.Read upto more (Some columns)) = upto_text upto more ++ codes ":" ++ columns_text columns
text_of (replies.Read upto more None) = upto_text upto more ++ codes ": none"
text_of (replies.Source fault) = source_text fault
text_of (replies.Replica fault) = replica_text fault
text_of (replies.Codec fault) = codec_text fault
text_of (replies.Rotated number) = codes "rotated " ++ decimal number
text_of replies.Busy = codes "S17 Busy"
text_of replies.NoDevice = codes "L5 NoDevice"
text_of (replies.Text files) = files_text files
text_of (replies.Log fault) = log_text fault

-- its line; 10 is LF
abbrev pub line_of : Reply → List ℕ
line_of reply = text_of reply ++ 10 ∷ []

-- the lines of replies, in order
abbrev pub lines_of : List Reply → List ℕ
lines_of replies = flat_map line_of replies
