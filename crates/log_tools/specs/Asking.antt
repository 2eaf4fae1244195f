-- Lines that are read of an input, one after another.
use Rattle.std.specs.Prelude.{◌≡◌, ℕ, ◌+◌, ◌-◌, ◌^◌, min, Bool, true, ◌&&◌, if◌then◌else◌, List, [], ◌++◌, codes, Option, IfSome}
use Rattle.std.specs.Fmt.{decimal}
use Rattle.script_text.specs.Lines.{LeavesLines}
use Rattle.log_tools.specs.declared.asking.Lines.{Lines}

-- None was read yet, and none was bad.
pub record AreUnread (terminal : Bool) (lines : Lines) : Type 0 where
  pub number : lines.number ≡ 0
  pub more : lines.is_more ≡ true
  pub from : lines.terminal ≡ terminal
  pub good : lines.is_good ≡ true

-- before each line that comes from a terminal
abbrev pub prompt_of : Lines → List ℕ
prompt_of lines = if lines.terminal && lines.is_more then codes "> " else []

-- A line more was read, which is the next one of the text, and has the next number; the rest stays.
pub record HaveRead (old new : Lines) (line : List ℕ) (text left : Option (List ℕ)) : Type 0 where
  pub more : old.is_more ≡ true
  pub is_line : new.line.items ≡ line
  pub leaves : IfSome text (λ bytes. LeavesLines bytes line new.is_more left)
  pub rest : new ≡ record old { line = new.line; number = min (old.number + 1) (2 ^ 64 - 1); is_more = new.is_more }

-- a part of the next line may have been read
abbrev pub HaveNotRead : Lines → Lines → Type 0
HaveNotRead old new = new ≡ record old { line = new.line }

-- the text of a line that is bad
abbrev pub bad_line : ℕ → List ℕ
bad_line number = codes "line " ++ (decimal number ++ codes ": bad command\n")
