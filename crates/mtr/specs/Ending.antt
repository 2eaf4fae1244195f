-- How the program ends, and what it tells then.
use Rattle.std.specs.Prelude.{◌≡◌, ◌⊎◌, ℕ, List, Option, ◌++◌, codes}
use Rattle.std.specs.Fmt.{decimal}
use Rattle.schema.specs.FaultText.{fault_text as schema_text}
use Rattle.log_file.specs.declared.fault.LogFault.{LogFault}
use Rattle.log_file.specs.declared.fault.LogFault.TheVariants as log
use Rattle.record_codec.specs.declared.fault.CodecFault.TheVariants as codec
use Rattle.log_file.specs.FaultText.{fault_text as log_text}
use Rattle.mtr.specs.declared.ending.Ending.{Ending}
use Rattle.mtr.specs.declared.ending.Ending.TheVariants as endings
use Rattle.mtr.specs.declared.ending.Stop.{Stop}
use Rattle.mtr.specs.declared.ending.Stop.TheVariants as stops

-- the exit status
abbrev pub status_of : Ending → ℕ
status_of endings.Done = 0
status_of endings.CommandLine = 2
status_of endings.BadScript = 3
status_of endings.BadLog = 4
status_of endings.NoMemory = 5
status_of endings.Different = 6
status_of endings.Stream = 7

-- how the program ends where its work stopped
abbrev pub ending_of : Stop → Ending
ending_of (stops.BadCommand line) = endings.BadScript
ending_of (stops.Schema fault) = endings.BadScript
ending_of stops.BadBase = endings.BadScript
ending_of stops.BadHexadecimal = endings.BadScript
ending_of (stops.Log fault) = endings.BadLog
ending_of stops.Memory = endings.NoMemory
ending_of stops.Stream = endings.Stream

-- why the work stops at a fault of the log: want of memory is told as such, whoever met it
abbrev pub stop_of_log : LogFault → Stop
stop_of_log log.Memory = stops.Memory
stop_of_log (log.Codec codec.Memory) = stops.Memory
stop_of_log fault = stops.Log fault

-- want of memory, and a stream that fails, may stop the work anywhere
abbrev pub IsCutOff : Stop → Type 0
IsCutOff stop = (stop ≡ stops.Memory) ⊎ (stop ≡ stops.Stream)

-- A script that is refused prints nothing: only want of memory, and a stream that fails, may come behind a beginning of its replies.
abbrev pub PrintsNoReply : Option (List ℕ) → Option (List ℕ) → Stop → Type 0
PrintsNoReply before after stop = IsCutOff stop ⊎ (after ≡ before)

-- what is told; a stream that fails has no text
abbrev pub stop_text : Stop → List ℕ
stop_text (stops.BadCommand line) = codes "line " ++ decimal line ++ codes ": bad command"
stop_text (stops.Schema fault) = schema_text fault
stop_text stops.BadBase = codes "bad base"
stop_text stops.BadHexadecimal = codes "bad hexadecimal"
stop_text (stops.Log fault) = log_text fault
stop_text stops.Memory = codes "no memory"
stop_text stops.Stream = codes ""

-- what is said at a terminal before a script is read from it
abbrev pub notice : List ℕ
notice = codes "mtr run reads a script from standard input\n"
