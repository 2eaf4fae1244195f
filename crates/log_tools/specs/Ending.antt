-- How a program ends, and what stops its work.
use Rattle.std.specs.Prelude.{ℕ, Bool, true, false}
use Rattle.std.specs.declared.io.Error.{Error}
use Rattle.std.specs.declared.io.ErrorKind.{ErrorKind}
use Rattle.std.specs.declared.io.ErrorKind.TheVariants.{OutOfMemory}
use Rattle.std.specs.IoError.{error_kind}
use Rattle.record_codec.specs.declared.fault.CodecFault.TheVariants as codec
use Rattle.log_file.specs.declared.fault.LogFault.{LogFault}
use Rattle.log_file.specs.declared.fault.LogFault.TheVariants as logs
use Rattle.stored_log.specs.declared.fault.FileFault.TheVariants as files
use Rattle.stored_log.specs.declared.fault.StoreFault.{StoreFault}
use Rattle.stored_log.specs.declared.fault.StoreFault.TheVariants as stores
use Rattle.recovery.specs.declared.fault.RecoveryFault.{RecoveryFault}
use Rattle.recovery.specs.declared.fault.RecoveryFault.TheVariants as recoveries
use Rattle.log_tools.specs.declared.describing.HeadFault.{HeadFault}
use Rattle.log_tools.specs.declared.describing.HeadFault.TheVariants as heads
use Rattle.log_tools.specs.declared.ending.Ending.{Ending}
use Rattle.log_tools.specs.declared.ending.Ending.TheVariants as endings
use Rattle.log_tools.specs.declared.ending.Stop.{Stop}
use Rattle.log_tools.specs.declared.ending.Stop.TheVariants as stops

-- the exit status
abbrev pub status_of : Ending → ℕ
status_of endings.Done = 0
status_of endings.CommandLine = 2
status_of endings.Refused = 3
status_of endings.Failed = 4
status_of endings.Different = 6
status_of endings.Stream = 7

-- how a program ends for what stops its work
abbrev pub ending_of : Stop → Ending
ending_of (stops.NoIdentifier error) = endings.Failed
ending_of (stops.NoSchemaFile error) = endings.Failed
ending_of (stops.NoFile error) = endings.Failed
ending_of (stops.Store (stores.File number (files.Log fault))) = endings.Refused
ending_of (stops.Store fault) = endings.Failed
ending_of stops.NoReader = endings.Failed
ending_of stops.Memory = endings.Failed
ending_of stops.Different = endings.Different
ending_of stops.Stream = endings.Stream
ending_of stop = endings.Refused

-- it is told when it is met, or there is nobody to tell it to
abbrev pub was_told : Stop → Bool
was_told stops.BadLines = true
was_told stops.Different = true
was_told stops.Stream = true
was_told stop = false

-- ---- the faults of the parts, of which want of memory is one stop, whoever met it

-- an error of this kind, or this stop
abbrev pub stop_of_kind : ErrorKind → Stop → Stop
stop_of_kind OutOfMemory stop = stops.Memory
stop_of_kind kind stop = stop

-- what the system said, which is this stop otherwise
abbrev pub stop_of_error : Error → Stop → Stop
stop_of_error error stop = stop_of_kind (error_kind error) stop

-- a file of a log that was refused or failed
abbrev pub stop_of_store : StoreFault → Stop
stop_of_store stores.Memory = stops.Memory
stop_of_store fault = stops.Store fault

-- a log that is refused
abbrev pub stop_of_log : LogFault → Stop
stop_of_log logs.Memory = stops.Memory
stop_of_log (logs.Codec codec.Memory) = stops.Memory
stop_of_log fault = stops.Log fault

-- records that can't go on
abbrev pub stop_of_recovery : RecoveryFault → Stop
stop_of_recovery recoveries.Memory = stops.Memory
stop_of_recovery fault = stops.Records fault

-- what a wire's head says
abbrev pub stop_of_wire_head : HeadFault → Stop
stop_of_wire_head heads.Memory = stops.Memory
stop_of_wire_head fault = stops.WireHead fault

-- what PREFIX.schema says
abbrev pub stop_of_schema : HeadFault → Stop
stop_of_schema heads.Memory = stops.Memory
stop_of_schema fault = stops.SchemaFile fault
