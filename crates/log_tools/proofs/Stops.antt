-- What stops the reading of a log is no difference of two.
use Rattle.std.proofs.Common.{◌≢◌}
use Rattle.std.specs.declared.io.Error.{Error}
use Rattle.std.specs.declared.io.ErrorKind.{ErrorKind}
use Rattle.std.specs.declared.io.ErrorKind.TheVariants.{OutOfMemory}
use Rattle.std.specs.IoError.{error_kind}
use Rattle.stored_log.specs.declared.fault.StoreFault.{StoreFault}
use Rattle.stored_log.specs.declared.fault.StoreFault.TheVariants as stores
use Rattle.recovery.specs.declared.fault.RecoveryFault.{RecoveryFault}
use Rattle.recovery.specs.declared.fault.RecoveryFault.TheVariants as recoveries
use Rattle.log_tools.specs.declared.describing.HeadFault.{HeadFault}
use Rattle.log_tools.specs.declared.describing.HeadFault.TheVariants as heads
use Rattle.log_tools.specs.declared.ending.Stop.{Stop}
use Rattle.log_tools.specs.declared.ending.Stop.TheVariants.{Different}
use Rattle.log_tools.specs.Ending.{stop_of_kind, stop_of_error, stop_of_store, stop_of_recovery, stop_of_schema}

kind_other : (kind : ErrorKind) (stop : Stop) → stop ≢ Different → stop_of_kind kind stop ≢ Different
kind_other OutOfMemory stop other = λ is. (cc)
kind_other kind stop other = other

pub error_other : (error : Error) (stop : Stop) → stop ≢ Different → stop_of_error error stop ≢ Different
error_other error stop other = kind_other (error_kind error) stop other

pub store_other : (fault : StoreFault) → stop_of_store fault ≢ Different
store_other stores.Memory = λ is. (cc)
store_other fault = λ is. (cc)

pub recovery_other : (fault : RecoveryFault) → stop_of_recovery fault ≢ Different
recovery_other recoveries.Memory = λ is. (cc)
recovery_other fault = λ is. (cc)

pub schema_other : (fault : HeadFault) → stop_of_schema fault ≢ Different
schema_other heads.Memory = λ is. (cc)
schema_other fault = λ is. (cc)
