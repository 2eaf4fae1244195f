-- What a refusal of the source is told as.
use Rattle.std.specs.Prelude.{ℕ, List, codes}
use Rattle.source_core.specs.declared.fault.SourceFault.{SourceFault}
use Rattle.source_core.specs.declared.fault.SourceFault.TheVariants.{NoSession, AlreadyOpen, NotActive, NoTable, WrongColumns, RowLocked, RowExists, NoRow, NoParent, HasChild, TooManyChanges, Halted}
use Rattle.source_core.specs.declared.fault.SourceFault.TheVariants.{Memory, NotPrepared, Exhausted, Duplicate}

-- its number and name
abbrev pub fault_text : SourceFault → List ℕ
fault_text NoSession = codes "S1 NoSession"
fault_text AlreadyOpen = codes "S2 AlreadyOpen"
fault_text NotActive = codes "S3 NotActive"
fault_text NoTable = codes "S4 NoTable"
fault_text WrongColumns = codes "S5 WrongColumns"
fault_text RowLocked = codes "S6 RowLocked"
fault_text RowExists = codes "S7 RowExists"
fault_text NoRow = codes "S8 NoRow"
fault_text NoParent = codes "S9 NoParent"
fault_text HasChild = codes "S10 HasChild"
fault_text TooManyChanges = codes "S11 TooManyChanges"
fault_text Halted = codes "S12 Halted"
fault_text Memory = codes "S13 Memory"
fault_text NotPrepared = codes "S14 NotPrepared"
fault_text Exhausted = codes "S15 Exhausted"
fault_text Duplicate = codes "S16 Duplicate"
