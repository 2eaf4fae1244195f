-- What a fault of a list of tables is told as.
use Rattle.std.specs.Prelude.{ℕ, List, codes}
use Rattle.schema.specs.declared.SchemaFault.{SchemaFault}
use Rattle.schema.specs.declared.SchemaFault.TheVariants.{Count, Id, Columns, Twice, Parent, Memory, Unique}

-- its number and name
abbrev pub fault_text : SchemaFault → List ℕ
fault_text Count = codes "B1 Count"
fault_text Id = codes "B2 Id"
fault_text Columns = codes "B3 Columns"
fault_text Twice = codes "B4 Twice"
fault_text Parent = codes "B5 Parent"
fault_text Memory = codes "B6 Memory"
fault_text Unique = codes "B7 Unique"
