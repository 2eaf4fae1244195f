-- What a refusal of the replica is told as.
use Rattle.std.specs.Prelude.{ℕ, List, ◌++◌, codes}
use Rattle.std.specs.Fmt.{decimal}
use Rattle.relay.specs.declared.ReplicaFault.{ReplicaFault}
use Rattle.relay.specs.declared.ReplicaFault.TheVariants.{Gap, ForeignSource, Malformed, BadParent, Stopped, Stranger, Double, WrongInput, Memory}

-- its number and name; where the replica stopped, also the record's number
abbrev pub fault_text : ReplicaFault → List ℕ
fault_text Gap = codes "P1 Gap"
fault_text ForeignSource = codes "P2 ForeignSource"
fault_text Malformed = codes "P3 Malformed"
fault_text BadParent = codes "P4 BadParent"
fault_text (Stopped gno) = codes "P5 Stopped " ++ decimal gno
fault_text Stranger = codes "P6 Stranger"
fault_text Double = codes "P7 Double"
fault_text WrongInput = codes "P8 WrongInput"
fault_text Memory = codes "P9 Memory"
