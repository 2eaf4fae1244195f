-- What each answer of the two sides is replied.
use Rattle.std.specs.Prelude.{ℕ, ℤ, List, Option, Some, None, Result, Ok, Err}
use Rattle.source_core.specs.declared.fault.SourceFault.{SourceFault}
use Rattle.source_core.specs.declared.transaction.Prepared.{Prepared as Answer}
use Rattle.source_core.specs.declared.transaction.Prepared.TheVariants as answers
use Rattle.relay.specs.declared.Received.{Received}
use Rattle.relay.specs.declared.Received.TheVariants.{Accepted, Skipped}
use Rattle.relay.specs.declared.ReplicaFault.{ReplicaFault}
use Rattle.world.specs.declared.events.Reply.{Reply}
use Rattle.world.specs.declared.events.Reply.TheVariants as replies

-- what a commit of the records from the first to the last of these numbers is replied
abbrev pub ends_reply : Option (ℕ × ℕ) → Reply
ends_reply None = replies.Nothing
ends_reply (Some (first, last)) = replies.Committed first last

-- what a record that was received is replied
abbrev pub received_reply : Result Received ReplicaFault → Reply
received_reply (Ok Accepted) = replies.Accepted
received_reply (Ok Skipped) = replies.Skipped
received_reply (Err fault) = replies.Replica fault

-- what a read at the source is replied
abbrev pub seen_reply : Result (Option (List ℤ)) SourceFault → Reply
seen_reply (Ok row) = replies.Seen row
seen_reply (Err fault) = replies.Source fault

-- what a prepare is replied
abbrev pub prepared_reply : Result Answer SourceFault → Reply
prepared_reply (Ok (answers.Parent parent)) = replies.Prepared parent
prepared_reply (Ok answers.Empty) = replies.Empty
prepared_reply (Err fault) = replies.Source fault
