-- What the answers of a durable source are replied.
use Rattle.std.specs.Prelude.{ℕ, Option, Some, None, Result, Ok, Err}
use Rattle.source_core.specs.declared.fault.SourceFault.{SourceFault}
use Rattle.durable_source.specs.declared.fault.DurableFault.{DurableFault}
use Rattle.durable_source.specs.declared.fault.DurableFault.TheVariants.{OfSource, OfLog}
use Rattle.world.specs.declared.events.Reply.{Reply}
use Rattle.world.specs.declared.events.Reply.TheVariants as replies
use Rattle.world.specs.Replies.{ends_reply}

-- what a sync is replied
abbrev pub synced_reply : Result (Option (ℕ × ℕ)) DurableFault → Reply
synced_reply (Ok (Some told)) = replies.Synced told.0 told.1
synced_reply (Ok None) = replies.Nothing
synced_reply (Err (OfSource fault)) = replies.Source fault
synced_reply (Err (OfLog fault)) = replies.Log fault

-- what a commit is replied, which tells the first and the last gno
abbrev pub committed_reply : Result (Option (ℕ × ℕ)) SourceFault → Reply
committed_reply (Ok ends) = ends_reply ends
committed_reply (Err fault) = replies.Source fault
