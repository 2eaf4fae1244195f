use Rattle.std.proofs.Common.{◌∙◌, ap, Err}
use Rattle.replica_core.specs.Wire.{piece_taken}
use Rattle.replica_answers.proofs.Followed.{ahead_in_log, fed_moved, fed_stayed}
use Rattle.replica_answers.proofs.following.feed_once.Goals as goal

pub feed-requires : goal.feed-requires
feed-requires g c = record { known = ahead_in_log g.K.ReplicaNaming.names.log c.args.wire.now c.args.bytes.now c.requires }

pub returns-in-Ok : goal.returns-in-Ok
returns-in-Ok g c = fed_moved c.feed.ensures (ap (λ a. piece_taken a c.args.bytes.now) c.in-Ok.is)

pub returns-in-Err-Codec-Memory : goal.returns-in-Err-Codec-Memory
returns-in-Err-Codec-Memory g c =
    fed_stayed c.feed.ensures (ap (λ a. piece_taken a c.args.bytes.now) c.in-Err-Codec-Memory.is ∙ ap (λ f. piece_taken (Err f) c.args.bytes.now) c.in-Err-Codec-Memory.field-0-is)

pub returns-in-Err-Codec : goal.returns-in-Err-Codec
returns-in-Err-Codec g c =
    fed_stayed c.feed.ensures (ap (λ a. piece_taken a c.args.bytes.now) c.in-Err-Codec.is ∙ ap (λ f. piece_taken (Err f) c.args.bytes.now) c.in-Err-Codec.field-0-is)

pub returns-in-Err-Waiting-Memory : goal.returns-in-Err-Waiting-Memory
returns-in-Err-Waiting-Memory g c =
    fed_stayed c.feed.ensures (ap (λ a. piece_taken a c.args.bytes.now) c.in-Err-Waiting-Memory.is ∙ ap (λ f. piece_taken (Err f) c.args.bytes.now) c.in-Err-Waiting-Memory.field-0-is)

pub returns-in-Err-Replica-Memory : goal.returns-in-Err-Replica-Memory
returns-in-Err-Replica-Memory g c =
    fed_moved c.feed.ensures (ap (λ a. piece_taken a c.args.bytes.now) c.in-Err-Replica-Memory.is ∙ ap (λ f. piece_taken (Err f) c.args.bytes.now) c.in-Err-Replica-Memory.field-0-is)
