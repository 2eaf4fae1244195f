use Rattle.std.proofs.Common.{◌≡◌, ◌∙◌, sym, ap, subst, ◌+◌, ◌-◌, ◌++◌, List, ℕ, take, drop, append_assoc, arith}
use Rattle.std.proofs.lemmas.List.{take-append-drop}
use Rattle.std.proofs.Math.Seq.{take-add}
use Rattle.replica_answers.specs.Followed.{IsAhead, HasRead}
use Rattle.replica_answers.proofs.Followed.{ahead_moved, ahead_front}
use Rattle.replica_answers.proofs.following.feed_to_fault.Goals as goal

pub feed-requires : goal.feed-requires
feed-requires g c =
    let log = g.K.ReplicaNaming.names.log in
    let bytes = c.args.bytes.now in
    let at = c.loop-at.at in
    let n = at + 1 - at in
    let before = subst (IsAhead log c.args.wire.now) (sym (take-append-drop at bytes)) c.requires in
    let behind = ahead_moved log c.args.wire.now c.loop-at.wire (take at bytes) (drop at bytes) c.loop-at.invariant before in
    ahead_front log c.loop-at.wire (take n (drop at bytes)) (drop n (drop at bytes)) (subst (IsAhead log c.loop-at.wire) (sym (take-append-drop n (drop at bytes))) behind)

pub loop-at-preserved : goal.loop-at-preserved
loop-at-preserved g c = λ read has.
    let bytes = c.args.bytes.now in
    let at = c.loop-at.at in
    let n = at + 1 - at in
    let one : at + n ≡ at + 1 = omega arith in
    let same : (read ++ take at bytes) ++ take n (drop at bytes) ≡ read ++ take (at + 1) bytes =
    append_assoc read (take at bytes) (take n (drop at bytes)) ∙ ap (λ (l : List ℕ). read ++ l) (sym (take-add at n bytes) ∙ ap (λ k. take k bytes) one) in
    subst (λ (l : List ℕ). HasRead l c.feed.new.wire) same (c.in-All.ensures (read ++ take at bytes) (c.loop-at.invariant read has))
