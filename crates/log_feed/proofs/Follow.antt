-- What a replica shows whose wire took a beginning of what was written.
use mathlib.Core.List.{IsPrefix}
use Rattle.std.proofs.Common.{◌≡◌, ◌∙◌, sym, ap, subst, refl, ℕ, suc, ◌-◌, ◌≤◌, List, [], ◌∷◌, ◌++◌, length, take, drop, append_assoc, length-append, Option, Some, None, Result, Ok, Err, arith}
use Rattle.std.specs.List.{flat_map}
use Rattle.std.specs.Option.{option_map_or}
use Rattle.std.proofs.lemmas.List.{take-append-le, take-append-drop, take-take, take_at, length-take}
use Rattle.schema.specs.declared.Table.{Table}
use Rattle.store_trait.specs.Batch.{Entry}
use Rattle.store_trait.specs.declared.Op.{Op}
use Rattle.store_trait.specs.declared.Op.TheVariants.{Load}
use Rattle.store_trait.specs.Operation.{loaded, left_by}
use Rattle.record_codec.specs.declared.records.Record.{Record}
use Rattle.record_codec.specs.declared.version.Version.TheVariants.{Two}
use Rattle.record_codec.specs.Group.{AreNumbered}
use Rattle.record_codec.specs.Spelling.{spelling}
use Rattle.record_codec.specs.Log.{after, IsLegalLog}
use Rattle.record_codec.proofs.Logs.{beginning_is_legal, legal_log_leaves, part_is_numbered}
use Rattle.relay.specs.declared.ReplicaFault.{ReplicaFault}
use Rattle.relay.specs.declared.ReplicaFault.TheVariants.{Stopped}
use Rattle.relay.specs.declared.Received.{Received}
use Rattle.relay.specs.declared.Received.TheVariants.{Accepted, Skipped}
use Rattle.relay.specs.Relay as relay
use Rattle.relay.proofs.Judged.{accepted_is_acceptable}
use Rattle.gapped.specs.Gapped.{gapped, IsClosed, AreCommits}
use Rattle.gapped.proofs.Choosing.{AreWithin, numbered_front, number_of, longer_log, closed_longer, commits_are_within, prefix_are_commits}
use Rattle.replica_core.specs.Replica.{Replica, rows_at, commits_from, operations_in_order}
use Rattle.replica_core.specs.Sound.{IsSound}
use Rattle.replica_core.specs.Calls.{relay_of, received}
use Rattle.replica_core.specs.Wire.{left_by_answer, handed}
use Rattle.replica_core.proofs.Handing.{handed_grows}
use Rattle.replica_core.proofs.Commits.{first_commits, one_commit_each, ops_in_order, operations_leave_rows}
use Rattle.replica_core.proofs.Showing.{sound_stands, numbered, published_is_gapped}
use Rattle.log_feed.specs.Feed.{wire_head, BeginsWith}
use Rattle.log_feed.specs.Laws.{ShowsTheLog, TwoProcesses}
use Rattle.log_feed.proofs.Heads.{cut_same}
use Rattle.log_feed.proofs.Cut.{one_head, begins_records}

-- ---- what is accepted of a log

-- one that runs
runs : (stopped : Option ℕ) (a : Result Received ReplicaFault) → option_map_or (λ gno. Err (Stopped gno)) stopped a ≡ Ok Accepted → a ≡ Ok Accepted
runs None a h = h
runs (Some gno) a h = absurd cc

-- a record of the log, handed to a replica that accepted a beginning of it
one_handed : (from : List ℕ) (r : Replica) (log front rest : List Record) (x : Record) (answer : Result Received ReplicaFault) → AreNumbered 1 log → log ≡ front ++ x ∷ rest →
    IsPrefix r.accepted log → received r from x ≡ answer → IsPrefix (left_by_answer r x answer).accepted log
one_handed from r log front rest x (Ok Accepted) are e begins is =
    let next = accepted_is_acceptable (relay_of r) from x (runs r.stopped (relay.received (relay_of r) from x) is) in
    let place = number_of log front rest x are e in
    let same = cut_same r.accepted front begins.0 (x ∷ rest) (omega (arith, next.1.gno, place)) (begins.1 ∙ e) in
    (rest, append_assoc r.accepted (x ∷ []) rest ∙ ap (λ (l : List Record). l ++ x ∷ rest) same.0 ∙ sym e)
one_handed from r log front rest x (Ok Skipped) are e begins is = begins
one_handed from r log front rest x (Err fault) are e begins is = begins

-- so it is with records one after another
each_handed : (from : List ℕ) (r : Replica) (log front records rest : List Record) → AreNumbered 1 log → log ≡ front ++ (records ++ rest) → IsPrefix r.accepted log →
    IsPrefix (handed from r records).accepted log
each_handed from r log front [] rest are e begins = begins
each_handed from r log front (x ∷ records) rest are e begins =
    let next = left_by_answer r x (received r from x) in
    each_handed from next log (front ++ x ∷ []) records rest are (e ∙ sym (append_assoc front (x ∷ []) (records ++ rest)))
    (one_handed from r log front (records ++ rest) x (received r from x) are e begins refl)

-- ---- what such a replica shows

module _ (ts : List Table) (base : List Entry) (log : List Record) (n : ℕ) (r : Replica) (legal : IsLegalLog ts (loaded base) log) (tables : r.tables ≡ ts) (same_base : r.base ≡ base)
    (begins : IsPrefix r.accepted (take n log)) where
  first_is_legal : (u : ℕ) → IsLegalLog ts (loaded base) (take u log)
  first_is_legal u = beginning_is_legal ts (loaded base) (take u log) (drop u log) (subst (λ (l : List Record). IsLegalLog ts (loaded base) l) (sym (take-append-drop u log)) legal)

  all_numbered : AreNumbered 1 (r.accepted ++ begins.0)
  all_numbered = subst (λ (l : List Record). AreNumbered 1 l) (sym begins.1) (part_is_numbered ts (loaded base) [] (take n log) (first_is_legal n))

  -- the first of those accepted
  first_accepted : (u : ℕ) → u ≤ length r.accepted → take u r.accepted ≡ take u log
  first_accepted u within =
      let few : u ≤ n = omega (arith, within, length-append r.accepted begins.0, ap (λ (l : List Record). length l) begins.1, length-take n log) in
      sym (take-append-le u r.accepted begins.0 within) ∙ ap (take u) begins.1 ∙ take-take u n log few

  rows_are : (u : ℕ) → u ≤ length r.accepted → rows_at r u ≡ after ts (loaded base) (take u log)
  rows_are u within =
      ap (λ (t : List Table). after t (loaded r.base) (take u r.accepted)) tables
      ∙ ap (λ (b : List Entry). after ts (loaded b) (take u r.accepted)) same_base
      ∙ ap (after ts (loaded base)) (first_accepted u within)

  -- what is left by operations of which the last is the commit of the u-th
  left_are : (u : ℕ) → u ≤ length r.accepted → after ts (loaded base) (take u log) ≡ Some (left_by (operations_in_order r.tables r.base r.accepted u))
  left_are u within =
      let there = legal_log_leaves ts (loaded base) (take u log) (first_is_legal u) in
      let ops = ops_in_order r.tables r.base r.accepted u u (numbered_front 1 r.accepted begins.0 all_numbered) (omega arith) in
      let rows : after r.tables (loaded r.base) (take u (take u r.accepted)) ≡ Some there.0 =
      ap (after r.tables (loaded r.base)) (take-take u u r.accepted (omega arith)) ∙ rows_are u within ∙ there.1 in
      there.1 ∙ ap Some (sym (operations_leave_rows r.tables r.base (take u r.accepted) u there.0 rows) ∙ ap left_by ops)

  -- operations that begin those in the order of the log are those of fewer records
  first_operations : (ops : List Op) (u : ℕ) → u ≤ length r.accepted → IsPrefix ops (operations_in_order r.tables r.base r.accepted u) → 1 ≤ length ops →
      (length ops - 1 ≤ u) × (ops ≡ operations_in_order r.tables r.base r.accepted (length ops - 1))
  first_operations ops u within first some =
      let k = length ops - 1 in
      let front = take u r.accepted in
      let are = numbered_front 1 r.accepted begins.0 all_numbered in
      let there = legal_log_leaves ts (loaded base) (take u log) (first_is_legal u) in
      let number = one_commit_each r.tables (loaded r.base) front there.0 (rows_are u within ∙ there.1) in
      let all : operations_in_order r.tables r.base r.accepted u ≡ Load r.base ∷ commits_from r.tables (loaded r.base) front =
      sym (ops_in_order r.tables r.base r.accepted u u are (omega arith))
      ∙ ap (λ (l : List Record). Load r.base ∷ commits_from r.tables (loaded r.base) l) (take-take u u r.accepted (omega arith)) in
      let within_u : k ≤ u =
      omega (arith, number, length-take u r.accepted, ap (λ (l : List Op). length l) (first.1 ∙ all), length-append ops first.0) in (
        within_u,
        sym (take_at ops first.0 (suc k) (omega (arith, some)))
            ∙ ap (take (suc k)) (first.1 ∙ all)
            ∙ ap (λ (l : List Op). Load r.base ∷ l) (first_commits r.tables (loaded r.base) k front)
            ∙ ops_in_order r.tables r.base r.accepted u k are within_u,
      )

  seen_are : (ops : List Op) (u : ℕ) → u ≤ length r.accepted → IsPrefix ops (operations_in_order r.tables r.base r.accepted u) → 1 ≤ length ops →
      after ts (loaded base) (take (length ops - 1) log) ≡ Some (left_by ops)
  seen_are ops u within first some =
      let fewer = first_operations ops u within first some in
      left_are (length ops - 1) (omega (arith, within, fewer.0)) ∙ ap (λ (l : List Op). Some (left_by l)) (sym fewer.1)

  -- the first commits are of the records accepted
  within_accepted : IsSound r → (u : ℕ) → AreWithin (take u r.commits) r.accepted
  within_accepted sound u =
      let stands = sound_stands r sound in
      commits_are_within r.tables (loaded r.base) r.accepted (take u r.commits) (numbered r stands)
      (prefix_are_commits r.tables (loaded r.base) r.accepted (take u r.commits) (drop u r.commits)
      (subst (AreCommits r.tables (loaded r.base) r.accepted) (sym (take-append-drop u r.commits)) stands.commits))

  pub shows : ShowsTheLog ts base log n r
  shows = record {
    accepted = begins;
    rows = rows_are;
    seen = seen_are;
    closed = λ sound u le.
        subst (IsClosed (take u r.commits)) begins.1
        (closed_longer (take u r.commits) r.accepted begins.0 all_numbered (within_accepted sound u) (published_is_gapped r u sound le).closed);
    gapped_rows = λ sound u le.
        let gnos = take u r.commits in
        let same = longer_log r.accepted begins.0 gnos all_numbered (λ gno is. (within_accepted sound u gno is).1) in
        ap (λ (l : List Record). gapped ts (loaded base) l gnos) (sym begins.1)
        ∙ ap (after ts (loaded base)) same
        ∙ ap (λ (b : List Entry). gapped ts (loaded b) r.accepted gnos) (sym same_base)
        ∙ ap (λ (t : List Table). gapped t (loaded r.base) r.accepted gnos) (sym tables)
        ∙ (published_is_gapped r u sound le).rows;
  }

-- ---- what read

same_some : {A : Type 0} (a b : A) → Some a ≡ Some b → a ≡ b
same_some a b e = cc

pub two_processes : TwoProcesses
two_processes means ts base log n written read start wire r fed begins following began =
    let more = begins.0 in
    let all = take n log in
    let body = drop (fed.first - 1) all in
    let whole : BeginsWith (read ++ more) fed.source fed.first fed.text (flat_map (spelling Two) body) = record { is_head = fed.is_head; split = begins.1 ∙ fed.is_text } in
    let head = following.head in
    let longer : BeginsWith (read ++ more) wire.source following.first following.text (following.bytes ++ more) = record {
      is_head = head.is_head;
      split = ap (λ (l : List ℕ). l ++ more) head.split ∙ append_assoc (wire_head wire.source following.first following.text) following.bytes more;
    } in
    let same = one_head (read ++ more) fed.source wire.source fed.first following.first fed.text following.text (flat_map (spelling Two) body) (following.bytes ++ more) whole longer in
    let meant = same_some (ts, base) (start.tables, start.base) (sym fed.says ∙ ap means same.texts ∙ following.says) in
    let takes = following.takes in
    let those = begins_records body (takes.gone ++ wire.waiting) following.bytes more wire.rest fed.have (sym same.rests) takes.splits in
    let split : all ≡ take (fed.first - 1) all ++ (takes.gone ++ (wire.waiting ++ those.0)) =
    sym (take-append-drop (fed.first - 1) all) ∙ ap (λ (l : List Record). take (fed.first - 1) all ++ l) (sym those.1 ∙ append_assoc takes.gone wire.waiting those.0) in
    let legal : IsLegalLog ts (loaded base) all =
    beginning_is_legal ts (loaded base) all (drop n log) (subst (λ (l : List Record). IsLegalLog ts (loaded base) l) (sym (take-append-drop n log)) fed.legal) in
    let accepted = each_handed wire.source start all (take (fed.first - 1) all) takes.gone (wire.waiting ++ those.0) (part_is_numbered ts (loaded base) [] all legal) split began in
    shows ts base log n r fed.legal
    (ap (λ (q : relay.Relay). q.tables) takes.accepted ∙ ap (λ (q : Replica). q.tables) (handed_grows wire.source start takes.gone).is ∙ sym (ap (λ (p : List Table × List Entry). p.0) meant))
    (following.base_stays ∙ sym (ap (λ (p : List Table × List Entry). p.1) meant))
    (subst (λ (l : List Record). IsPrefix l all) (sym (ap (λ (q : relay.Relay). q.accepted) takes.accepted)) accepted)
