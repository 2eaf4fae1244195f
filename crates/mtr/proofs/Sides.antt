-- Two sides that agree are equal.
use mathlib.Core.List.{IsPrefix}
use Rattle.std.proofs.Common.{◌≡◌, ◌∙◌, sym, ap, subst, refl, ℕ, ◌≤◌, ◌+◌, List, [], ◌++◌, length, take, get_or, Some, true, arith}
use Rattle.std.specs.FinMap.{get}
use Rattle.std.specs.Option.{option_and_then}
use Rattle.std.proofs.lemmas.Bool.{leb-true}
use Rattle.std.proofs.lemmas.List.Sums.{AllPass-from_list_all}
use Rattle.store_trait.specs.declared.Op.{Op}
use Rattle.store_trait.specs.Operation.{loaded, left_by}
use Rattle.record_codec.specs.declared.records.Record.{Record}
use Rattle.record_codec.specs.Group.{AreNumbered}
use Rattle.record_codec.specs.Log.{after}
use Rattle.record_codec.proofs.Logs.{part_is_numbered}
use Rattle.scheduler.specs.Gnos.{low_of}
use Rattle.scheduler.proofs.Gnos.{has_gno-take}
use Rattle.gapped.specs.Gapped.{chosen, gapped, IsClosed}
use Rattle.gapped.proofs.Choosing.{AreWithin, longer_log, closed_longer}
use Rattle.source_core.specs.Source.{IsSound as IsSoundSource}
use Rattle.replica_core.specs.Sound.{IsSound as IsSoundReplica}
use Rattle.replica_core.proofs.Showing.{sound_stands, commits_within, gnos_of_operations, published_is_gapped}
use Rattle.published.specs.History.{IsHistory, gnos_of, commits_in}
use Rattle.replica_shared.proofs.Seeing.{seats_see_gapped, seen_is}
use Rattle.world.proofs.LawsSides.{seats_see}
use Rattle.mtr.specs.Reading.{IsSeen, AreTold}
use Rattle.mtr.specs.Threads.{IsLast, IsEnded, Agree, IsOfSource, AreOfSource, AreEqual, are_within}
use Rattle.mtr.specs.declared.options.Plan.{Plan}
use Rattle.mtr.specs.declared.threads.ended.Ended.{Ended}
use Rattle.mtr.specs.declared.threads.reading.Shown.{Shown}

-- some of the first numbers, of a beginning of a log: they choose the same records in the log, and are closed there
record InLonger (gnos : List ℕ) (short log : List Record) : Type 0 where
  pub same : chosen gnos log ≡ chosen gnos short
  pub closed : IsClosed gnos log

in_longer : (gnos : List ℕ) (short log : List Record) → IsPrefix short log → AreNumbered 1 log → AreWithin gnos short → IsClosed gnos short → InLonger gnos short log
in_longer gnos short log begins numbered within closed =
    subst (InLonger gnos short) begins.1
    (let all : AreNumbered 1 (short ++ begins.0) = subst (AreNumbered 1) (sym begins.1) numbered in
    record {
      same = longer_log short begins.0 gnos all (λ gno has. (within gno has).1);
      closed = closed_longer gnos short begins.0 all within closed;
    })

module _ {S T : Type 0} (plan : Plan) (e : Ended S T) (h : IsEnded plan e) (legal : IsSoundSource e.source) (sound : IsSoundReplica e.replica) (a : Agree plan e) where
  -- the row of what was seen, in the order of the log
  row_in_order : (known : List Op) → IsPrefix h.shown known → (s : Shown) (x : IsSeen e.replica.preserve known s) → commits_in x.seen ≤ commits_in h.shown → e.replica.preserve ≡ true
      → s.answer.row ≡ option_and_then (λ db. get db s.id) (after e.source.tables (loaded e.source.base) (take s.answer.upto e.source.log))
  row_in_order known learnt s x fewer kept =
      let committed : commits_in h.shown ≤ length e.replica.commits = h.within in
      let law : after e.source.tables (loaded e.source.base) (take (commits_in x.seen) e.source.log) ≡ Some (left_by x.seen) =
      seats_see e.source e.replica h.shown x.seen known legal kept h.tables a.rows a.begins (h.in_order kept) (omega (arith, committed, sound.counted, sound.dispatched)) learnt x.begins
      (subst (λ b. IsHistory b x.seen) kept x.history) fewer in
      x.row
      ∙ sym (ap (λ k. option_and_then (λ db. get db s.id) (after e.source.tables (loaded e.source.base) (take k e.source.log))) (x.upto kept)
      ∙ ap (option_and_then (λ db. get db s.id)) law)

  -- what was seen, of no more commits than were published, is the row at the source
  of_source : (known : List Op) → IsPrefix h.shown known → (s : Shown) → IsSeen e.replica.preserve known s → s.answer.upto + s.answer.more ≤ e.published → IsOfSource e.source e.replica e.published s
  of_source known learnt s x within =
      let n = commits_in x.seen in
      let gnos = take n e.replica.commits in
      let stands = sound_stands e.replica sound in
      let count : s.answer.upto + s.answer.more ≡ n = x.count in
      let fewer : n ≤ commits_in h.shown = omega (arith, within, a.counted, h.counted, count) in
      let law = seats_see_gapped published_is_gapped e.replica h.shown x.seen known sound h.are h.within learnt x.begins x.history fewer in
      let first : AreWithin gnos e.replica.accepted = λ gno has. commits_within e.replica stands gno (has_gno-take n e.replica.commits gno has) in
      let there = in_longer gnos e.replica.accepted e.source.log a.begins (part_is_numbered e.source.tables (loaded e.source.base) [] e.source.log legal.legal) first law.0 in
      let left : gapped e.source.tables (loaded e.source.base) e.source.log gnos ≡ Some (left_by x.seen) =
      ap (λ ts. after ts (loaded e.source.base) (chosen gnos e.source.log)) (sym h.tables)
      ∙ ap (λ db. after e.replica.tables db (chosen gnos e.source.log)) a.rows
      ∙ ap (after e.replica.tables (loaded e.replica.base)) there.same
      ∙ law.1 in
      let seen : gnos_of x.seen ≡ gnos =
      ap gnos_of (seen_is e.replica h.shown x.seen known h.are learnt x.begins x.history fewer)
      ∙ gnos_of_operations gnos_of e.replica n (record { none = refl; load = λ _ _. refl; commit = λ _ _ _. refl }) stands in
      record {
        within = within;
        in_order = λ kept. (omega (arith, count, x.upto kept), row_in_order known learnt s x fewer kept);
        mark = x.mark ∙ ap low_of seen ∙ ap (λ k. low_of (take k e.replica.commits)) (sym count);
        closed = subst (λ k. IsClosed (take k e.replica.commits) e.source.log) (sym count) there.closed;
        row =
            x.row
            ∙ sym (ap (λ k. option_and_then (λ db. get db s.id) (gapped e.source.tables (loaded e.source.base) e.source.log (take k e.replica.commits))) count
            ∙ ap (option_and_then (λ db. get db s.id)) left);
      }

  all_of_source : (shown : List Shown) → AreTold e.replica.preserve h.shown shown → are_within e.published shown ≡ true → AreOfSource e.source e.replica e.published shown
  all_of_source shown told within = record {
    each = λ k d at.
        let low = AllPass-from_list_all _ shown within k d at in
        of_source told.known told.learnt (get_or shown k d) (told.seen.each k d at) (leb-true _ _ low);
    none_falls = told.seen.none_falls;
  }

  pub equal_sides : (log : ℕ) → IsLast e.receipts.items log → AreEqual log e.published plan e
  equal_sides log last = record {
    took_part = a.took_part;
    order = h.order;
    legal = legal;
    sound = sound;
    tables = h.tables;
    rows = a.rows;
    begins = a.begins;
    given = h.given;
    last = last;
    committed = last.least e.source.committed (λ k d at. (h.given k d at).greatest);
    counted = a.counted;
    answers = λ k d at. all_of_source (get_or e.readings.items k d).items (h.told k d at) (AllPass-from_list_all _ e.readings.items a.within k d at);
  }
