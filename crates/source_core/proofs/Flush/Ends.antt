-- The group of a flush has the numbers behind the log, and is the oldest once all before it is synced.
use Rattle.std.proofs.Common.{◌≡◌, ◌∙◌, sym, ap, subst, refl, ℕ, suc, ◌+◌, List, [], ◌∷◌, ◌++◌, length, length-append, take, drop, arith}
use Rattle.std.proofs.Math.Seq.{drop-append_seam, take-append_seam}
use Rattle.log_index.specs.declared.Entry.{Entry as Seen}
use Rattle.record_codec.specs.declared.records.Record.{Record}
use Rattle.record_codec.specs.Group as codec
use Rattle.record_codec.specs.Group.{GroupValue, size_of}
use Rattle.std.specs.Prelude.{slice_get, Some}
use Rattle.commit_stages.specs.Queues.{AreSizes}
use Rattle.commit_stages.proofs.Sizes.{sizes_of_some, no_groups}
use Rattle.source_core.specs.Source.{Source, IsSound, entry_of}
use Rattle.source_core.specs.Calls.{AreNextRecords, seen_log}
use Rattle.source_core.specs.Laws.{GroupEnds, GroupIsCounted, GroupIsOldest}
use Rattle.source_core.proofs.Flush.Fit.{places_of}

first_is : (s : Source) (before : List Seen) (queue : List ℕ) (first : Record) (rest : List Record) → AreNextRecords s before queue (first ∷ rest) → first.gno ≡ length before + 1
first_is s before [] first rest are = absurd are
first_is s before (session ∷ queue) first rest are = are.0.gno

ends : (s : Source) (group : GroupValue) (records : List Record) → AreNextRecords s (seen_log s) s.queue records → codec.AreRecordsOf group records → length (seen_log s) ≡ length s.log →
    (group.first ≡ length s.log + 1) × (group.last ≡ length s.log + length records)
ends s group [] are of long = absurd (omega (arith, of.some))
ends s group (first ∷ rest) are of long =
    let number = first_is s (seen_log s) s.queue first rest are in
    let start : group.first ≡ length s.log + 1 = omega (arith, number, of.numbered.0, long) in
    (start, omega (arith, start, of.last))

pub group_ends : GroupEnds
group_ends old new group sound f =
    let at = ends old group f.records f.are f.group_of (places_of old.tables old.log old.owners sound.owned).1 in
    let long : length new.log ≡ length old.log + length f.records = ap (λ (s : Source). length s.log) f.leaves ∙ length-append old.log f.records in
    (at.0, omega (arith, at.1, long))

-- the records of a group that stand behind the synced ones, whatever is behind them
behind_synced : (log records more : List Record) (group : GroupValue) (synced_ : ℕ) → codec.AreRecordsOf group records → synced_ ≡ length log → group.first ≡ length log + 1 →
    drop synced_ (take group.last ((log ++ records) ++ more)) ≡ records
behind_synced log records more group synced_ of synced_is first =
    let last : group.last ≡ length (log ++ records) = omega (arith, of.last, first, of.some, length-append log records) in
    (λ i. drop (synced_is i) (take (last i) ((log ++ records) ++ more)))
    ∙ ap (drop (length log)) (take-append_seam (log ++ records) more)
    ∙ drop-append_seam log records

pub as_many : (s : Source) (before : List Seen) (queue : List ℕ) (records : List Record) → AreNextRecords s before queue records → length records ≡ length queue
as_many s before [] [] are = refl
as_many s before (session ∷ queue) (first ∷ records) are = ap (λ n. suc n) (as_many s (before ++ entry_of s.tables first session ∷ []) queue records are.1)
as_many s before _ _ are = absurd are

pub group_is_counted : GroupIsCounted
group_is_counted old new group sound f =
    let at = ends old group f.records f.are f.group_of (places_of old.tables old.log old.owners sound.owned).1 in
    let many = as_many old (seen_log old) old.queue f.records f.are in
    let size : length old.queue ≡ size_of group = omega (arith, at.0, at.1, many) in
    ap (λ (s : Source). s.group_sizes) f.leaves
    ∙ ap (λ (l : List ℕ). old.group_sizes ++ l) (sizes_of_some old.queue (omega (arith, many, f.group_of.some)) ∙ ap (λ n. n ∷ []) size)

pub group_is_oldest : GroupIsOldest
group_is_oldest old new later group more sizes sound f log_is synced_is sizes_are =
    let at = ends old group f.records f.are f.group_of (places_of old.tables old.log old.owners sound.owned).1 in
    let log : later.log ≡ (old.log ++ f.records) ++ more = log_is ∙ ap (λ (s : Source). s.log ++ more) f.leaves in
    let same = ap (λ (l : List Record). drop later.synced (take group.last l)) log ∙ behind_synced old.log f.records more group later.synced f.group_of synced_is at.0 in
    let first : slice_get later.group_sizes 0 ≡ Some (size_of group) =
    ap (λ (l : List ℕ). slice_get l 0) sizes_are
    ∙ ap (λ (l : List ℕ). slice_get (drop (length old.group_sizes) l ++ sizes) 0) (group_is_counted old new group sound f)
    ∙ ap (λ (l : List ℕ). slice_get (l ++ sizes) 0) (drop-append_seam old.group_sizes (size_of group ∷ [])) in
    record {
      are = subst (λ (rs : List Record). codec.AreRecordsOf group rs) (sym same) f.group_of;
      whole = first ∙ ap Some (omega (arith, at.0, synced_is));
    }

-- where all is synced no group waits
pub none_waits : (s : Source) → IsSound s → s.synced ≡ length s.log → s.group_sizes ≡ []
none_waits s sound all = no_groups s.group_sizes (subst (λ n. AreSizes s.group_sizes n) (omega (arith, all)) sound.grouped)
