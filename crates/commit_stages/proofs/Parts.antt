-- Three queues as the parts of one list: how the parts move.
use Rattle.std.proofs.Common.{◌≡◌, ◌∙◌, sym, ap, refl, ℕ, ◌+◌, ◌-◌, ◌≤◌, List, [], ◌∷◌, ◌++◌, length, take, drop, arith}
use Rattle.std.specs.List.{slice_range}
use Rattle.std.proofs.Math.Seq.{take-add}
use Rattle.std.proofs.lemmas.List.{append_assoc, append-nil, take-append-drop, take-take, take_all, drop_all, drop-drop, drop-take, length-drop}
use Rattle.std.specs.Prelude.{slice_index_or}
use Rattle.commit_stages.specs.Queues.{line_of, sizes_of, oldest_size, flush_taken, sync_taken}
use Rattle.commit_stages.specs.Line.{queues_in}
use Rattle.commit_stages.specs.Laws.{KeepsLine}

-- a part of a list and what is behind it are what is behind the part's beginning
part-rest : (line : List ℕ) (from to : ℕ) → from ≤ to → slice_range line from to ++ drop to line ≡ drop from line
part-rest line from to h =
    ap (λ n. slice_range line from to ++ drop n line) (omega (arith, h))
    ∙ ap (λ l. slice_range line from to ++ l) (sym (drop-drop (to - from) from line))
    ∙ take-append-drop (to - from) (drop from line)

-- the three parts are the list
pub line-of_parts : (line : List ℕ) (sync_from flush_from : ℕ) (sizes : List ℕ) → sync_from ≤ flush_from → line_of (queues_in line sync_from flush_from sizes) ≡ line
line-of_parts line sync_from flush_from sizes h =
    ap (λ l. take sync_from line ++ l) (part-rest line sync_from flush_from h) ∙ take-append-drop sync_from line

-- where the flush queue begins behind all, the sync queue has taken it
pub flush_moves : (line : List ℕ) (sync_from flush_from : ℕ) (sizes : List ℕ) → sync_from ≤ flush_from →
    queues_in line sync_from (length line) (sizes ++ sizes_of (drop flush_from line)) ≡ flush_taken (queues_in line sync_from flush_from sizes)
flush_moves line sync_from flush_from sizes h =
    λ i. record { flush = drop_all (length line) line (omega arith) i; sync = both i; commit = take sync_from line; sizes = sizes ++ sizes_of (drop flush_from line) }
  where
    both : slice_range line sync_from (length line) ≡ slice_range line sync_from flush_from ++ drop flush_from line
    both = take_all (length line - sync_from) (drop sync_from line) (omega (arith, length-drop sync_from line)) ∙ sym (part-rest line sync_from flush_from h)

-- where the sync queue begins later, the commit queue has taken its oldest group
pub sync_moves : (line : List ℕ) (sync_from flush_from : ℕ) (sizes : List ℕ) → sync_from ≤ flush_from → slice_index_or sizes 0 0 ≤ flush_from - sync_from →
    queues_in line (sync_from + slice_index_or sizes 0 0) flush_from (drop 1 sizes) ≡ sync_taken (queues_in line sync_from flush_from sizes)
sync_moves line sync_from flush_from sizes in_order few =
    λ i. record { flush = drop flush_from line; sync = left i; commit = taken i; sizes = drop 1 sizes }
  where
    count : ℕ
    count = slice_index_or sizes 0 0

    h : sync_from + count ≤ flush_from
    h = omega (arith, in_order, few)

    left : slice_range line (sync_from + count) flush_from ≡ drop count (slice_range line sync_from flush_from)
    left =
        ap (λ l. take (flush_from - (sync_from + count)) l) (sym (drop-drop count sync_from line))
        ∙ sym (drop-take count (flush_from - (sync_from + count)) (drop sync_from line))
        ∙ ap (λ n. drop count (take n (drop sync_from line))) (omega (arith, h))

    taken : take (sync_from + count) line ≡ take sync_from line ++ take count (slice_range line sync_from flush_from)
    taken =
        take-add sync_from count line
        ∙ ap (λ l. take sync_from line ++ l) (sym (take-take count (flush_from - sync_from) (drop sync_from line) (omega (arith, h))))

-- the law of the line

pub keeps_line : KeepsLine
keeps_line = record {
  queue = λ q session. sym (append_assoc q.commit (q.sync ++ q.flush) (session ∷ []) ∙ ap (λ l. q.commit ++ l) (append_assoc q.sync q.flush (session ∷ [])));
  flush = λ q. ap (λ l. q.commit ++ l) (append-nil (q.sync ++ q.flush));
  sync = λ q. append_assoc q.commit (take (oldest_size q) q.sync) (drop (oldest_size q) q.sync ++ q.flush)
      ∙ ap (λ l. q.commit ++ l) (sym (append_assoc (take (oldest_size q) q.sync) (drop (oldest_size q) q.sync) q.flush) ∙ ap (λ l. l ++ q.flush) (take-append-drop (oldest_size q) q.sync));
  commit = λ q. refl;
}
