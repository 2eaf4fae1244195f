-- What a reader saw, one answer more at a time, and what it is at the source.
use mathlib.Core.List.{IsPrefix}
use base.Growing.{prefix_refl, prefix_trans}
use Rattle.std.proofs.Common.{◌≡◌, ◌∙◌, sym, ap, ◌+◌, ◌≤◌, Bool, true, List, [], ◌∷◌, ◌++◌, get_or, arith}
use Rattle.std.specs.FinMap.{get as row_of}
use Rattle.std.proofs.lemmas.List.Elements.{All-push, All-weaker}
use Rattle.std.proofs.lemmas.List.Quantifiers.{all_pairs_push}
use Rattle.store_trait.specs.declared.Op.{Op}
use Rattle.store_trait.specs.Operation.{left_by}
use Rattle.scheduler.specs.Gnos.{low_of, has_gno}
use Rattle.scheduler.proofs.Gnos.{has_gno_front, low_of_more}
use Rattle.published.specs.History.{IsHistory, gnos_of, commits_in}
use Rattle.published.proofs.Histories.{gnos_of-append}
use Rattle.replica_shared.proofs.Commits.{prefix_length}
use Rattle.mtr.specs.Reading.{IsSeen, IsNoFewer, AreSeen}
use Rattle.mtr.specs.declared.threads.reading.Shown.{Shown}

-- what was seen stays so once the seat knows more
pub knows_more : (preserve : Bool) (old new : List Op) (shown : List Shown) → IsPrefix old new → AreSeen preserve old shown → AreSeen preserve new shown
knows_more preserve old new shown more h = record {
  each = All-weaker (IsSeen preserve old) (IsSeen preserve new)
      (λ x s. record { seen = s.seen; begins = prefix_trans s.seen old new s.begins more; history = s.history; mark = s.mark; count = s.count; upto = s.upto; row = s.row }) shown h.each;
  none_falls = h.none_falls;
}

-- a beginning has no greater mark
mark_of_more : (front ops : List Op) → IsPrefix front ops → low_of (gnos_of front) ≤ low_of (gnos_of ops)
mark_of_more front ops begins =
    low_of_more (gnos_of front) (gnos_of ops) (λ gno some has.
    ap (λ o. has_gno (gnos_of o) gno) (sym begins.1)
    ∙ ap (λ gnos. has_gno gnos gno) (gnos_of-append front begins.0)
    ∙ has_gno_front (gnos_of front) (gnos_of begins.0) gno has)

-- one answer more, of all that the seat knows then
pub one_more : (preserve : Bool) (old new : List Op) (shown : List Shown) (s : Shown) → IsPrefix old new → AreSeen preserve old shown → IsHistory preserve new
    → s.answer.upto ≡ low_of (gnos_of new) → s.answer.upto + s.answer.more ≡ commits_in new → (preserve ≡ true → s.answer.upto ≡ commits_in new)
    → s.answer.row ≡ row_of (left_by new) s.id → AreSeen preserve new (shown ++ s ∷ [])
one_more preserve old new shown s more h history mark count upto row =
    let grown = knows_more preserve old new shown more h in
    record {
      each = All-push (IsSeen preserve new) shown s grown.each
          (record { seen = new; begins = prefix_refl new; history = history; mark = mark; count = count; upto = upto; row = row });
      none_falls = all_pairs_push IsNoFewer shown s h.none_falls (λ k d within.
          let x = grown.each k d within in
          let short = prefix_length x.seen new x.begins in
          let same : (get_or shown k d).answer.upto + (get_or shown k d).answer.more ≡ commits_in x.seen = x.count in
          let low = mark_of_more x.seen new x.begins in
          let marked : (get_or shown k d).answer.upto ≡ low_of (gnos_of x.seen) = x.mark in
          (omega (arith, low, marked, mark), omega (arith, short, same, count)));
    }
