use Rattle.std.proofs.Common.{◌≡◌, ℕ, ◌+◌, ◌<◌, ◌≤◌, List, length, take, get_or, max, Some, sym, subst, arith}
use Rattle.std.proofs.lemmas.List.{take_more}
use Rattle.std.proofs.lemmas.List.Elements.{All-more, All-weaker, All-pop, All-nil}
use Rattle.source_core.specs.declared.transaction.Receipt.{Receipt}
use Rattle.mtr.specs.Threads.{IsLast}
use Rattle.mtr.proofs.threads.ended.last_gno.Goals as goal

last_more : (rs : List Receipt) (i : ℕ) (r : Receipt) (last : ℕ) → i < length rs → r ≡ get_or rs i r → IsLast (take i rs) last → IsLast (take (i + 1) rs) (max r.gno last)
last_more rs i r last within is h = record {
  all =
      All-more (λ (x : Receipt). x.gno ≤ max r.gno last) rs i r within
      (All-weaker (λ (x : Receipt). x.gno ≤ last) (λ (x : Receipt). x.gno ≤ max r.gno last) (λ x low. omega (arith, low)) (take i rs) h.all)
      (subst (λ (x : Receipt). x.gno ≤ max r.gno last) is (omega arith));
  least = λ bound all.
      let parts = All-pop (λ (x : Receipt). x.gno ≤ bound) (take (i + 1) rs) (take i rs) (Some (get_or rs i r)) (take_more rs i r within) all in
      let low : last ≤ bound = h.least bound parts.0 in
      let here : r.gno ≤ bound = subst (λ (x : Receipt). x.gno ≤ bound) (sym is) parts.1 in
      omega (arith, low, here);
}

pub loop-receipt-init : goal.loop-receipt-init
loop-receipt-init c = record { all = All-nil (λ (x : Receipt). x.gno ≤ 0); least = λ bound all. omega arith }

pub loop-receipt-preserved : goal.loop-receipt-preserved
loop-receipt-preserved c =
    subst (IsLast (take (c.loop-receipt.receipt-index + 1) c.args.receipts.now)) (sym c.max-last.ensures)
    (last_more c.args.receipts.now c.loop-receipt.receipt-index c.receipt-item.result c.loop-receipt.last c.loop-receipt-test.true c.receipt-item.is c.loop-receipt.invariant)
