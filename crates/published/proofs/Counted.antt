-- The numbers of the commits that one thread appended.
use Rattle.std.proofs.Common.{◌≡◌, ℕ, ◌+◌, ◌-◌, ◌≤◌, ◌==◌, ◌||◌, Bool, true, false, List, [], ◌∷◌, ◌++◌, length, refl, sym, ap, subst, ◌∙◌, arith, length-append}
use Rattle.std.proofs.lemmas.Bool.{false≢true}
use Rattle.store_trait.specs.Batch.{Entry}
use Rattle.store_trait.specs.declared.Op.{Op}
use Rattle.store_trait.specs.declared.Op.TheVariants.{Commit}
use Rattle.scheduler.specs.Gnos.{has_gno, low_of, first_gnos}
use Rattle.scheduler.proofs.Gnos.{has_gno-push, low_of_same, low_of_first, first_gnos-next, past_low}
use Rattle.published.specs.Plain.{Shown, MayFollow, IsCounted}

-- in the order of the log the mark is their number
pub low_counted : (preserve : Bool) (upto more : ℕ) (gnos : List ℕ) (waiting : List (List Entry)) → IsCounted preserve upto more gnos waiting → preserve ≡ true → low_of gnos ≡ upto + length waiting
low_counted preserve upto more gnos waiting c order =
    low_of_same gnos (first_gnos (length gnos)) (λ gno some. c.first order gno)
    ∙ low_of_first (length gnos)
    ∙ c.number
    ∙ ap (λ n. upto + n + length waiting) (c.none order)
    ∙ plain upto (length waiting) where
      plain : (upto n : ℕ) → upto + 0 + n ≡ upto + n
      plain upto n = omega arith

-- what may follow has a number that none has, and in the order of the log it is that of the next
record IsNew (preserve : Bool) (gnos : List ℕ) (gno : ℕ) : Type 0 where
  some : 1 ≤ gno
  none : has_gno gnos gno ≡ false
  next : preserve ≡ true → gno ≡ low_of gnos + 1

new_if : {S : Type 0} (preserve : Bool) (shown : Shown S) (gno : ℕ) (batch : List Entry) → IsCounted preserve shown.upto shown.more shown.gnos shown.waiting
    → MayFollow preserve shown (Commit gno batch) → IsNew preserve shown.gnos gno
new_if true shown gno batch c may =
    let low = low_counted true shown.upto shown.more shown.gnos shown.waiting c refl in
    let next : gno ≡ low_of shown.gnos + 1 = may ∙ ap (λ n. n + 1) (sym low) in record {
      some = omega (arith, next);
      none = subst (λ n. has_gno shown.gnos n ≡ false) (sym next) (past_low shown.gnos);
      next = λ order. next;
    }
new_if false shown gno batch c may = record { some = may.0; none = may.1; next = λ order. absurd (false≢true order) }

-- the gno of a commit that may be appended is from 1 on, and none of those appended
pub follows : {S : Type 0} (shown : Shown S) (op : Op) (gno : ℕ) (batch : List Entry) → IsCounted shown.preserve shown.upto shown.more shown.gnos shown.waiting
    → MayFollow shown.preserve shown op → op ≡ Commit gno batch → (1 ≤ gno) × (has_gno shown.gnos gno ≡ false)
follows shown op gno batch c may is =
    let new = new_if shown.preserve shown gno batch c (subst (MayFollow shown.preserve shown) is may) in
    (new.some, new.none)

-- one more
pub counted_put : {S : Type 0} (shown : Shown S) (op : Op) (gno : ℕ) (batch : List Entry) (gnos : List ℕ) (waiting : List (List Entry)) (last : List Entry)
    → IsCounted shown.preserve shown.upto shown.more shown.gnos shown.waiting → MayFollow shown.preserve shown op → op ≡ Commit gno batch
    → ((g : ℕ) → has_gno gnos g ≡ (has_gno shown.gnos g || (gno == g))) → length gnos ≡ length shown.gnos + 1 → waiting ≡ shown.waiting ++ last ∷ []
    → IsCounted shown.preserve shown.upto shown.more gnos waiting
counted_put shown op gno batch gnos waiting last c may is has count waits = record {
  number = omega (arith, count, c.number, ap (λ (l : List (List Entry)). length l) waits, length-append shown.waiting (last ∷ []));
  first = λ order other.
      let new = new_if shown.preserve shown gno batch c (subst (MayFollow shown.preserve shown) is may) in
      let n = length shown.gnos in
      let low : low_of shown.gnos ≡ n = low_of_same shown.gnos (first_gnos n) (λ g some. c.first order g) ∙ low_of_first n in
      let next : gno ≡ n + 1 = new.next order ∙ ap (λ m. m + 1) low in
      has other
      ∙ ap (λ b. b || (gno == other)) (c.first order other)
      ∙ ap (λ m. has_gno (first_gnos n) other || (m == other)) next
      ∙ sym (has_gno-push (first_gnos n) (n + 1) other)
      ∙ ap (λ l. has_gno l other) (sym (first_gnos-next n) ∙ ap first_gnos (sym count));
  none = c.none;
}

-- all that waited is shown
pub shown_in_order : (preserve : Bool) (upto more : ℕ) (gnos : List ℕ) (waiting : List (List Entry)) (count low : ℕ)
    → IsCounted preserve upto more gnos waiting → count ≡ length gnos → low ≡ low_of gnos → preserve ≡ true → (low ≡ upto + length waiting) × (count - low ≡ 0)
shown_in_order preserve upto more gnos waiting count low c is mark order =
    let reached : low ≡ upto + length waiting = mark ∙ low_counted preserve upto more gnos waiting c order in
    (reached, omega (arith, is, c.number, c.none order, reached))

-- once all is shown the commits are counted as those up to the mark and those above it
pub counted_shown : (preserve : Bool) (upto more : ℕ) (gnos : List ℕ) (waiting rest : List (List Entry)) (count low : ℕ)
    → IsCounted preserve upto more gnos waiting → rest ≡ [] → count ≡ length gnos → low ≡ low_of gnos → low ≤ length gnos → IsCounted preserve low (count - low) gnos rest
counted_shown preserve upto more gnos waiting rest count low c empty is mark within = record {
  number = omega (arith, is, within, ap (λ (l : List (List Entry)). length l) empty);
  first = c.first;
  none = λ order. (shown_in_order preserve upto more gnos waiting count low c is mark order).1;
}
