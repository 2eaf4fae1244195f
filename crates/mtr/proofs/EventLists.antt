-- Events that are kept, and put behind one another.
use Rattle.std.proofs.Common.{◌≡◌, ◌∙◌, sym, ap, refl, ℕ, ℤ, zero, suc, ◌+◌, ◌-◌, ◌≤◌, ◌<◌, get_or, subst, Option, Some, List, [], ◌∷◌, ◌++◌, length, take, drop}
use Rattle.std.proofs.Common.{append_assoc, append-nil, arith, Result, Ok, Err}
use Rattle.std.specs.Result.{OnOk}
use Rattle.std.specs.List.{All, sum_by}
use Rattle.std.proofs.lemmas.List.Elements.{All-tail}
use Rattle.std.proofs.Math.ListN.{set}
use Rattle.std.proofs.lemmas.List.{take-append-le, drop-append-le, drop_more, take_all, length-drop}
use Rattle.std.proofs.lemmas.List.Sums.{sum_by-cons}
use Rattle.world.specs.declared.events.Event.{Event}
use Rattle.script_text.specs.declared.kept.KeptEvent.{KeptEvent}
use Rattle.script_text.specs.Kept.{Keeps, IsWhole, width_of, event_of}
use Rattle.mtr.specs.Events.{AreWhole, one_or_none, events_of, events_in}

nothing : (columns : List ℤ) → 0 ≡ length columns → columns ≡ []
nothing [] e = refl
nothing (c ∷ cs) e = absurd (omega arith)

-- an event more, with its columns
pub events_more : (kept : List KeptEvent) (k : KeptEvent) (columns own : List ℤ) → sum_by width_of kept ≡ length columns → width_of k ≡ length own →
    events_of (kept ++ k ∷ []) (columns ++ own) ≡ events_of kept columns ++ event_of k own ∷ []
events_more [] k columns own sum width =
    let none : columns ≡ [] = nothing columns sum in
    let mine : take (width_of k) own ≡ own = take_all (width_of k) own (omega (arith, width)) in
    ap (λ cs. events_of (k ∷ []) (cs ++ own)) none ∙ ap (λ cs. event_of k cs ∷ []) mine
events_more (x ∷ xs) k columns own sum width =
    let w = width_of x in
    let parts : w + sum_by width_of xs ≡ length columns = sym (sum_by-cons width_of x xs) ∙ sum in
    let few : w ≤ length columns = omega (arith, parts) in
    let left : sum_by width_of xs ≡ length (drop w columns) = omega (arith, parts, length-drop w columns) in
    ap (λ cs. event_of x cs ∷ events_of (xs ++ k ∷ []) (drop w (columns ++ own))) (take-append-le w columns own few)
    ∙ ap (λ cs. event_of x (take w columns) ∷ events_of (xs ++ k ∷ []) cs) (drop-append-le w columns own few)
    ∙ ap (λ events. event_of x (take w columns) ∷ events) (events_more xs k (drop w columns) own left width)

-- what is kept of an event that was tried, behind others
pub kept_more : (kept : List KeptEvent) (columns new : List ℤ) (event : Option Event) (k : KeptEvent) → AreWhole kept columns → Keeps event (Some k) columns new →
    events_of (kept ++ k ∷ []) new ≡ events_of kept columns ++ one_or_none event
kept_more kept columns new event k h keeps =
    ap (events_of (kept ++ k ∷ [])) keeps.2 ∙ events_more kept k columns keeps.0 h.width keeps.4 ∙ ap (λ e. events_of kept columns ++ one_or_none e) (sym keeps.1)

-- the next of the events that are left, and what is left behind it
module _ (kept : List KeptEvent) (i n : ℕ) (d : KeptEvent) (columns own rest : List ℤ) (below : i < length kept) (width : n ≡ width_of (get_or kept i d)) (took : own ≡ take n columns)
    (left : rest ≡ drop n columns) where
  pub next_event : events_of (drop i kept) columns ≡ event_of (get_or kept i d) own ∷ events_of (drop (i + 1) kept) rest
  next_event =
      ap (λ ks. events_of ks columns) (drop_more kept i d below)
      ∙ (λ j. event_of (get_or kept i d) (take (sym width j) columns) ∷ events_of (drop (i + 1) kept) (drop (sym width j) columns))
      ∙ (λ j. event_of (get_or kept i d) (sym took j) ∷ events_of (drop (i + 1) kept) (sym left j))

  pub next_whole : AreWhole (drop i kept) columns → AreWhole (drop (i + 1) kept) rest
  next_whole h =
      let k = get_or kept i d in
      let behind = drop (i + 1) kept in
      let cut : drop i kept ≡ k ∷ behind = drop_more kept i d below in
      let each : All IsWhole (k ∷ behind) = subst (λ ks. All IsWhole ks) cut h.each in
      let sum : sum_by width_of (k ∷ behind) ≡ length columns = sym (ap (sum_by width_of) cut) ∙ h.width in
      let parts = sum_by-cons width_of k behind in
      record { each = All-tail IsWhole k behind each; width = omega (arith, sum, parts, width, ap (λ (l : List ℤ). length l) left, length-drop n columns) }

-- more events of the last piece
pub events_in_set : (pieces : List (List Event)) (i : ℕ) (d new more : List Event) → i + 1 ≡ length pieces → new ≡ get_or pieces i d ++ more → events_in (set pieces i new) ≡ events_in pieces ++ more
events_in_set [] i d new more e h = absurd (omega arith)
events_in_set (p ∷ []) zero d new more e h = append-nil new ∙ h ∙ ap (λ x. x ++ more) (sym (append-nil p))
events_in_set (p ∷ []) (suc i) d new more e h = absurd (omega arith)
events_in_set (p ∷ (q ∷ qs)) zero d new more e h = absurd (omega arith)
events_in_set (p ∷ (q ∷ qs)) (suc i) d new more e h = ap (λ x. p ++ x) (events_in_set (q ∷ qs) i d new more (omega arith) h) ∙ sym (append_assoc p (events_in (q ∷ qs)) more)

pub last_grown : {T E : Type 0} (r : Result T E) (pieces : List (List Event)) (n : ℕ) (piece new more : List Event) → n ≡ length pieces → 1 ≤ n → piece ≡ get_or pieces (n - 1) piece →
    OnOk r (new ≡ piece ++ more) → OnOk r (events_in (set pieces (n - 1) new) ≡ events_in pieces ++ more)
last_grown (Ok v) pieces n piece new more e some is h = events_in_set pieces (n - 1) piece new more (omega arith) (h ∙ ap (λ p. p ++ more) is)
last_grown (Err x) pieces n piece new more e some is h = h
