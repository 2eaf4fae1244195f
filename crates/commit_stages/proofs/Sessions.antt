-- Which sessions wait: each has a number from 1 to 256, and waits once.
use Rattle.std.proofs.Common.{◌≡◌, ◌∙◌, sym, ap, subst, refl, ℕ, zero, suc, ◌+◌, ◌-◌, ◌<◌, ◌≤◌, List, [], ◌∷◌, ◌++◌, length, drop, length-append, true, false, ◌||◌, eqb, inl, inr, arith}
use Rattle.std.specs.Prelude.{nat_eq}
use Rattle.std.specs.List.{list_any, IsDistinct, AllByRecursion}
use Rattle.std.proofs.lemmas.Cmp.{nat_eq_equiv}
use Rattle.std.proofs.lemmas.Bool.Decides.{eqb_tells, nat_tests}
use Rattle.std.proofs.lemmas.List.{length-drop, length-take}
use Rattle.std.proofs.lemmas.Map.Keys.{IsDistinct-push, IsDistinct-cons, IsDistinct-tail}
use Rattle.std.proofs.lemmas.Map.Steps.{length-le_from_distinct_below}
use Rattle.commit_stages.specs.Queues.{line_of, is_waiting, IsSession, IsOrderly, AreSizes}
use Rattle.commit_stages.specs.Line.{queues_in, IsLine, AreGroups}
use Rattle.commit_stages.proofs.Parts.{line-of_parts}

pub orderly : (line : List ℕ) (sync_from flush_from capacity : ℕ) (sizes : List ℕ) (room : ℕ) → IsLine line sync_from flush_from capacity × AreGroups sizes sync_from flush_from room →
    IsOrderly (queues_in line sync_from flush_from sizes)
orderly line sync_from flush_from capacity sizes room (is, groups) =
    let whole : line_of (queues_in line sync_from flush_from sizes) ≡ line = line-of_parts line sync_from flush_from sizes is.in_order in
    record {
      sessions = subst (λ (l : List ℕ). AllByRecursion IsSession l) (sym whole) is.sessions;
      distinct = subst (λ (l : List ℕ). IsDistinct eqb l) (sym whole) is.distinct;
      groups = subst (λ n. AreSizes sizes n) (omega (arith, is.within, is.in_order, length-drop sync_from line, length-take (flush_from - sync_from) (drop sync_from line))) groups.are;
    }

-- a look through the line finds who waits
flipped : (line : List ℕ) (session : ℕ) → list_any (λ y. nat_eq y session) line ≡ list_any (eqb session) line
flipped [] session = refl
flipped (first ∷ line) session = ap (λ b. b || list_any (λ y. nat_eq y session) line) (turned first session) ∙ ap (λ b. eqb session first || b) (flipped line session)
  where
    turned : (a b : ℕ) → nat_eq a b ≡ eqb b a
    turned a b = grind (arith, nat_tests)

pub found : (line : List ℕ) (sync_from flush_from : ℕ) (sizes : List ℕ) (session : ℕ) → sync_from ≤ flush_from →
    list_any (λ y. nat_eq y session) line ≡ is_waiting (queues_in line sync_from flush_from sizes) session
found line sync_from flush_from sizes session h = flipped line session ∙ ap (λ l. list_any (eqb session) l) (sym (line-of_parts line sync_from flush_from sizes h))

-- ---- one more session

pub sessions_push : (line : List ℕ) (session : ℕ) → AllByRecursion IsSession line → IsSession session → AllByRecursion IsSession (line ++ session ∷ [])
sessions_push [] session all one = (one, tt)
sessions_push (first ∷ line) session all one = (all.0, sessions_push line session all.1 one)

is_session_of : (line : List ℕ) → AllByRecursion IsSession line → (q : ℕ) → list_any (eqb q) line ≡ true → IsSession q
is_session_of [] all q e = cc
is_session_of (first ∷ line) all q e =
    elim (eqb_tells q first) [
      | inl same ↦ subst IsSession (sym same.1) all.0
      | inr apart ↦ is_session_of line all.1 q (rw apart.0 at e)
    ]

positive : (line : List ℕ) → AllByRecursion IsSession line → AllByRecursion (λ y. eqb 0 y ≡ false) line
positive [] all = tt
positive (first ∷ line) all = (above first all.0.0, positive line all.1)
  where
    above : (n : ℕ) → 1 ≤ n → eqb 0 n ≡ false
    above n h = grind (arith, nat_tests)

-- at most 256 sessions wait
pub few : (line : List ℕ) → AllByRecursion IsSession line → IsDistinct eqb line → length line ≤ 256
few line all distinct =
    let h = length-le_from_distinct_below (0 ∷ line) 257 (IsDistinct-cons eqb 0 line (positive line all) distinct) below in
    omega (arith, h)
  where
    below : (q : ℕ) → list_any (eqb q) (0 ∷ line) ≡ true → q < 257
    below q e =
        elim (eqb_tells q 0) [
          | inl zero_ ↦ omega (arith, zero_.1)
          | inr apart ↦ let both = is_session_of line all q (rw apart.0 at e) in omega (arith, both.1)
        ]

module _ (line : List ℕ) (sync_from flush_from capacity : ℕ) (sizes : List ℕ) (session : ℕ) (is : IsLine line sync_from flush_from capacity) (one : IsSession session)
    (free : is_waiting (queues_in line sync_from flush_from sizes) session ≡ false) where
  absent : list_any (eqb session) line ≡ false
  absent = ap (λ l. list_any (eqb session) l) (sym (line-of_parts line sync_from flush_from sizes is.in_order)) ∙ free

  distinct : IsDistinct eqb (line ++ session ∷ [])
  distinct = IsDistinct-push nat_eq_equiv line session is.distinct absent

  pub has_room : length line < capacity
  has_room =
      let count : length (line ++ session ∷ []) ≡ length line + 1 = length-append line (session ∷ []) in
      let h = few (line ++ session ∷ []) (sessions_push line session is.sessions one) distinct in
      omega (arith, h, count, is.room)

  pub queued_line : (more : List ℕ) (now : ℕ) → more ≡ line ++ session ∷ [] → capacity ≤ now → IsLine more sync_from flush_from now
  queued_line more now more_is kept =
      let count : length (line ++ session ∷ []) ≡ length line + 1 = length-append line (session ∷ []) in
      record {
        in_order = is.in_order;
        within = omega (arith, is.within, count, ap length more_is);
        sessions = subst (λ (l : List ℕ). AllByRecursion IsSession l) (sym more_is) (sessions_push line session is.sessions one);
        distinct = subst (λ (l : List ℕ). IsDistinct eqb l) (sym more_is) distinct;
        room = omega (arith, is.room, kept);
      }

-- ---- without the first

sessions-drop : (n : ℕ) (line : List ℕ) → AllByRecursion IsSession line → AllByRecursion IsSession (drop n line)
sessions-drop zero line all = all
sessions-drop (suc n) [] all = tt
sessions-drop (suc n) (first ∷ line) all = sessions-drop n line all.1

distinct-drop : (n : ℕ) (line : List ℕ) → IsDistinct eqb line → IsDistinct eqb (drop n line)
distinct-drop zero line distinct = distinct
distinct-drop (suc n) [] distinct = distinct
distinct-drop (suc n) (first ∷ line) distinct = distinct-drop n line (IsDistinct-tail eqb first line distinct)

pub committed_line : (line : List ℕ) (sync_from flush_from capacity : ℕ) → IsLine line sync_from flush_from capacity → (less : List ℕ) (now : ℕ) → less ≡ drop sync_from line → now ≡ capacity →
    IsLine less 0 (flush_from - sync_from) now
committed_line line sync_from flush_from capacity is less now less_is kept = record {
  in_order = omega arith;
  within = omega (arith, is.within, length-drop sync_from line, ap length less_is);
  sessions = subst (λ (l : List ℕ). AllByRecursion IsSession l) (sym less_is) (sessions-drop sync_from line is.sessions);
  distinct = subst (λ (l : List ℕ). IsDistinct eqb l) (sym less_is) (distinct-drop sync_from line is.distinct);
  room = omega (arith, is.room, kept);
}

pub new_line : (line : List ℕ) (capacity : ℕ) → line ≡ [] → 256 ≤ capacity → IsLine line 0 0 capacity
unfolding IsDistinct
new_line line capacity none room = record {
  in_order = omega arith;
  within = omega arith;
  sessions = subst (λ (l : List ℕ). AllByRecursion IsSession l) (sym none) tt;
  distinct = subst (λ (l : List ℕ). IsDistinct eqb l) (sym none) tt;
  room = room;
}
