-- The sizes of groups: how they grow and shrink, and that none is empty.
use Rattle.std.proofs.Common.{◌≡◌, ◌∙◌, sym, ap, subst, refl, ℕ, ◌+◌, ◌-◌, suc, true, ◌<◌, ◌≤◌, List, [], ◌∷◌, ◌++◌, append-nil, Option, drop, length, arith}
use Rattle.std.specs.Prelude.{slice_index_or, Some, None, nat_lt, if◌then◌else◌}
use Rattle.std.specs.List.{AllByRecursion}
use Rattle.std.specs.Option.{unwrap_or, option_to_list}
use Rattle.std.proofs.lemmas.List.{length-drop}
use Rattle.std.proofs.lemmas.Bool.Decides.{nat_tests}
use Rattle.commit_stages.specs.Queues.{sizes_of, total, AreSizes}
use Rattle.commit_stages.specs.Line.{IsLine, AreGroups}
use Rattle.commit_stages.proofs.Sessions.{few}

-- there are no more groups than sessions
pub few_groups : (sizes : List ℕ) (count : ℕ) → AreSizes sizes count → length sizes ≤ count
few_groups sizes count are = omega (arith, few sizes are.some, are.whole) where
  few : (sizes : List ℕ) → AllByRecursion (λ size. 1 ≤ size) sizes → length sizes ≤ total sizes
  few [] some = omega arith
  few (size ∷ sizes) some = omega (arith, few sizes some.1, some.0)

-- groups of no session are none
pub no_groups : (sizes : List ℕ) → AreSizes sizes 0 → sizes ≡ []
no_groups [] are = refl
no_groups (size ∷ sizes) are = absurd (omega (arith, are.some.0, are.whole))

-- one more group
pub sizes_push : (sizes : List ℕ) (size count more : ℕ) → AreSizes sizes count → 1 ≤ size → more ≡ count + size → AreSizes (sizes ++ size ∷ []) more
sizes_push sizes size count more are some is = record { some = all sizes are.some; whole = omega (arith, sum sizes, are.whole, is) } where
  all : (sizes : List ℕ) → AllByRecursion (λ n. 1 ≤ n) sizes → AllByRecursion (λ n. 1 ≤ n) (sizes ++ size ∷ [])
  all [] each = (some, tt)
  all (first ∷ sizes) each = (each.0, all sizes each.1)

  sum : (sizes : List ℕ) → total (sizes ++ size ∷ []) ≡ total sizes + size
  sum [] = omega arith
  sum (first ∷ sizes) = omega (arith, sum sizes)

-- sessions make one group, of all of them
pub sizes_of_some : (sessions : List ℕ) → 1 ≤ length sessions → sizes_of sessions ≡ length sessions ∷ []
sizes_of_some [] some = absurd (omega (arith, some))
sizes_of_some (first ∷ sessions) some = ap (λ b. if b then length (first ∷ sessions) ∷ [] else []) (more (length sessions)) where
  more : (n : ℕ) → nat_lt 0 (suc n) ≡ true
  more n = grind (arith, nat_tests)

-- those of these sessions too
pub sizes_grow : (sizes sessions : List ℕ) (count more : ℕ) → AreSizes sizes count → more ≡ count + length sessions → AreSizes (sizes ++ sizes_of sessions) more
sizes_grow sizes [] count more are is = subst (λ l. AreSizes l more) (sym (append-nil sizes)) (subst (λ n. AreSizes sizes n) (omega (arith, is)) are)
sizes_grow sizes (first ∷ sessions) count more are is =
    subst (λ (l : List ℕ). AreSizes (sizes ++ l) more) (sym (sizes_of_some (first ∷ sessions) (omega arith))) (sizes_push sizes (length (first ∷ sessions)) count more are (omega arith) is)

-- the oldest group has no more sessions than all
pub oldest_within : (sizes : List ℕ) (count : ℕ) → AreSizes sizes count → slice_index_or sizes 0 0 ≤ count
oldest_within [] count are = omega arith
oldest_within (size ∷ sizes) count are = omega (arith, are.whole)

-- without the oldest
pub sizes_drop : (sizes : List ℕ) (count less : ℕ) → AreSizes sizes count → less + slice_index_or sizes 0 0 ≡ count → AreSizes (drop 1 sizes) less
sizes_drop [] count less are is = record { some = tt; whole = omega (arith, are.whole, is) }
sizes_drop (size ∷ sizes) count less are is = record { some = are.some.1; whole = omega (arith, are.whole, is) }

-- the first of the sizes, as it is taken off
pub first_size : (sizes rest : List ℕ) (got : Option ℕ) → sizes ≡ option_to_list got ++ rest → rest ≡ drop 1 sizes → unwrap_or got 0 ≡ slice_index_or sizes 0 0
first_size sizes rest (Some size) is less = sym (ap (λ (l : List ℕ). slice_index_or l 0 0) is)
first_size [] rest None is less = refl
first_size (size ∷ sizes) rest None is less = absurd (omega (arith, ap (λ (l : List ℕ). length l) is, ap (λ (l : List ℕ). length l) less))

-- ---- the groups of a line

-- the sizes with that of the flush queue
pub sizes_are : (line : List ℕ) (flush_from long : ℕ) → long ≡ length line → (sizes now : List ℕ) → now ≡ sizes ++ (if nat_lt 0 (long - flush_from) then (long - flush_from) ∷ [] else []) →
    now ≡ sizes ++ sizes_of (drop flush_from line)
sizes_are line flush_from long long_is sizes now is =
    is ∙ ap (λ n. sizes ++ (if nat_lt 0 n then n ∷ [] else [])) (ap (λ n. n - flush_from) long_is ∙ sym (length-drop flush_from line))

pub size_room : (line : List ℕ) (sync_from flush_from capacity : ℕ) (sizes : List ℕ) (room long count : ℕ) → IsLine line sync_from flush_from capacity → AreGroups sizes sync_from flush_from room →
    long ≡ length line → count ≡ length sizes →
    0 < long - flush_from → count < room
size_room line sync_from flush_from capacity sizes room long count is groups long_is count_is some =
    let few_sessions = few line is.sessions is.distinct in
    let groups_ = few_groups sizes (flush_from - sync_from) groups.are in omega (arith, few_sessions, groups_, groups.room, some, long_is, count_is)

pub flushed_parts : (line : List ℕ) (sync_from flush_from capacity : ℕ) (sizes : List ℕ) (room : ℕ) → IsLine line sync_from flush_from capacity × AreGroups sizes sync_from flush_from room →
    (to : ℕ) → to ≡ length line → (now : List ℕ) → now ≡ sizes ++ sizes_of (drop flush_from line) → (kept : ℕ) → room ≤ kept → IsLine line sync_from to capacity × AreGroups now sync_from to kept
flushed_parts line sync_from flush_from capacity sizes room both to to_is now now_is kept more = let is = both.0 in let groups = both.1 in (
  record { in_order = omega (arith, is.in_order, is.within, to_is); within = omega (arith, to_is); sessions = is.sessions; distinct = is.distinct; room = is.room },
  record {
    are = subst (λ (l : List ℕ). AreSizes l (to - sync_from)) (sym now_is)
        (sizes_grow sizes (drop flush_from line) (flush_from - sync_from) (to - sync_from) groups.are (omega (arith, is.in_order, is.within, to_is, length-drop flush_from line)));
    room = omega (arith, groups.room, more);
  },
)

pub synced_parts : (line : List ℕ) (sync_from flush_from capacity : ℕ) (sizes : List ℕ) (room : ℕ) → IsLine line sync_from flush_from capacity × AreGroups sizes sync_from flush_from room →
    (count : ℕ) → count ≡ slice_index_or sizes 0 0 → (now : List ℕ) → now ≡ drop 1 sizes → (kept : ℕ) → kept ≡ room →
    IsLine line (sync_from + count) flush_from capacity × AreGroups now (sync_from + count) flush_from kept
synced_parts line sync_from flush_from capacity sizes room both count count_is now now_is kept same =
    let is = both.0 in
    let groups = both.1 in
    let within = oldest_within sizes (flush_from - sync_from) groups.are in (
      record { in_order = omega (arith, is.in_order, within, count_is); within = is.within; sessions = is.sessions; distinct = is.distinct; room = is.room },
      record {
        are = subst (λ (l : List ℕ). AreSizes l (flush_from - (sync_from + count))) (sym now_is)
            (sizes_drop sizes (flush_from - sync_from) (flush_from - (sync_from + count)) groups.are (omega (arith, is.in_order, within, count_is)));
        room = omega (arith, groups.room, same);
      },
    )

pub groups_committed : (sizes : List ℕ) (sync_from flush_from capacity : ℕ) → AreGroups sizes sync_from flush_from capacity → AreGroups sizes 0 (flush_from - sync_from) capacity
groups_committed sizes sync_from flush_from capacity is = record { are = subst (λ n. AreSizes sizes n) (omega arith) is.are; room = is.room }

pub new_groups : (sizes : List ℕ) (capacity : ℕ) → sizes ≡ [] → 256 ≤ capacity → AreGroups sizes 0 0 capacity
new_groups sizes capacity none room = record { are = subst (λ (l : List ℕ). AreSizes l 0) (sym none) (record { some = tt; whole = refl }); room = room }
