-- Named columns that are read pair by pair.
use Rattle.std.proofs.Common.{◌≡◌, sym, ap, ◌∙◌, refl, arith, ℕ, ◌+◌, ◌*◌, ◌%◌, ◌^◌, ◌<◌, ◌≤◌, add-one, Bool, true, ◌&&◌, nat_le, nat_lt, count_ones, sum_by, map, List, [], ◌∷◌, ◌++◌, length, take}
use Rattle.std.proofs.Common.{drop, set, get_or, ℤ, pos}
use lib.Count.{ones_cat, ones-ones}
use Rattle.std.proofs.Math.Nat.{pow-suc, pow-le-pow_right}
use Rattle.std.proofs.lemmas.Bool.Decides.{nat_tests}
use Rattle.std.proofs.lemmas.List.{drop_more, length-set, map_more, take_more_set}
use Rattle.std.proofs.lemmas.List.Sums.{sum_by_more}
use Rattle.rows.specs.Naming.{rise_from}

-- what the first i pairs give: the least column that may come, mask and values
pub record Collected (pairs : List (ℕ × ℤ)) (i least mask : ℕ) (values : List ℤ) : Type 0 where
  pub rises : rise_from 0 pairs ≡ rise_from least (drop i pairs)
  pub columns : mask ≡ sum_by (λ pair. 2 ^ pair.0) (take i pairs)
  pub below : mask < 2 ^ least
  pub few : least ≤ 16
  pub room : i ≤ least
  pub each : count_ones mask ≡ i
  pub wide : length values ≡ 16
  pub so_far : take i values ≡ map (λ pair. pair.1) (take i pairs)

abbrev pub pair_at : List (ℕ × ℤ) → ℕ → ℕ × ℤ
pair_at pairs i = get_or pairs i (0, pos 0)

pub collected_none : (pairs : List (ℕ × ℤ)) (values : List ℤ) → length values ≡ 16 → Collected pairs 0 0 0 values
collected_none pairs values wide =
    record { rises = refl; columns = refl; below = omega arith; few = omega arith; room = omega arith; each = ones-ones 0; wide = wide; so_far = refl }

-- one bit of sixteen
pub one_bit : (c : ℕ) → c ≤ 15 → 1 * 2 ^ c % 65536 ≡ 2 ^ c
one_bit c few = let low : 2 ^ c ≤ 2 ^ 15 = pow-le-pow_right (omega arith) few in omega arith

pow_more : (c : ℕ) → 2 ^ (c + 1) ≡ 2 ^ c * 2
pow_more c = ap (λ n. 2 ^ n) (add-one c) ∙ pow-suc 2 c

-- a bit above all the others is one more
one_more : (mask c : ℕ) → mask < 2 ^ c → count_ones (mask + 2 ^ c) ≡ count_ones mask + 1
one_more mask c low =
    let order : mask + 2 ^ c ≡ 1 * 2 ^ c + mask = omega arith in
    let one : count_ones 1 ≡ 1 = ones-ones 1 in
    ap count_ones order ∙ ones_cat c 1 mask low ∙ (omega arith)

-- the test of the next pair
rises_more : (least c : ℕ) (rest : Bool) → least ≤ c → c ≤ 15 → (nat_le least c && nat_lt c 16 && rest) ≡ rest
rises_more least c rest from few =
    let low : nat_le least c ≡ true = grind (arith, nat_tests) in
    let high : nat_lt c 16 ≡ true = grind (arith, nat_tests) in
    λ i. low i && high i && rest

pub collected_more : (pairs : List (ℕ × ℤ)) (i least mask bit : ℕ) (values : List ℤ) → Collected pairs i least mask values → i < length pairs →
    least ≤ (pair_at pairs i).0 → (pair_at pairs i).0 ≤ 15 → bit ≡ 2 ^ (pair_at pairs i).0 →
    Collected pairs (i + 1) ((pair_at pairs i).0 + 1) (mask + bit) (set values i (pair_at pairs i).1)
collected_more pairs i least mask bit values so lt from few is =
    let c = (pair_at pairs i).0 in
    let v = (pair_at pairs i).1 in
    let over : 2 ^ least ≤ 2 ^ c = pow-le-pow_right (omega arith) from in
    let under : mask < 2 ^ c = omega (arith, so.below) in
    let within : i < length values = omega (arith, so.room, so.few, so.wide) in
    record {
      rises = so.rises ∙ ap (rise_from least) (drop_more pairs i (0, pos 0) lt) ∙ rises_more least c (rise_from (c + 1) (drop (i + 1) pairs)) from few;
      columns = (λ j. so.columns j + is j) ∙ sym (sum_by_more (λ pair. 2 ^ pair.0) pairs i (0, pos 0) lt);
      below = omega (arith, pow_more c);
      few = omega arith;
      room = omega (arith, so.room);
      each = ap (λ n. count_ones (mask + n)) is ∙ one_more mask c under ∙ ap (λ n. n + 1) so.each;
      wide = length-set values i v ∙ so.wide;
      so_far = take_more_set values i v within ∙ ap (λ l. l ++ v ∷ []) so.so_far ∙ sym (map_more (λ pair. pair.1) pairs i (0, pos 0) lt);
    }
