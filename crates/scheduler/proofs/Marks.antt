-- The places of the numbers behind the low-water mark, as it goes up.
use Rattle.std.proofs.Common.{◌≡◌, ◌∙◌, sym, ap, refl, ℕ, ◌+◌, ◌-◌, ◌%◌, ◌<◌, ◌≤◌, Bool, true, false, ◌||◌, ◌&&◌, List, ◌++◌, ◌∷◌, [], length, get_or, set, replicate, max, inl, inr, eqb, leb, arith}
use Rattle.std.proofs.lemmas.Bool.{cases_lt, cases_eq, ne_eqb, le-leb, lt-leb, or_left, false≢true, false_from_ne_true}
use Rattle.std.proofs.lemmas.Bool.Decides.{nat_tests}
use Rattle.std.proofs.lemmas.List.{get_or-replicate, get_or_past, length-replicate, length-set, get_or-set_same, get_or-set_other}
use Rattle.scheduler.specs.Gnos.{has_gno, low_of}
use Rattle.scheduler.specs.Marks.{Marks, is_marked, is_committed, none_committed}
use Rattle.scheduler.specs.Places.{AreWithin, IsRing, Passes}
use Rattle.scheduler.specs.Laws.{LowIsGreatest}
use Rattle.scheduler.proofs.Gnos.{low_of_is, has_gno-push}

pub low_is_greatest : LowIsGreatest
low_is_greatest marks next = record {
  all = λ gno h. or_left (leb gno marks.low) _ (le-leb gno marks.low h);
  greatest = λ other all. elim (cases_lt marks.low other) [
    | inr up_to ↦ up_to
    | inl above ↦ absurd (false≢true (sym next ∙ all (marks.low + 1) (omega (arith, above))))
  ];
}

-- ---- one place

-- numbers within reach of one mark have places of their own
same_place : (low a b : ℕ) → low < a → a ≤ low + 4096 → low < b → b ≤ low + 4096 → a % 4096 ≡ b % 4096 → a ≡ b
same_place low a b h k l m e = omega arith

-- of a number within reach its place tells
pub of_near : (low : ℕ) (ring : List Bool) (gno : ℕ) → low < gno → gno ≤ low + 4096 → is_committed (record { low = low; ring = ring }) gno ≡ is_marked ring gno
of_near low ring gno above near = ap (λ b. b || (leb gno (low + 4096) && is_marked ring gno)) (lt-leb gno low above) ∙ ap (λ b. b && is_marked ring gno) (le-leb gno (low + 4096) near)

of_below : (low : ℕ) (ring : List Bool) (gno : ℕ) → gno ≤ low → is_committed (record { low = low; ring = ring }) gno ≡ true
of_below low ring gno below = or_left (leb gno low) _ (le-leb gno low below)

of_far : (low : ℕ) (ring : List Bool) (gno : ℕ) → low + 4096 < gno → is_committed (record { low = low; ring = ring }) gno ≡ false
of_far low ring gno far = ap (λ b. b || (leb gno (low + 4096) && is_marked ring gno)) (lt-leb gno low (omega (arith, far))) ∙ ap (λ b. b && is_marked ring gno) (lt-leb gno (low + 4096) far)

put_same : (ring : List Bool) (gno other : ℕ) (b : Bool) → length ring ≡ 4096 → other % 4096 ≡ gno % 4096 → is_marked (set ring (gno % 4096) b) other ≡ b
put_same ring gno other b all same = ap (λ i. get_or (set ring (gno % 4096) b) i false) same ∙ get_or-set_same ring (gno % 4096) b false (omega (arith, all))

put_other : (ring : List Bool) (gno other : ℕ) (b : Bool) → (other % 4096 ≡ gno % 4096 → ⊥) → is_marked (set ring (gno % 4096) b) other ≡ is_marked ring other
put_other ring gno other b ne = get_or-set_other ring (gno % 4096) (other % 4096) b false ne

-- ---- the transaction of one number is committed

module _ (low most : ℕ) (ring : List Bool) (gno : ℕ) (is : IsRing low most ring) (later : low < gno) (near : gno ≤ low + 4096) where
  put_marked : (other : ℕ) → low < other → other ≤ low + 4096 → is_marked (set ring (gno % 4096) true) other ≡ (is_marked ring other || eqb other gno)
  put_marked other above within = elim (cases_eq other gno) [
    | inl same ↦ let p = put_same ring gno other true is.within.places (ap (λ n. n % 4096) same) in grind (arith, nat_tests, p)
    | inr apart ↦
        let p = put_other ring gno other true (λ e. apart (same_place low other gno above within later near e)) in
        let n = ne_eqb other gno apart in
        grind (arith, nat_tests, p, n)
  ]

  pub put_within : AreWithin low (max most gno) (set ring (gno % 4096) true)
  put_within = record {
    places = length-set ring (gno % 4096) true ∙ is.within.places;
    reached = omega (arith, is.within.reached);
    above = λ other over within marked. elim (cases_eq other gno) [
      | inl same ↦ omega (arith, same)
      | inr apart ↦
          let h = is.within.above other over within (sym (put_other ring gno other true (λ e. apart (same_place low other gno over within later near e))) ∙ marked) in
          omega (arith, h)
    ];
  }

  pub put_committed : (other : ℕ) → is_committed (record { low = low; ring = set ring (gno % 4096) true }) other ≡ (is_committed (record { low = low; ring = ring }) other || eqb other gno)
  put_committed other = elim (cases_lt low other) [
    | inr below ↦ of_below low _ other below ∙ sym (or_left _ (eqb other gno) (of_below low ring other below))
    | inl above ↦ elim (cases_lt (low + 4096) other) [
      | inr within ↦
          of_near low _ other above within
          ∙ put_marked other above within
          ∙ sym (ap (λ b. b || eqb other gno) (of_near low ring other above within))
      | inl far ↦
          of_far low _ other far
          ∙ sym (ap (λ b. b || eqb other gno) (of_far low ring other far) ∙ ne_eqb other gno (λ e. omega (arith, far, near, e)))
    ]
  ]

  -- behind a gap the next is not marked
  pub put_gap : low + 1 < gno → is_marked (set ring (gno % 4096) true) (low + 1) ≡ false
  put_gap gap = put_other ring gno (low + 1) true (λ e. omega (arith, gap, same_place low (low + 1) gno (omega arith) (omega arith) later near e)) ∙ is.next

-- ---- the mark goes up

-- what is so on the way
pub record IsPassing (low most : ℕ) (ring : List Bool) (then : ℕ) (left : List Bool) : Type 0 where
  pub within : AreWithin then most left
  pub same : (gno : ℕ) → is_committed (record { low = then; ring = left }) gno ≡ is_committed (record { low = low; ring = ring }) gno
  pub gap : is_marked ring (low + 1) ≡ false → then ≡ low

pub begins : (low most : ℕ) (ring : List Bool) → AreWithin low most ring → IsPassing low most ring low ring
begins low most ring are = record { within = are; same = λ _. refl; gap = λ _. refl }

module _ (low most : ℕ) (ring : List Bool) (then : ℕ) (left : List Bool) (is : IsPassing low most ring then left) where
  -- the mark goes up by one, and the place of the number is free again
  module _ (more : then < most) (marked : is_marked left (then + 1) ≡ true) where
    step_within : AreWithin (then + 1) most (set left ((then + 1) % 4096) false)
    step_within = record {
      places = length-set left ((then + 1) % 4096) false ∙ is.within.places;
      reached = omega (arith, more);
      above = λ other over within there. elim (cases_eq other (then + 4097)) [
        | inl last ↦ absurd (false≢true (sym (put_same left (then + 1) other false is.within.places (omega (arith, last))) ∙ there))
        | inr near ↦ is.within.above other (omega (arith, over)) (omega (arith, within, near))
            (sym (put_other left (then + 1) other false (λ e. omega (arith, over, same_place then other (then + 1) (omega (arith, over)) (omega (arith, within, near)) (omega arith) (omega arith) e)))
            ∙ there)
      ];
    }

    step_same : (gno : ℕ) → is_committed (record { low = then + 1; ring = set left ((then + 1) % 4096) false }) gno ≡ is_committed (record { low = then; ring = left }) gno
    step_same gno = elim (cases_lt then gno) [
      | inr below ↦ of_below (then + 1) _ gno (omega (arith, below)) ∙ sym (of_below then left gno below)
      | inl above ↦ elim (cases_eq gno (then + 1)) [
        | inl next ↦
            of_below (then + 1) _ gno (omega (arith, next))
            ∙ sym (of_near then left gno above (omega (arith, next)) ∙ ap (λ n. is_marked left n) next ∙ marked)
        | inr behind ↦ elim (cases_lt (then + 4096) gno) [
          | inr near ↦
              of_near (then + 1) _ gno (omega (arith, above, behind)) (omega (arith, near))
              ∙ put_other left (then + 1) gno false (λ e. behind (same_place then gno (then + 1) above near (omega arith) (omega arith) e))
              ∙ sym (of_near then left gno above near)
          | inl far ↦ elim (cases_eq gno (then + 4097)) [
            | inl last ↦
                of_near (then + 1) _ gno (omega (arith, last)) (omega (arith, last))
                ∙ put_same left (then + 1) gno false is.within.places (omega (arith, last))
                ∙ sym (of_far then left gno far)
            | inr past ↦ of_far (then + 1) _ gno (omega (arith, far, past)) ∙ sym (of_far then left gno far)
          ]
        ]
      ]
    ]

    no_gap : is_marked ring (low + 1) ≡ false → ⊥
    no_gap gap =
        let is_low = is.gap gap in
        false≢true (
        sym (of_near low ring (low + 1) (omega arith) (omega arith) ∙ gap)
        ∙ sym (is.same (low + 1))
        ∙ ap (λ n. is_committed (record { low = n; ring = left }) (low + 1)) is_low
        ∙ of_near low left (low + 1) (omega arith) (omega arith)
        ∙ ap (λ n. is_marked left (n + 1)) (sym is_low)
        ∙ marked)

    pub step : IsPassing low most ring (then + 1) (set left ((then + 1) % 4096) false)
    step = record { within = step_within; same = λ gno. step_same gno ∙ is.same gno; gap = λ gap. absurd (no_gap gap) }

  -- at the end the next is not marked
  pub stops_at_most : most ≤ then → Passes low most ring then left
  stops_at_most past = record {
    is_ring = record {
      within = is.within;
      next = false_from_ne_true (is_marked left (then + 1)) (λ there. omega (arith, past, is.within.above (then + 1) (omega arith) (omega arith) there));
    };
    same = is.same;
    gap = is.gap;
  }

  pub stops_at_gap : is_marked left (then + 1) ≡ false → Passes low most ring then left
  stops_at_gap next = record { is_ring = record { within = is.within; next = next }; same = is.same; gap = is.gap }

-- ---- the marks of none, and of a set of numbers

none_at : (n i : ℕ) → get_or (replicate n false) i false ≡ false
none_at n i = elim (cases_lt i n) [
  | inl within ↦ get_or-replicate n i false false within
  | inr past ↦ get_or_past (replicate n false) i false (omega (arith, length-replicate n false))
]

none_marked : (n : ℕ) (ring : List Bool) (gno : ℕ) → ring ≡ replicate n false → is_marked ring gno ≡ false
none_marked n ring gno is = ap (λ (places : List Bool). is_marked places gno) is ∙ none_at n (gno % 4096)

new_of : (n : ℕ) (ring : List Bool) → n ≡ 4096 → ring ≡ replicate n false → IsRing 0 0 ring
new_of n ring all is = record {
  within = record {
    places = ap length is ∙ length-replicate n false ∙ all;
    reached = omega arith;
    above = λ gno _ _ there. absurd (false≢true (sym (none_marked n ring gno is) ∙ there));
  };
  next = none_marked n ring (0 + 1) is;
}

pub new_ring : (ring : List Bool) → ring ≡ replicate 4096 false → IsRing 0 0 ring
new_ring ring is = new_of 4096 ring refl is

pub new_marks : (ring : List Bool) → ring ≡ replicate 4096 false → ◌≡◌ {A = Marks} (record { low = 0; ring = ring }) none_committed
new_marks ring is = ap (λ (places : List Bool). record { low = 0; ring = places }) is

none_committed_of : (n : ℕ) (gno : ℕ) → is_committed (record { low = 0; ring = replicate n false }) gno ≡ leb gno 0
none_committed_of n gno =
    ap (λ b. leb gno 0 || (leb gno (0 + 4096) && b)) (none_at n (gno % 4096))
    ∙ nothing (leb gno 0) (leb gno (0 + 4096)) where
      nothing : (a b : Bool) → (a || (b && false)) ≡ a
      nothing true b = refl
      nothing false true = refl
      nothing false false = refl

-- none is committed but 0, which counts as such
pub none_is_committed : (gno : ℕ) → is_committed none_committed gno ≡ leb gno 0
none_is_committed gno = none_committed_of 4096 gno

-- the marks of a set of numbers: a number is committed exactly where it is among them, and so their marks are one
pub low_of_marks : (marks : Marks) (gnos : List ℕ) → is_committed marks (marks.low + 1) ≡ false → ((gno : ℕ) → 1 ≤ gno → is_committed marks gno ≡ has_gno gnos gno) → marks.low ≡ low_of gnos
low_of_marks marks gnos next marked = sym (low_of_is gnos marks.low (record {
  all = λ gno h k. sym (marked gno h) ∙ of_below marks.low marks.ring gno k;
  next = sym (marked (marks.low + 1) (omega arith)) ∙ next;
}))

-- one more
pub marks_of_more : (old new : Marks) (gnos : List ℕ) (gno : ℕ) → ((g : ℕ) → is_committed new g ≡ (is_committed old g || eqb g gno)) → ((g : ℕ) → 1 ≤ g → is_committed old g ≡ has_gno gnos g) →
    (g : ℕ) → 1 ≤ g → is_committed new g ≡ has_gno (gnos ++ gno ∷ []) g
marks_of_more old new gnos gno exact marked g h =
    exact g
    ∙ ap (λ b. b || eqb g gno) (marked g h)
    ∙ ap (λ b. has_gno gnos g || b) (eqb-comm g gno)
    ∙ sym (has_gno-push gnos gno g) where
      eqb-comm : (a b : ℕ) → eqb a b ≡ eqb b a
      eqb-comm a b = grind (arith, nat_tests)
