-- Who is called of those who sleep, place by place.
use Rattle.std.proofs.Common.{
  ◌≡◌,
  ◌⊎◌,
  inl,
  inr,
  ℕ,
  zero,
  suc,
  ◌+◌,
  ◌-◌,
  ◌<◌,
  Bool,
  true,
  false,
  not,
  ◌&&◌,
  ◌||◌,
  if◌then◌else◌,
  List,
  [],
  ◌∷◌,
  ◌++◌,
  length,
  replicate,
  Option,
  None,
  is_some,
  slice_index_or,
  slice_set,
  refl,
  sym,
  ap,
  ◌∙◌,
  subst,
  append_assoc,
  arith,
}
use Rattle.std.proofs.lemmas.Bool.{false≢true}
use Rattle.std.proofs.lemmas.List.{length-append}
use Rattle.std.proofs.lemmas.List.Sums.{sum_by-cons}
use Rattle.source_core.specs.declared.transaction.Receipt.{Receipt}
use Rattle.source_shared.specs.Engine.{State, calls, sleep_on, count, called_by, awoken, has_end, set_asleep, NoneSleepsWithEnd, NobodyIsCalled}

-- So many places were looked at, of these who slept and these receipts: who was called there, and who sleeps now.
pub record IsCalling (halted first : Bool) (slept : List Bool) (places : List (Option Receipt)) (at : ℕ) (leads : Bool) (sleeping called : List Bool) (left : ℕ) : Type 0 where
  pub front : List Bool
  pub rest : List Bool
  pub seen : List (Option Receipt)
  pub more : List (Option Receipt)
  pub told : List Bool
  pub slept_is : slept ≡ front ++ rest
  pub places_is : places ≡ seen ++ more
  pub called_is : called ≡ told ++ replicate (length rest) false
  pub sleeping_is : sleeping ≡ sleep_on front told ++ rest
  pub front_long : length front ≡ at
  pub seen_long : length seen ≡ at
  pub told_long : length told ≡ at
  pub rest_long : length more ≡ length rest
  pub calls_are : calls halted first slept places ≡ told ++ calls halted leads rest more
  pub left_is : left ≡ count rest

pub none_called : (halted leads : Bool) (slept : List Bool) (places : List (Option Receipt)) (n : ℕ) → length slept ≡ n → length places ≡ n
    → IsCalling halted leads slept places 0 leads slept (replicate n false) (count slept)
none_called halted leads slept places n long many = record {
  front = [];
  rest = slept;
  seen = [];
  more = places;
  told = [];
  slept_is = refl;
  places_is = refl;
  called_is = ap (λ (k : ℕ). replicate k false) (sym long);
  sleeping_is = refl;
  front_long = refl;
  seen_long = refl;
  told_long = refl;
  rest_long = many ∙ sym long;
  calls_are = refl;
  left_is = refl;
}

-- ---- lists in two parts

index_at : {A : Type 0} (xs ys : List A) (k : ℕ) (x d : A) → length xs ≡ k → slice_index_or (xs ++ x ∷ ys) k d ≡ x
index_at [] ys k x d e = rw (← e) refl
index_at (y ∷ xs) ys k x d e = rw (← e) (index_at xs ys (length xs) x d refl)

set_at : {A : Type 0} (xs ys : List A) (k : ℕ) (x y : A) → length xs ≡ k → slice_set (xs ++ x ∷ ys) k y ≡ xs ++ y ∷ ys
set_at [] ys k x y e = rw (← e) refl
set_at (z ∷ xs) ys k x y e = rw (← e) (ap (λ l. z ∷ l) (set_at xs ys (length xs) x y refl))

sleep_on_long : (front told : List Bool) → length (sleep_on front told) ≡ length front
sleep_on_long [] told = refl
sleep_on_long (x ∷ front) [] = refl
sleep_on_long (x ∷ front) (c ∷ told) = ap suc (sleep_on_long front told)

sleep_on_more : (front told : List Bool) (x c : Bool) → length told ≡ length front → sleep_on (front ++ x ∷ []) (told ++ c ∷ []) ≡ sleep_on front told ++ (x && not c) ∷ []
sleep_on_more [] [] x c e = refl
sleep_on_more [] (d ∷ told) x c e = absurd (omega (arith, e))
sleep_on_more (y ∷ front) [] x c e = absurd (omega (arith, e))
sleep_on_more (y ∷ front) (d ∷ told) x c e = ap (λ (l : List Bool). (y && not d) ∷ l) (sleep_on_more front told x c (omega (arith, e)))

sleep_on_parts : (front told rest : List Bool) (n : ℕ) → length told ≡ length front → sleep_on (front ++ rest) (told ++ replicate n false) ≡ sleep_on front told ++ sleep_on rest (replicate n false)
sleep_on_parts [] [] rest n e = refl
sleep_on_parts [] (d ∷ told) rest n e = absurd (omega (arith, e))
sleep_on_parts (y ∷ front) [] rest n e = absurd (omega (arith, e))
sleep_on_parts (y ∷ front) (d ∷ told) rest n e = ap (λ (l : List Bool). (y && not d) ∷ l) (sleep_on_parts front told rest n (omega (arith, e)))

and_true : (x : Bool) → (x && true) ≡ x
and_true true = refl
and_true false = refl

nobody_called : (rest : List Bool) (n : ℕ) → sleep_on rest (replicate n false) ≡ rest
nobody_called [] n = refl
nobody_called (x ∷ rest) zero = refl
nobody_called (x ∷ rest) (suc n) = λ i. and_true x i ∷ nobody_called rest n i

one_more : (l : List Bool) → count (true ∷ l) ≡ suc (count l)
one_more l = omega (arith, sum_by-cons (λ (b : Bool). if b then 1 else 0) true l)

-- where none sleeps nobody is called
none_sleeps : (halted leads : Bool) (rest : List Bool) (more : List (Option Receipt)) → length more ≡ length rest → count rest ≡ 0 → calls halted leads rest more ≡ replicate (length rest) false
none_sleeps halted leads [] more long none = refl
none_sleeps halted leads (true ∷ rest) more long none = absurd (omega (arith, sym (one_more rest) ∙ none))
none_sleeps halted leads (false ∷ rest) [] long none = absurd (omega (arith, long))
none_sleeps halted leads (false ∷ rest) (place ∷ more) long none =
    ap (λ (l : List Bool). false ∷ l) (none_sleeps halted (leads && true) rest more (omega (arith, long)) none)

-- ---- a place more

-- what is to be looked at next
pub record IsNext (x : Bool) (place : Option Receipt) (front rest : List Bool) (seen more : List (Option Receipt)) : Type 0 where
  pub later : List Bool
  pub behind : List (Option Receipt)
  pub rest_is : rest ≡ x ∷ later
  pub more_is : more ≡ place ∷ behind

module _ (halted first : Bool) (slept : List Bool) (places : List (Option Receipt)) (at : ℕ) (leads : Bool) (sleeping called : List Bool) (left : ℕ) where
  -- one that sleeps or not, with this receipt; it is called or not
  goes_on : (x c : Bool) (place : Option Receipt) (later : List Bool) (behind : List (Option Receipt)) (h : IsCalling halted first slept places at leads sleeping called left)
      → h.rest ≡ x ∷ later → h.more ≡ place ∷ behind
      → c ≡ (x && (halted || is_some place || leads)) → (after asleep : List Bool) → after ≡ h.told ++ c ∷ replicate (length later) false → asleep ≡ sleep_on h.front h.told ++ (x && not c) ∷ later
      → IsCalling halted first slept places (at + 1) (leads && (not x || halted || is_some place)) asleep after (count later)
  goes_on x c place later behind h rest more is after asleep after_is asleep_is = record {
    front = h.front ++ x ∷ [];
    rest = later;
    seen = h.seen ++ place ∷ [];
    more = behind;
    told = h.told ++ c ∷ [];
    slept_is = h.slept_is ∙ ap (λ (l : List Bool). h.front ++ l) rest ∙ sym (append_assoc h.front (x ∷ []) later);
    places_is = h.places_is ∙ ap (λ (l : List (Option Receipt)). h.seen ++ l) more ∙ sym (append_assoc h.seen (place ∷ []) behind);
    called_is = after_is ∙ sym (append_assoc h.told (c ∷ []) (replicate (length later) false));
    sleeping_is =
        asleep_is ∙ sym (append_assoc (sleep_on h.front h.told) ((x && not c) ∷ []) later)
        ∙ ap (λ (l : List Bool). l ++ later) (sym (sleep_on_more h.front h.told x c (h.told_long ∙ sym h.front_long)));
    front_long = omega (arith, length-append h.front (x ∷ []), h.front_long);
    seen_long = omega (arith, length-append h.seen (place ∷ []), h.seen_long);
    told_long = omega (arith, length-append h.told (c ∷ []), h.told_long);
    rest_long = omega (arith, h.rest_long, ap length rest, ap length more);
    calls_are =
        h.calls_are ∙ (λ i. h.told ++ calls halted leads (rest i) (more i))
        ∙ ap (λ (d : Bool). h.told ++ d ∷ calls halted (leads && (not x || halted || is_some place)) later behind) (sym is)
        ∙ sym (append_assoc h.told (c ∷ []) (calls halted (leads && (not x || halted || is_some place)) later behind));
    left_is = refl;
  }

  -- what comes next is there
  next_of : (n : ℕ) (d : Bool) (e : Option Receipt) (h : IsCalling halted first slept places at leads sleeping called left) → length slept ≡ n → at < n
      → (later : List Bool) × (behind : List (Option Receipt)) × (h.rest ≡ slice_index_or sleeping at d ∷ later) × (h.more ≡ slice_index_or places at e ∷ behind)
  next_of n d e h long within =
      let some : 0 < length h.rest = omega (arith, ap length h.slept_is, length-append h.front h.rest, h.front_long) in
      let r = split h.rest some in
      let m = split h.more (omega (arith, some, h.rest_long)) in
      let is_x : slice_index_or sleeping at d ≡ r.0 =
      ap (λ (l : List Bool). slice_index_or l at d) (h.sleeping_is ∙ ap (λ (l : List Bool). sleep_on h.front h.told ++ l) r.2)
      ∙ index_at (sleep_on h.front h.told) r.1 at r.0 d (sleep_on_long h.front h.told ∙ h.front_long) in
      let is_p : slice_index_or places at e ≡ m.0 =
      ap (λ (l : List (Option Receipt)). slice_index_or l at e) (h.places_is ∙ ap (λ (l : List (Option Receipt)). h.seen ++ l) m.2)
      ∙ index_at h.seen m.1 at m.0 e h.seen_long in
      (r.1, m.1, r.2 ∙ ap (λ (x : Bool). x ∷ r.1) (sym is_x), m.2 ∙ ap (λ (x : Option Receipt). x ∷ m.1) (sym is_p))
    where
      split : {A : Type 0} (l : List A) → 0 < length l → (x : A) × (xs : List A) × (l ≡ x ∷ xs)
      split [] some = absurd (omega (arith, some))
      split (x ∷ xs) some = (x, xs, refl)

  -- one that is awake
  pub past_awake : (n : ℕ) → length slept ≡ n → at < n → slice_index_or sleeping at false ≡ false → IsCalling halted first slept places at leads sleeping called left
      → IsCalling halted first slept places (at + 1) leads sleeping called left
  past_awake n long within awake h =
      let next = next_of n false None h long within in
      let later = next.0 in
      let behind = next.1 in
      let place = slice_index_or places at None in
      let rest : h.rest ≡ false ∷ later = next.2 ∙ ap (λ (x : Bool). x ∷ later) awake in
      let told : called ≡ h.told ++ false ∷ replicate (length later) false = h.called_is ∙ ap (λ (l : List Bool). h.told ++ replicate (length l) false) rest in
      let sleep : sleeping ≡ sleep_on h.front h.told ++ false ∷ later = h.sleeping_is ∙ ap (λ (l : List Bool). sleep_on h.front h.told ++ l) rest in
      let same : count later ≡ left = sym (h.left_is ∙ ap count rest) in
      subst (λ (b : Bool). IsCalling halted first slept places (at + 1) b sleeping called left) (and_true leads)
      (subst (IsCalling halted first slept places (at + 1) (leads && true) sleeping called) same (goes_on false false place later behind h rest next.3 refl called sleeping told sleep))

  -- one that sleeps
  pub past_asleep : (n : ℕ) → length slept ≡ n → at < n → slice_index_or sleeping at false ≡ true → (e lead : Bool) (after asleep : List Bool)
      → e ≡ (halted || is_some (slice_index_or places at None)) → lead ≡ (leads && e)
      → after ≡ (if e || leads then slice_set called at true else called) → asleep ≡ (if e || leads then slice_set sleeping at false else sleeping)
      → IsCalling halted first slept places at leads sleeping called left → IsCalling halted first slept places (at + 1) lead asleep after (left - 1)
  past_asleep n long within sleeps e lead after asleep ends lead_is after_is asleep_is h =
      let next = next_of n false None h long within in
      let later = next.0 in
      let behind = next.1 in
      let place = slice_index_or places at None in
      let rest : h.rest ≡ true ∷ later = next.2 ∙ ap (λ (x : Bool). x ∷ later) sleeps in
      let told : called ≡ h.told ++ false ∷ replicate (length later) false = h.called_is ∙ ap (λ (l : List Bool). h.told ++ replicate (length l) false) rest in
      let sleep : sleeping ≡ sleep_on h.front h.told ++ true ∷ later = h.sleeping_is ∙ ap (λ (l : List Bool). sleep_on h.front h.told ++ l) rest in
      let fewer : count later ≡ left - 1 = omega (arith, h.left_is, ap count rest, one_more later) in
      let is_c : (e || leads) ≡ (true && (halted || is_some place || leads)) = ap (λ (b : Bool). b || leads) ends ∙ or_assoc halted (is_some place) leads in
      let both = by_case (e || leads) h.told (sleep_on h.front h.told) later told sleep h.told_long (sleep_on_long h.front h.told ∙ h.front_long) in
      subst (λ (b : Bool). IsCalling halted first slept places (at + 1) b asleep after (left - 1)) (sym (lead_is ∙ ap (λ (b : Bool). leads && b) ends))
      (subst (IsCalling halted first slept places (at + 1) (leads && (halted || is_some place)) asleep after) fewer
      (goes_on true (e || leads) place later behind h rest next.3 is_c after asleep (after_is ∙ both.0) (asleep_is ∙ both.1)))
    where
      or_assoc : (x y z : Bool) → ((x || y) || z) ≡ (x || y || z)
      or_assoc true y z = refl
      or_assoc false y z = refl

      -- it is called or not
      by_case : (b : Bool) (told sleep later : List Bool) → called ≡ told ++ false ∷ replicate (length later) false → sleeping ≡ sleep ++ true ∷ later → length told ≡ at → length sleep ≡ at
          → ((if b then slice_set called at true else called) ≡ told ++ b ∷ replicate (length later) false) × ((if b then slice_set sleeping at false else sleeping) ≡ sleep ++ (true && not b) ∷ later)
      by_case true told sleep later is sleeps long many = (
        ap (λ (l : List Bool). slice_set l at true) is ∙ set_at told (replicate (length later) false) at false true long,
        ap (λ (l : List Bool). slice_set l at false) sleeps ∙ set_at sleep later at true false many,
      )
      by_case false told sleep later is sleeps long many = (is, sleeps)

-- ---- at the end

-- nobody is left who sleeps
pub all_called : (halted first : Bool) (slept : List Bool) (places : List (Option Receipt)) (at : ℕ) (leads : Bool) (sleeping called : List Bool)
    → IsCalling halted first slept places at leads sleeping called 0
    → (called ≡ calls halted first slept places) × (sleeping ≡ sleep_on slept called)
all_called halted first slept places at leads sleeping called h =
    let none : calls halted leads h.rest h.more ≡ replicate (length h.rest) false = none_sleeps halted leads h.rest h.more h.rest_long (sym h.left_is) in
    let sleeps : sleep_on slept called ≡ sleeping =
    (λ i. sleep_on (h.slept_is i) (h.called_is i)) ∙ sleep_on_parts h.front h.told h.rest (length h.rest) (h.told_long ∙ sym h.front_long)
    ∙ ap (λ (l : List Bool). sleep_on h.front h.told ++ l) (nobody_called h.rest (length h.rest)) ∙ sym h.sleeping_is in
    (h.called_is ∙ ap (λ (l : List Bool). h.told ++ l) (sym none) ∙ sym h.calls_are, sym sleeps)

-- all places were looked at
pub at_end : (halted first : Bool) (slept : List Bool) (places : List (Option Receipt)) (at : ℕ) (leads : Bool) (sleeping called : List Bool) (left : ℕ) → length slept ≡ at
    → IsCalling halted first slept places at leads sleeping called left → left ≡ 0
at_end halted first slept places at leads sleeping called left long h = h.left_is ∙ none h.rest (omega (arith, ap length h.slept_is, length-append h.front h.rest, h.front_long, long))
  where
    none : (l : List Bool) → length l ≡ 0 → count l ≡ 0
    none [] e = refl
    none (x ∷ l) e = absurd (omega (arith, e))

-- ---- the same of states

abbrev sleeping_as : State → List Bool → State
sleeping_as s flags = record s { watch = record s.watch { sleeping = flags; asleep = count flags } }

-- So many places of an engine were looked at: who was called there. Nothing changed but who sleeps.
pub record AreCalled (old : State) (first : Bool) (s : State) (at : ℕ) (lead : Bool) (called : List Bool) (left : ℕ) : Type 0 where
  pub is : s ≡ sleeping_as old s.watch.sleeping
  pub calling : IsCalling old.core.halted first old.watch.sleeping old.places at lead s.watch.sleeping called left

-- before the first place nobody is called
pub at_first : (old : State) (lead : Bool) (none : List Bool) (left : ℕ) → length old.watch.sleeping ≡ 256 → length old.places ≡ 256
    → old.watch.asleep ≡ count old.watch.sleeping → none ≡ replicate 256 false → left ≡ count old.watch.sleeping
    → AreCalled old lead old 0 lead none left
at_first old lead none left long many asleep none_is left_is = record {
  is = λ i. record old { watch = record old.watch { asleep = asleep i } };
  calling = rw (none_is, left_is) (none_called old.core.halted lead old.watch.sleeping old.places 256 long many);
}

-- a place whose session is awake calls nobody
pub then_awake : (old : State) (first : Bool) (s : State) (at : ℕ) (lead : Bool) (called : List Bool) (left : ℕ) → length old.watch.sleeping ≡ 256 → at < 256
    → slice_index_or s.watch.sleeping at false ≡ false → AreCalled old first s at lead called left
    → AreCalled old first s (at + 1) lead called left
then_awake old first s at lead called left long within awake h = record {
  is = h.is;
  calling = past_awake old.core.halted first old.watch.sleeping old.places at lead s.watch.sleeping called left 256 long within awake h.calling;
}

-- a place whose session sleeps calls it, if it has its end or is to lead
pub then_asleep : {old : State} {first : Bool} {s : State} {at : ℕ} {lead : Bool} {called : List Bool} {left : ℕ} → length old.watch.sleeping ≡ 256 → at < 256
    → slice_index_or s.watch.sleeping at false ≡ true → AreCalled old first s at lead called left
    → (next : Bool) (after : List Bool) (new : State) → next ≡ (lead && has_end s at) → after ≡ (if has_end s at || lead then slice_set called at true else called)
    → new ≡ (if has_end s at || lead then set_asleep s at false else s)
    → AreCalled old first new (at + 1) next after (left - 1)
then_asleep {old} {first} {s} {at} {lead} {called} {left} long within sleeps h next after new next_is after_is new_is =
    let end : has_end s at ≡ (old.core.halted || is_some (slice_index_or old.places at None)) = ap (λ (x : State). has_end x at) h.is in
    let both = of (has_end s at || lead) new_is in
    record {
      is = both.0;
      calling =
          past_asleep old.core.halted first old.watch.sleeping old.places at lead s.watch.sleeping called left 256 long within sleeps
          (has_end s at) next after new.watch.sleeping end next_is after_is both.1 h.calling;
    }
  where
    of : (b : Bool) → new ≡ (if b then set_asleep s at false else s)
        → (new ≡ sleeping_as old new.watch.sleeping) × (new.watch.sleeping ≡ (if b then slice_set s.watch.sleeping at false else s.watch.sleeping))
    of true e = rw e (ap (λ (x : State). sleeping_as x (slice_set s.watch.sleeping at false)) h.is, refl)
    of false e = rw e (h.is, refl)

-- once nobody is left who sleeps, those are called who are due
pub all_are_called : (old : State) (leads : Bool) (lead : Bool) (s : State) (at : ℕ) (last : Bool) (called : List Bool) (left : ℕ) → lead ≡ (leads && is_some old.home)
    → left ≡ 0 → AreCalled old lead s at last called left
    → (called ≡ called_by old leads) × (s ≡ awoken old called)
all_are_called old leads lead s at last called left lead_is none h =
    let all =
    all_called old.core.halted lead old.watch.sleeping old.places at last s.watch.sleeping called
    (subst (IsCalling old.core.halted lead old.watch.sleeping old.places at last s.watch.sleeping called) none h.calling) in
    (all.0 ∙ ap (λ (b : Bool). calls old.core.halted b old.watch.sleeping old.places) lead_is, h.is ∙ ap (sleeping_as old) all.1)

-- behind the last place nobody is left
pub none_left : (old : State) (lead : Bool) (s : State) (at : ℕ) (last : Bool) (called : List Bool) (left : ℕ) → length old.watch.sleeping ≡ at → AreCalled old lead s at last called left → left ≡ 0
none_left old lead s at last called left long h = at_end old.core.halted lead old.watch.sleeping old.places at last s.watch.sleeping called left long h.calling

-- ---- who sleeps on has no end

waits : (sleeps halted ended leads : Bool) → (sleeps && not (sleeps && (halted || ended || leads))) ≡ true → (halted || ended) ≡ false
waits false halted ended leads e = absurd (false≢true e)
waits true true ended leads e = absurd (false≢true e)
waits true false true leads e = absurd (false≢true e)
waits true false false leads e = refl

who_sleeps_on : (halted leads : Bool) (slept : List Bool) (places : List (Option Receipt)) (k : ℕ) → length places ≡ length slept
    → slice_index_or (sleep_on slept (calls halted leads slept places)) k false ≡ true
    → (halted || is_some (slice_index_or places k None)) ≡ false
who_sleeps_on halted leads [] places k long e = absurd (false≢true e)
who_sleeps_on halted leads (x ∷ slept) [] k long e = absurd (omega (arith, long))
who_sleeps_on halted leads (x ∷ slept) (place ∷ places) zero long e = waits x halted (is_some place) leads e
who_sleeps_on halted leads (x ∷ slept) (place ∷ places) (suc k) long e = who_sleeps_on halted (leads && (not x || halted || is_some place)) slept places k (omega (arith, long)) e

-- once those who are due were called, nobody sleeps who has its end
pub none_sleeps_with_end : (old : State) (leads : Bool) (s : State) (called : List Bool) → length old.watch.sleeping ≡ 256 → length old.places ≡ 256
    → called ≡ called_by old leads → s ≡ awoken old called → NoneSleepsWithEnd s
none_sleeps_with_end old leads s called long many called_is is =
    rw (is, called_is) (λ place e. who_sleeps_on old.core.halted (leads && is_some old.home) old.watch.sleeping old.places place (many ∙ sym long) e)

-- ---- where nobody is called

or_false : (b : Bool) → (b || false) ≡ b
or_false true = refl
or_false false = refl

-- none has its end, and none is to lead
none_called_by_end : (halted : Bool) (slept : List Bool) (places : List (Option Receipt))
    → ((k : ℕ) → slice_index_or slept k false ≡ true → (halted || is_some (slice_index_or places k None)) ≡ false) → (k : ℕ)
    → slice_index_or (calls halted false slept places) k false ≡ false
none_called_by_end halted [] places none k = refl
none_called_by_end halted (x ∷ slept) [] none k = refl
none_called_by_end halted (x ∷ slept) (place ∷ places) none zero = first x (none 0) where
  first : (b : Bool) → (b ≡ true → (halted || is_some place) ≡ false) → (b && (halted || is_some place || false)) ≡ false
  first false h = refl
  first true h = or_false (halted || is_some place) ∙ h refl
none_called_by_end halted (x ∷ slept) (place ∷ places) none (suc k) = none_called_by_end halted slept places (λ j e. none (suc j) e) k

-- nobody sleeps
none_called_awake : (halted leads : Bool) (slept : List Bool) (places : List (Option Receipt)) → count slept ≡ 0 → (k : ℕ) → slice_index_or (calls halted leads slept places) k false ≡ false
none_called_awake halted leads [] places none k = refl
none_called_awake halted leads (x ∷ slept) [] none k = refl
none_called_awake halted leads (true ∷ slept) (place ∷ places) none k = absurd (omega (arith, sym (one_more slept) ∙ none))
none_called_awake halted leads (false ∷ slept) (place ∷ places) none zero = refl
none_called_awake halted leads (false ∷ slept) (place ∷ places) none (suc k) = none_called_awake halted (leads && true) slept places none k

-- where nobody sleeps who has its end, and nobody is to lead or nobody sleeps, nobody is called
pub calls_nobody : (s : State) (leads : Bool) → NoneSleepsWithEnd s → ((leads && is_some s.home) ≡ false) ⊎ (count s.watch.sleeping ≡ 0) → NobodyIsCalled s leads
calls_nobody s leads none (inl no_lead) = rw no_lead (none_called_by_end s.core.halted s.watch.sleeping s.places none)
calls_nobody s leads none (inr nobody) = none_called_awake s.core.halted (leads && is_some s.home) s.watch.sleeping s.places nobody
