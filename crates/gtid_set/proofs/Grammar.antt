-- The texts from which intervals are read are those that list them.
use Rattle.std.proofs.Common.{◌≡◌, ◌≢◌, ◌⊎◌, ◌∙◌, sym, ap, refl, subst, inl, inr, ℕ, ◌+◌, ◌^◌, ◌<◌, ◌≤◌, Bool, true, false, cond, ltb, leb, List, [], ◌∷◌, ◌++◌, length, get_or, take, drop}
use Rattle.std.proofs.Common.{append_assoc, Option, Some, None, Result, Ok, Err, arith}
use Rattle.std.specs.Prelude.{IsSome}
use Rattle.std.specs.Int.{IsInRange}
use Rattle.std.specs.List.{AllByRecursion, All, slice_split, before_first, after_first, position_or_len, join_with_byte}
use Rattle.std.proofs.lemmas.List.Elements.{All-append, All-cons}
use Rattle.std.proofs.Math.Seq.{get_or-append_seam}
use Rattle.std.specs.Fmt.{decimal}
use Rattle.std.proofs.lemmas.Bool.{eqb-true, ltb-true, lt-ltb, leb-true, le-leb, ne_eqb}
use Rattle.std.proofs.lemmas.Bool.Decides.{nat_tests, eqb_tells}
use Rattle.std.proofs.lemmas.Fmt.{digits_decimal}
use Rattle.std.proofs.lemmas.Str.Parse.{not_in_digits}
use Rattle.std.proofs.lemmas.List.{length-append, get_or_append_left, take_at, drop_at, append-nil, get_or_default, take-append-drop}
use Rattle.std.proofs.lemmas.List.Sums.{position_or_len_is, split_at_first, passes_at_first}
use Rattle.std.proofs.lemmas.List.Splits.{slice_split_at, slice_split_none, join_with_byte-slice_split, length-slice_split}
use Rattle.gtid_set.specs.declared.fault.GtidFault.{GtidFault}
use Rattle.gtid_set.specs.declared.fault.GtidFault.TheVariants.{BadInterval}
use Rattle.gtid_set.specs.declared.intervals.Interval.{Interval}
use Rattle.uuid.specs.Text.{parsed_hyphenated}
use Rattle.gtid_set.specs.Numbers.{IsInterval}
use Rattle.gtid_set.specs.Ids.{Ids, no_ids}
use Rattle.gtid_set.specs.Reading.{◌>>=◌, number_at, is_hyphen, is_colon, interval_of, interval_at, intervals_at, IsTextOf, ListIntervals, Lists, ListsSome, ids_at, listed_at, head_at, source_at}
use Rattle.gtid_set.specs.Reading.{behind_colon}
use Rattle.gtid_set.proofs.NumberTexts.{own, number_spelled, number_again}

pub bind_ok : {A B : Type 0} (r : Result A GtidFault) (f : A → Result B GtidFault) (y : B) → (r >>= f) ≡ Ok y → (x : A) × (r ≡ Ok x) × (f x ≡ Ok y)
bind_ok (Ok x) f y e = (x, refl, e)
bind_ok (Err fault) f y e = absurd (cc)

abbrev done : {A : Type 0} → A → Result A GtidFault
done x = Ok x

pub ok_is : {A : Type 0} (x y : A) → done x ≡ done y → x ≡ y
ok_is x y e = cc

chosen : {A : Type 0} (b : Bool) (x y z : A) → cond b x y ≡ z → ((b ≡ true) × (x ≡ z)) ⊎ ((b ≡ false) × (y ≡ z))
chosen true x y z e = inl (refl, e)
chosen false x y z e = inr (refl, e)

between_is : (b : Bool) (x i : Interval) → cond b (Ok x) (Err BadInterval) ≡ Ok i → (b ≡ true) × (x ≡ i)
between_is true x i e = (refl, cc)
between_is false x i e = absurd (cc)

hyphen_there : (text : List ℕ) → position_or_len is_hyphen text < length text → text ≡ before_first is_hyphen text ++ 45 ∷ after_first is_hyphen text
hyphen_there text lt =
    let here : get_or text (position_or_len is_hyphen text) 0 ≡ 45 = eqb-true _ 45 (passes_at_first is_hyphen text 0 lt) in
    split_at_first is_hyphen text 0 lt ∙ ap (λ (c : ℕ). before_first is_hyphen text ++ c ∷ after_first is_hyphen text) here

-- an interval is read only of a text of it
pub interval_spelled : (text : List ℕ) (i : Interval) → interval_at text ≡ Ok i → IsTextOf text i
unfolding interval_at
interval_spelled text i e =
    elim (chosen (ltb (position_or_len is_hyphen text) (length text))
    (number_at (before_first is_hyphen text) >>= λ a. number_at (after_first is_hyphen text) >>= λ b. interval_of a b)
    (number_at text >>= λ a. Ok (record { first = a; last = a })) (Ok i) e) [
      | inl w ↦
          let a = bind_ok (number_at (before_first is_hyphen text)) (λ a. number_at (after_first is_hyphen text) >>= λ b. interval_of a b) i w.1 in
          let b = bind_ok (number_at (after_first is_hyphen text)) (λ b. interval_of a.0 b) i a.2 in
          let first = number_spelled (before_first is_hyphen text) a.0 a.1 in
          let last = number_spelled (after_first is_hyphen text) b.0 b.1 in
          let found = between_is (leb a.0 b.0) (record { first = a.0; last = b.0 }) i b.2 in
          let le : a.0 ≤ b.0 = leb-true a.0 b.0 found.0 in
          let there = hyphen_there text (ltb-true _ _ w.0) in
          let written : text ≡ decimal a.0 ++ 45 ∷ decimal b.0 = there ∙ ap (λ (l : List ℕ). l ++ 45 ∷ after_first is_hyphen text) first.0 ∙ ap (λ (l : List ℕ). decimal a.0 ++ 45 ∷ l) last.0 in
          subst (λ (x : Interval). IsTextOf text x) found.1 (record { from_one = first.1; rising = le; last = last.2 }, inr written)
      | inr w ↦
          let a = bind_ok (number_at text) (λ a. Ok (record { first = a; last = a })) i w.1 in
          let one = number_spelled text a.0 a.1 in
          subst (λ (x : Interval). IsTextOf text x) (ok_is _ i a.2) (record { from_one = one.1; rising = omega arith; last = one.2 }, inl (one.0, refl))
    ]

pub each_interval : (texts : List (List ℕ)) (is : List Interval) → intervals_at texts ≡ Ok is → AllByRecursion IsInterval is
unfolding intervals_at
each_interval [] is e = subst (λ (l : List Interval). AllByRecursion IsInterval l) (ok_is [] is e) tt
each_interval (text ∷ texts) is e =
    let a = bind_ok (interval_at text) (λ i. intervals_at texts >>= λ is. Ok (i ∷ is)) is e in
    let b = bind_ok (intervals_at texts) (λ is. Ok (a.0 ∷ is)) is a.2 in
    subst (λ (l : List Interval). AllByRecursion IsInterval l) (ok_is (a.0 ∷ b.0) is b.2) ((interval_spelled text a.0 a.1).0, each_interval texts b.0 b.1)

-- ---- and of each text of it

no_byte : (n c : ℕ) → n < 2 ^ 63 → ¬ (IsInRange 48 57 c) → (k : ℕ) → k < length (decimal n) → get_or (decimal n) k 0 ≢ c
no_byte n c low out k lt = not_in_digits own (decimal n) c (digits_decimal own n (omega arith)) out k lt

hyphen_out : ¬ (IsInRange 48 57 45)
hyphen_out h = omega (arith, h)

colon_out : ¬ (IsInRange 48 57 58)
colon_out h = omega (arith, h)

alone_place : (n : ℕ) → n < 2 ^ 63 → position_or_len is_hyphen (decimal n) ≡ length (decimal n)
alone_place n low =
    position_or_len_is is_hyphen (decimal n) (length (decimal n)) 0 (omega arith)
    (λ k lt. ne_eqb (get_or (decimal n) k 0) 45 (no_byte n 45 low hyphen_out k lt)) (λ lt. absurd (omega arith))

hyphen_place : (a : ℕ) (rest : List ℕ) → a < 2 ^ 63 → position_or_len is_hyphen (decimal a ++ 45 ∷ rest) ≡ length (decimal a)
hyphen_place a rest low =
    position_or_len_is is_hyphen (decimal a ++ 45 ∷ rest) (length (decimal a)) 0 (omega (arith, length-append (decimal a) (45 ∷ rest)))
    (λ k lt. ap is_hyphen (get_or_append_left (decimal a) (45 ∷ rest) 0 k lt) ∙ ne_eqb (get_or (decimal a) k 0) 45 (no_byte a 45 low hyphen_out k lt))
    (λ lt. ap is_hyphen (get_or-append_seam (decimal a) 45 rest 0))

one_again : (text : List ℕ) (n : ℕ) → text ≡ decimal n → 1 ≤ n → n < 2 ^ 63 → interval_at text ≡ Ok (record { first = n; last = n })
unfolding interval_at
one_again text n e one low =
    let place : position_or_len is_hyphen text ≡ length text = rw e (alone_place n low) in
    let past : ltb (position_or_len is_hyphen text) (length text) ≡ false = grind (arith, nat_tests) in
    let read : number_at text ≡ Ok n = ap number_at e ∙ number_again n one low in
    rw (past, read) refl

two_again : (text : List ℕ) (a b : ℕ) → text ≡ decimal a ++ 45 ∷ decimal b → 1 ≤ a → a ≤ b → b < 2 ^ 63 → interval_at text ≡ Ok (record { first = a; last = b })
unfolding interval_at
two_again text a b e one le low =
    let place : position_or_len is_hyphen text ≡ length (decimal a) = rw e (hyphen_place a (decimal b) (omega arith)) in
    let there : ltb (position_or_len is_hyphen text) (length text) ≡ true = lt-ltb _ _ (omega (arith, place, ap (λ (l : List ℕ). length l) e, length-append (decimal a) (45 ∷ decimal b))) in
    let before : before_first is_hyphen text ≡ decimal a = ap (λ (k : ℕ). take k text) place ∙ ap (take (length (decimal a))) e ∙ take_at (decimal a) (45 ∷ decimal b) (length (decimal a)) refl in
    let whole : text ≡ (decimal a ++ 45 ∷ []) ++ decimal b = e ∙ sym (append_assoc (decimal a) (45 ∷ []) (decimal b)) in
    let long : length (decimal a ++ 45 ∷ []) ≡ length (decimal a) + 1 = omega (arith, length-append (decimal a) (45 ∷ [])) in
    let after : after_first is_hyphen text ≡ decimal b = ap (λ (k : ℕ). drop (k + 1) text) place ∙ ap (drop (length (decimal a) + 1)) whole
    ∙ drop_at (decimal a ++ 45 ∷ []) (decimal b) (length (decimal a) + 1) long in
    let first : number_at (before_first is_hyphen text) ≡ Ok a = ap number_at before ∙ number_again a one (omega arith) in
    let last : number_at (after_first is_hyphen text) ≡ Ok b = ap number_at after ∙ number_again b (omega arith) low in
    let order : leb a b ≡ true = le-leb a b le in
    rw (there, first, last, order) refl

pub interval_again : (text : List ℕ) (i : Interval) → IsTextOf text i → interval_at text ≡ Ok i
interval_again text i t =
    elim t.1 [
      | inl w ↦ one_again text i.first w.0 t.0.from_one (omega (arith, t.0.rising, t.0.last)) ∙ ap (λ (n : ℕ). Ok (record { first = i.first; last = n })) w.1
      | inr w ↦ two_again text i.first i.last w t.0.from_one t.0.rising t.0.last
    ]

-- ---- lists of them

join_list : (text : List ℕ) (texts : List (List ℕ)) (is : List Interval) → intervals_at (text ∷ texts) ≡ Ok is → ListIntervals (58 ∷ join_with_byte 58 (text ∷ texts)) is × (1 ≤ length is)
unfolding intervals_at
join_list text [] is e =
    let a = bind_ok (interval_at text) (λ i. intervals_at [] >>= λ is. Ok (i ∷ is)) is e in
    let one = interval_spelled text a.0 a.1 in
    subst (λ (l : List Interval). ListIntervals (58 ∷ text) l × (1 ≤ length l)) (ok_is (a.0 ∷ []) is a.2)
    ((text, [], one, ap (λ (l : List ℕ). 58 ∷ l) (sym (append-nil text)), refl), omega arith)
join_list text (next ∷ texts) is e =
    let a = bind_ok (interval_at text) (λ i. intervals_at (next ∷ texts) >>= λ is. Ok (i ∷ is)) is e in
    let b = bind_ok (intervals_at (next ∷ texts)) (λ is. Ok (a.0 ∷ is)) is a.2 in
    let one = interval_spelled text a.0 a.1 in
    let others = join_list next texts b.0 b.1 in
    subst (λ (l : List Interval). ListIntervals (58 ∷ text ++ 58 ∷ join_with_byte 58 (next ∷ texts)) l × (1 ≤ length l)) (ok_is (a.0 ∷ b.0) is b.2)
    ((text, 58 ∷ join_with_byte 58 (next ∷ texts), one, refl, others.0), omega arith)

no_colon : (text : List ℕ) (i : Interval) → IsTextOf text i → All (λ b. is_colon b ≡ false) text
no_colon text i t =
    elim t.1 [
      | inl w ↦ subst (λ (l : List ℕ). All (λ b. is_colon b ≡ false) l) (sym w.0) (in_number i.first (omega (arith, t.0.rising, t.0.last)))
      | inr w ↦ subst (λ (l : List ℕ). All (λ b. is_colon b ≡ false) l) (sym w)
          (All-append (λ b. is_colon b ≡ false) (decimal i.first) (45 ∷ decimal i.last) (in_number i.first (omega (arith, t.0.rising, t.0.last)))
          (All-cons (λ b. is_colon b ≡ false) 45 (decimal i.last) refl (in_number i.last t.0.last)))
    ]
  where
    in_number : (n : ℕ) → n < 2 ^ 63 → All (λ b. is_colon b ≡ false) (decimal n)
    in_number n low = λ k d lt. ap is_colon (get_or_default (decimal n) k d 0 lt) ∙ ne_eqb (get_or (decimal n) k 0) 58 (no_byte n 58 low colon_out k lt)

list_again : (list : List ℕ) (i : Interval) (is : List Interval) → ListIntervals list (i ∷ is) → (rest : List ℕ) × (list ≡ 58 ∷ rest) × (intervals_at (slice_split is_colon rest) ≡ Ok (i ∷ is))
unfolding intervals_at
list_again list i [] h =
    let one = h.0 in
    let split : slice_split is_colon one ≡ one ∷ [] = slice_split_none is_colon one (no_colon one i h.2) in
    (one, h.3 ∙ ap (λ (l : List ℕ). 58 ∷ one ++ l) h.4 ∙ ap (λ (l : List ℕ). 58 ∷ l) (append-nil one), rw (split, interval_again one i h.2) refl)
list_again list i (j ∷ is) h =
    let one = h.0 in
    let others = list_again h.1 j is h.4 in
    let split : slice_split is_colon (one ++ 58 ∷ others.0) ≡ one ∷ slice_split is_colon others.0 = slice_split_at is_colon one 58 others.0 (no_colon one i h.2) refl in
    (one ++ 58 ∷ others.0, h.3 ∙ ap (λ (l : List ℕ). 58 ∷ one ++ l) others.1, rw (split, interval_again one i h.2, others.2) refl)

-- ---- the whole

long_name : (name source : List ℕ) → parsed_hyphenated name ≡ Some source → length name ≡ 36
long_name name source e =
    elim (eqb_tells (length name) 36) [
      | inl w ↦ w.1
      | inr w ↦ absurd (none_some (rw w.0 at e))
    ]
  where
    none_some : None ≡ Some source → ⊥
    none_some h = cc

first_text : (list : List ℕ) → (text : List ℕ) × (texts : List (List ℕ)) × (slice_split is_colon list ≡ text ∷ texts)
first_text list = go (slice_split is_colon list) refl
  where
    go : (parts : List (List ℕ)) → slice_split is_colon list ≡ parts → (text : List ℕ) × (texts : List (List ℕ)) × (slice_split is_colon list ≡ text ∷ texts)
    go [] e = absurd (omega (arith, length-slice_split is_colon list, ap (λ (l : List (List ℕ)). length l) e))
    go (text ∷ texts) e = (text, texts, e)

pub split_listed : (list : List ℕ) (is : List Interval) → intervals_at (slice_split is_colon list) ≡ Ok is → ListIntervals (58 ∷ list) is × (1 ≤ length is)
split_listed list is e =
    let f = first_text list in
    let joined : join_with_byte 58 (f.0 ∷ f.1) ≡ list = ap (join_with_byte 58) (sym f.2) ∙ join_with_byte-slice_split 58 list in
    let all = join_list f.0 f.1 is (ap intervals_at (sym f.2) ∙ e) in
    (subst (λ (l : List ℕ). ListIntervals (58 ∷ l) is) joined all.0, all.1)

behind : (rest list : List ℕ) → behind_colon rest ≡ Ok list → rest ≡ 58 ∷ list
behind [] list e = absurd (cc)
behind (c ∷ cs) list e =
    elim (chosen (is_colon c) (done cs) (Err BadInterval) (done list) e) [
      | inl w ↦ ap (λ (x : ℕ). x ∷ cs) (eqb-true c 58 w.0) ∙ ap (λ (l : List ℕ). 58 ∷ l) (ok_is cs list w.1)
      | inr w ↦ absurd (cc)
    ]

source_is : (o : Option (List ℕ)) (source : List ℕ) → source_at o ≡ Ok source → o ≡ Some source
source_is None source e = absurd (cc)
source_is (Some s) source e = ap Some (ok_is s source e)

head_split : (text : List ℕ) (x : List ℕ × List ℕ) → head_at text ≡ Ok x → (parsed_hyphenated (take 36 text) ≡ Some x.0) × (drop 36 text ≡ 58 ∷ x.1)
unfolding head_at
head_split text x e =
    let a = bind_ok (source_at (parsed_hyphenated (take 36 text))) (λ source. behind_colon (drop 36 text) >>= λ list. Ok (source, list)) x e in
    let b = bind_ok (behind_colon (drop 36 text)) (λ list. Ok (a.0, list)) x a.2 in
    let same : ◌≡◌ {A = List ℕ × List ℕ} (a.0, b.0) x = ok_is (a.0, b.0) x b.2 in
    (source_is (parsed_hyphenated (take 36 text)) a.0 a.1 ∙ ap (λ (p : List ℕ × List ℕ). Some p.0) same, behind (drop 36 text) b.0 b.1 ∙ ap (λ (p : List ℕ × List ℕ). 58 ∷ p.1) same)

some_listed : (text : List ℕ) (listed : Ids) → listed_at text ≡ Ok listed → ListsSome text listed
unfolding listed_at
some_listed text listed e =
    let a = bind_ok (head_at text) (λ head. intervals_at (slice_split is_colon head.1) >>= λ is. Ok (record { source = Some head.0; numbers = is })) listed e in
    let b = bind_ok (intervals_at (slice_split is_colon a.0.1)) (λ is. Ok (record { source = Some a.0.0; numbers = is })) listed a.2 in
    let head = head_split text a.0 a.1 in
    let list = split_listed a.0.1 b.0 b.1 in
    subst (λ (l : Ids). ListsSome text l) (ok_is (record { source = Some a.0.0; numbers = b.0 }) listed b.2)
    (record {
      name = take 36 text;
      list = drop 36 text;
      split = sym (take-append-drop 36 text);
      source = head.0;
      named = refl;
      some = list.1;
      intervals =
          subst (λ (l : List ℕ). ListIntervals l b.0) (sym head.1) list.0;
    })

pub read_listed : (text : List ℕ) (listed : Ids) → ids_at text ≡ Ok listed → Lists text listed
read_listed [] listed e = inl (refl, sym (ok_is no_ids listed e))
read_listed (c ∷ cs) listed e = inr (some_listed (c ∷ cs) listed e)

head_again : (name list source : List ℕ) → parsed_hyphenated name ≡ Some source → head_at (name ++ 58 ∷ list) ≡ Ok (source, list)
unfolding head_at
head_again name list source e =
    let long = long_name name source e in
    let front : take 36 (name ++ 58 ∷ list) ≡ name = take_at name (58 ∷ list) 36 long in
    let rest : drop 36 (name ++ 58 ∷ list) ≡ 58 ∷ list = drop_at name (58 ∷ list) 36 long in
    rw (front, rest, e) refl

some_read : (text : List ℕ) (source : Option (List ℕ)) (is : List Interval) → ListsSome text (record { source = source; numbers = is }) → listed_at text ≡ Ok (record { source = source; numbers = is })
unfolding listed_at
some_read text None is h = absurd (cc (h.named))
some_read text (Some source) [] h = absurd (omega (arith, h.some))
some_read text (Some source) (i ∷ is) h =
    let list = list_again h.list i is h.intervals in
    let whole : text ≡ h.name ++ 58 ∷ list.0 = h.split ∙ ap (λ (l : List ℕ). h.name ++ l) list.1 in
    let head : head_at text ≡ Ok (source, list.0) = ap head_at whole ∙ head_again h.name list.0 source h.source in
    rw (head, list.2) refl

none_empty : (text : List ℕ) (listed : Ids) → text ≡ [] → listed ≡ no_ids → ids_at text ≡ Ok listed
none_empty [] listed e f = ap (λ (x : Ids). Ok x) (sym f)
none_empty (c ∷ cs) listed e f = absurd (cc)

some_whole : (text : List ℕ) (listed : Ids) → ListsSome text listed → ids_at text ≡ Ok listed
some_whole [] listed h = absurd (omega (arith, ap (λ (l : List ℕ). length l) h.split, length-append h.name h.list, some_name listed.source h.named h.source))
  where
    some_name : (source : Option (List ℕ)) → IsSome source → parsed_hyphenated h.name ≡ source → length h.name ≡ 36
    some_name None named e = absurd (cc (named))
    some_name (Some s) named e = long_name h.name s e
some_whole (c ∷ cs) listed h = some_read (c ∷ cs) listed.source listed.numbers h

pub listed_read : (text : List ℕ) (listed : Ids) → Lists text listed → ids_at text ≡ Ok listed
listed_read text listed h =
    elim h [
      | inl w ↦ none_empty text listed w.0 w.1
      | inr w ↦ some_whole text listed w
    ]
