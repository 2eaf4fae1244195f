-- Walks over what is left of a list: marks that go, and entries whose marks come.
use Rattle.std.proofs.Common.{◌≡◌, ◌∙◌, sym, ap, ℕ, ◌+◌, ◌<◌, ◌≤◌, arith, List, [], ◌∷◌, Option, Some, None, length, take, drop, get_or, ◌++◌, is_some, cond, refl}
use Rattle.std.specs.Prelude.{option_to_list}
use Rattle.std.specs.List.{count_by, flat_map}
use Rattle.std.specs.Option.{option_map_or}
use Rattle.std.specs.Map.{keys_of}
use Rattle.std.specs.FinMap.{insert, remove}
use Rattle.std.proofs.lemmas.Grind.{flat_map-append}
use Rattle.std.proofs.lemmas.List.{drop_more, take_more, take_all, length-append, map-append, append-nil}
use Rattle.std.proofs.lemmas.List.Concat.{flat_map-cons}
use Rattle.std.proofs.lemmas.List.Recursion.{is_count_by}
use Rattle.schema.specs.declared.Table.{Table}
use Rattle.schema.specs.declared.RowId.{RowId}
use Rattle.schema.specs.Rows.{Mark}
use Rattle.store_trait.specs.Batch.{Entry}
use Rattle.row_index.specs.Keys.{Keys, mark_left, given_up, with_entry, taken_up}

-- the first of what is left of a list
pub next_left : {X : Type 0} (xs : List X) (i : ℕ) (x : X) → i < length xs → x ≡ get_or xs i x → drop i xs ≡ x ∷ drop (i + 1) xs
next_left xs i x within is = drop_more xs i x within ∙ ap (λ y. y ∷ drop (i + 1) xs) (sym is)

pub one_gone : (old : List Mark) (i : ℕ) (mark : Mark) (keys all : Keys) → i < length old → mark ≡ get_or old i mark → given_up (drop i old) keys ≡ all →
    given_up (drop (i + 1) old) (remove keys mark) ≡ all
one_gone old i mark keys all within is before = ap (λ l. given_up l keys) (sym (next_left old i mark within is)) ∙ before

module _ (ts : List Table) (entries : List Entry) (i : ℕ) (entry : Entry) (within : i < length entries) (is : entry ≡ get_or entries i entry) where
  one_come : (keys all : Keys) → taken_up ts (drop i entries) keys ≡ all → taken_up ts (drop (i + 1) entries) (with_entry ts entry keys) ≡ all
  one_come keys all before = ap (λ l. taken_up ts l keys) (sym (next_left entries i entry within is)) ∙ before

  -- where the entry has a mark
  pub mark_comes : (mark : Mark) (keys all : Keys) → mark_left ts entry ≡ Some mark → taken_up ts (drop i entries) keys ≡ all → taken_up ts (drop (i + 1) entries) (insert keys mark entry.0.key) ≡ all
  mark_comes mark keys all has before =
      ap (λ o. taken_up ts (drop (i + 1) entries) (option_map_or (λ (m : Mark). insert keys m entry.0.key) o keys)) (sym has) ∙ one_come keys all before

  -- where it has none
  pub none_comes : (keys all : Keys) → mark_left ts entry ≡ None → taken_up ts (drop i entries) keys ≡ all → taken_up ts (drop (i + 1) entries) keys ≡ all
  none_comes keys all none before =
      ap (λ o. taken_up ts (drop (i + 1) entries) (option_map_or (λ (m : Mark). insert keys m entry.0.key) o keys)) (sym none) ∙ one_come keys all before

-- ---- what each of a list gives, if anything

module _ {X : Type 0} (f : X → Option RowId) where
  abbrev listed : List X → List RowId
  listed xs = flat_map (λ x. option_to_list (f x)) xs

  -- as many as give something are listed
  pub count_listed : (xs : List X) → count_by (λ x. is_some (f x)) xs ≡ length (listed xs)
  count_listed xs = sym (is_count_by (λ l. length (listed l)) (λ x. is_some (f x)) refl (λ x l.
      ap length (flat_map-cons (λ y. option_to_list (f y)) x l) ∙ length-append (option_to_list (f x)) (listed l) ∙ by (f x) (length (listed l))) xs)
    where
      by : (o : Option RowId) (n : ℕ) → length (option_to_list o) + n ≡ cond (is_some o) (1 + n) n
      by None n = omega arith
      by (Some r) n = refl

  -- what is still to come begins with what the next gives
  next_listed : (xs : List X) (i : ℕ) (x : X) → i < length xs → x ≡ get_or xs i x → listed (drop i xs) ≡ option_to_list (f x) ++ listed (drop (i + 1) xs)
  next_listed xs i x within is = ap listed (next_left xs i x within is) ∙ flat_map-cons (λ y. option_to_list (f y)) x (drop (i + 1) xs)

  pub some_listed : (xs : List X) (i : ℕ) (x : X) (got : Option RowId) (row : RowId) → i < length xs → x ≡ get_or xs i x → got ≡ f x → got ≡ Some row →
      listed (drop i xs) ≡ row ∷ listed (drop (i + 1) xs)
  some_listed xs i x got row within is its some = next_listed xs i x within is ∙ ap (λ o. option_to_list o ++ listed (drop (i + 1) xs)) (sym its ∙ some)

  pub none_listed : (xs : List X) (i : ℕ) (x : X) (got : Option RowId) → i < length xs → x ≡ get_or xs i x → got ≡ f x → got ≡ None → listed (drop i xs) ≡ listed (drop (i + 1) xs)
  none_listed xs i x got within is its none = next_listed xs i x within is ∙ ap (λ o. option_to_list o ++ listed (drop (i + 1) xs)) (sym its ∙ none)

-- what the rows of one entry more have
listed_more : {X : Type 0} (f : RowId → List RowId) (entries : List (RowId × X)) (i : ℕ) (entry : RowId × X) → i < length entries → entry ≡ get_or entries i entry →
    flat_map f (keys_of (take (i + 1) entries)) ≡ flat_map f (keys_of (take i entries)) ++ f entry.0
listed_more {X} f entries i entry within is =
    ap (λ (l : List (RowId × X)). flat_map f (keys_of l)) (take_more entries i entry within ∙ ap (λ (e : RowId × X). take i entries ++ e ∷ []) (sym is))
    ∙ ap (flat_map f) (map-append (λ (e : RowId × X). e.0) (take i entries) (entry ∷ []))
    ∙ flat_map-append f (keys_of (take i entries)) (entry.0 ∷ [])
    ∙ ap (λ l. flat_map f (keys_of (take i entries)) ++ l) (flat_map-cons f entry.0 [] ∙ append-nil (f entry.0))

-- the list of what those of a whole walk have
pub listed_all : {X : Type 0} (f : RowId → List RowId) (entries batch : List (RowId × X)) (i : ℕ) (found : List RowId) → length entries ≤ i → entries ≡ batch →
    found ≡ flat_map f (keys_of (take i entries)) → found ≡ flat_map f (keys_of batch)
listed_all {X} f entries batch i found past is walked = walked ∙ ap (λ (l : List (RowId × X)). flat_map f (keys_of l)) (take_all i entries past ∙ is)

-- one more is listed, or none
pub one_listed : {X : Type 0} {pushed after : List RowId} {got : Option RowId} (f : RowId → List RowId) (entries : List (RowId × X)) (i : ℕ) (entry : RowId × X) (found : List RowId) (o : Option RowId)
    → i < length entries →
    entry ≡ get_or entries i entry →
    found ≡ flat_map f (keys_of (take i entries)) → got ≡ o → option_to_list got ≡ f entry.0 → after ≡ pushed → pushed ≡ found ++ option_to_list o → after ≡ flat_map f (keys_of (take (i + 1) entries))
one_listed {got = got} f entries i entry found o within is walked same its left grown =
    left ∙ grown ∙ (λ k. walked k ++ option_to_list (sym same k)) ∙ ap (λ l. flat_map f (keys_of (take i entries)) ++ l) its ∙ sym (listed_more f entries i entry within is)
