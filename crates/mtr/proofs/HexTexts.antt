-- Hexadecimal text, a piece behind another.
use Rattle.std.proofs.Common.{◌≡◌, ◌∙◌, sym, ap, ap₂, refl, ℕ, ◌+◌, ◌*◌, ◌/◌, ◌%◌, ◌<◌, Bool, true, false, List, [], ◌∷◌, ◌++◌, length, length-append, take, drop, get_or, map, append_assoc}
use Rattle.std.proofs.Common.{append-nil, Option, Some, None, option_to_list, arith, Contains, subst, take-append-drop, zero, suc}
use Rattle.std.specs.List.{flat_map}
use Rattle.std.specs.Prelude.{IfSome}
use Rattle.std.specs.Io.KnownBytes.{Consumes, IsAtEnd}
use Rattle.std.proofs.lemmas.Grind.{flat_map-append}
use Rattle.std.proofs.lemmas.List.{take_more}
use Rattle.std.proofs.lemmas.List.Elements.{Contains-append_left, Contains-append_right}
use Rattle.std.proofs.lemmas.Nat.{div-mul-add}
use Rattle.std.specs.Prelude.{MatchOption, MatchResult}
use Rattle.std.specs.Option.{ok_or}
use Rattle.mtr.specs.declared.ending.Stop.TheVariants as stops
use Rattle.script_text.specs.HexText.{is_white, hex_digit, digits_read, halves, digits_of, SaysBytes}
use Rattle.script_text.proofs.HexBack.{digits_behind, one_digit}
use Rattle.mtr.specs.Hex.{SaysNone, IsUnread, GoesOnBy}

pub no_digits : digits_of [] ≡ []
unfolding digits_of
no_digits = refl

high_half : (high low : ℕ) → low < 16 → (high * 16 + low) / 16 ≡ high
high_half high low below = div-mul-add high 16 low below

low_half : (high low : ℕ) → low < 16 → (high * 16 + low) % 16 ≡ low
low_half high low below = omega (arith, high_half high low below)

-- the second digit of a byte
pub byte_more : (bytes : List ℕ) (high low : ℕ) → low < 16 → digits_of (bytes ++ (high * 16 + low) ∷ []) ≡ (digits_of bytes ++ high ∷ []) ++ low ∷ []
unfolding digits_of
byte_more bytes high low below =
    flat_map-append halves bytes ((high * 16 + low) ∷ [])
    ∙ ap (λ (ds : List ℕ). flat_map halves bytes ++ ds) (rw (high_half high low below, low_half high low below) refl)
    ∙ sym (append_assoc (flat_map halves bytes) (high ∷ []) (low ∷ []))

pub pushed : (old new digits : List ℕ) (before after : Option ℕ) (high low : ℕ) → low < 16 → before ≡ Some high → after ≡ None → new ≡ old ++ (high * 16 + low) ∷ []
    → digits_of old ++ option_to_list before ≡ digits → digits_of new ++ option_to_list after ≡ digits ++ low ∷ []
pushed old new digits before after high low below b a n d =
    ap (λ (o : Option ℕ). digits_of new ++ option_to_list o) a
    ∙ append-nil (digits_of new)
    ∙ ap digits_of n
    ∙ byte_more old high low below
    ∙ ap (λ ds. ds ++ low ∷ []) (ap (λ (o : Option ℕ). digits_of old ++ option_to_list o) (sym b) ∙ d)

two_each : (bytes : List ℕ) → length (digits_of bytes) ≡ 2 * length bytes
unfolding digits_of
two_each [] = refl
two_each (b ∷ bytes) = omega (arith, two_each bytes)

-- one digit more than whole bytes
pub alone_digit : (bytes others : List ℕ) (high : ℕ) → digits_of bytes ++ high ∷ [] ≡ digits_of others → ⊥
alone_digit bytes others high e =
    omega (arith, two_each bytes, two_each others, ap length e, length-append (digits_of bytes) (high ∷ []))

pub white_is_none : (c : ℕ) → is_white c ≡ true → digits_read (c ∷ []) ≡ []
unfolding digits_read
white_is_none c e = rw e refl

-- the digits of one character more
read_more : (text : List ℕ) (i d c : ℕ) → i < length text → c ≡ get_or text i d → digits_read (take (i + 1) text) ≡ digits_read (take i text) ++ digits_read (c ∷ [])
read_more text i d c below is =
    ap digits_read (take_more text i d below ∙ ap (λ e. take i text ++ e ∷ []) (sym is)) ∙ digits_behind (take i text) (c ∷ [])

pub char_more : (old now new ms : List (Option ℕ)) (text : List ℕ) (i d c : ℕ) → i < length text → c ≡ get_or text i d → digits_read (c ∷ []) ≡ ms
    → now ≡ old ++ digits_read (take i text) → new ≡ now ++ ms → new ≡ old ++ digits_read (take (i + 1) text)
char_more old now new ms text i d c below is here so_far more =
    more
    ∙ ap (λ l. l ++ ms) so_far
    ∙ append_assoc old (digits_read (take i text)) ms
    ∙ ap (λ l. old ++ l) (ap (λ l. digits_read (take i text) ++ l) (sym here) ∙ sym (read_more text i d c below is))

contains_along : (xs ys : List (Option ℕ)) → xs ≡ ys → Contains xs None → Contains ys None
contains_along xs ys e h = let P : List (Option ℕ) → Type 0 = λ l. Contains l None in subst P e h

-- a character that is neither a digit nor whitespace
pub no_digit : (text : List ℕ) (i d c : ℕ) → i < length text → c ≡ get_or text i d → is_white c ≡ false → hex_digit c ≡ None → Contains (digits_read text) None
no_digit text i d c below is white none =
    let here : digits_read (take (i + 1) text) ≡ digits_read (take i text) ++ None ∷ [] =
    read_more text i d c below is ∙ ap (λ l. digits_read (take i text) ++ l) (one_digit c None white none) in
    let front : Contains (digits_read (take (i + 1) text)) None =
    contains_along (digits_read (take i text) ++ None ∷ []) (digits_read (take (i + 1) text)) (sym here)
    (Contains-append_right (digits_read (take i text)) (None ∷ []) None (0, omega arith, refl)) in
    contains_along (digits_read (take (i + 1) text) ++ digits_read (drop (i + 1) text)) (digits_read text)
    (sym (digits_behind (take (i + 1) text) (drop (i + 1) text)) ∙ ap digits_read (take-append-drop (i + 1) text))
    (Contains-append_left (digits_read (take (i + 1) text)) (digits_read (drop (i + 1) text)) None front)

only_some : (ds : List ℕ) (k : ℕ) → k < length (map {A = ℕ} {B = Option ℕ} (λ d. Some d) ds) → get_or (map {A = ℕ} {B = Option ℕ} (λ d. Some d) ds) k None ≡ None → ⊥
only_some [] k below e = omega (arith, below)
only_some (d ∷ ds) zero below e = cc
only_some (d ∷ ds) (suc k) below e = only_some ds k (omega (arith, below)) e

pub says_none : (text : List ℕ) → Contains (digits_read text) None → SaysNone text
says_none text h bytes e =
    let has : Contains (map Some (digits_of bytes)) None = contains_along (digits_read text) (map Some (digits_of bytes)) e h in
    only_some (digits_of bytes) has.0 has.1 has.2

all_of : (a b c : Option (List ℕ)) (text got : List ℕ) (P : List ℕ → Type 0) → Consumes a b text → Consumes b c got → ((rest : List ℕ) → P ((text ++ got) ++ rest)) → IfSome a P
all_of None b c text got P front more h = tt
all_of (Some t) None c text got P front more h = absurd front
all_of (Some t) (Some u) None text got P front more h = absurd more
all_of (Some t) (Some u) (Some v) text got P front more h =
    let whole : (text ++ got) ++ v ≡ t = append_assoc text got v ∙ ap (λ l. text ++ l) (sym more) ∙ sym front in
    subst P whole (h v)

-- a piece with such a character
pub bad_piece : (a b c : Option (List ℕ)) (text got : List ℕ) → Consumes a b text → Consumes b c got → Contains (digits_read got) None → IfSome a SaysNone
bad_piece a b c text got front more h =
    all_of a b c text got SaysNone front more (λ rest.
    says_none ((text ++ got) ++ rest)
    (contains_along (digits_read (text ++ got) ++ digits_read rest) (digits_read ((text ++ got) ++ rest)) (sym (digits_behind (text ++ got) rest))
    (Contains-append_left (digits_read (text ++ got)) (digits_read rest) None
    (contains_along (digits_read text ++ digits_read got) (digits_read (text ++ got)) (sym (digits_behind text got)) (Contains-append_right (digits_read text) (digits_read got) None h)))))

pub bad_digits : (old piece new : List ℕ) (good : Bool) → good ≡ false → GoesOnBy old piece good new → Contains (digits_read piece) None
bad_digits old piece new true e h = cc
bad_digits old piece new false e h = h

pub more_digits : (old piece new text : List ℕ) (good : Bool) → good ≡ true → GoesOnBy old piece good new → digits_read text ≡ map Some old → digits_read (text ++ piece) ≡ map Some new
more_digits old piece new text true e h so_far = digits_behind text piece ∙ ap (λ l. l ++ digits_read piece) so_far ∙ sym h
more_digits old piece new text false e h so_far = cc

-- the text is read to its end
pub to_end : (a b c : Option (List ℕ)) (text : List ℕ) (P : List ℕ → Type 0) → Consumes a b text → Consumes b c [] → IsAtEnd c → P text → IfSome a P
to_end None b c text P front none end h = tt
to_end (Some t) None c text P front none end h = absurd front
to_end (Some t) (Some u) None text P front none end h = absurd none
to_end (Some t) (Some u) (Some v) text P front none end h =
    let whole : text ≡ t = sym (front ∙ ap (λ l. text ++ l) (none ∙ end) ∙ append-nil text) in
    subst P whole h

some_alike : (xs ys : List ℕ) → map {A = ℕ} {B = Option ℕ} (λ d. Some d) xs ≡ map (λ d. Some d) ys → xs ≡ ys
some_alike [] [] e = refl
some_alike [] (y ∷ ys) e = cc
some_alike (x ∷ xs) [] e = cc
some_alike (x ∷ xs) (y ∷ ys) e =
    let first : x ≡ y = cc in
    let rest : map {A = ℕ} {B = Option ℕ} (λ d. Some d) xs ≡ map (λ d. Some d) ys = cc in
    ap₂ (λ z zs. z ∷ zs) first (some_alike xs ys rest)

pub says_digits : {V : Type 0} (items : V → List ℕ) (o : Option V) (text digits : List ℕ) → digits_read text ≡ map Some digits
    → MatchOption o ((bytes : List ℕ) → digits ≡ digits_of bytes → ⊥) (λ v. digits ≡ digits_of (items v)) → MatchResult (ok_or o stops.BadHexadecimal) (λ v. SaysBytes text (items v)) (IsUnread text)
says_digits items (Some v) text digits e h = e ∙ ap (map Some) h
says_digits items None text digits e h = λ bytes says. h bytes (some_alike digits (digits_of bytes) (sym e ∙ says))
