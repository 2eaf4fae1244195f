-- The words of options, wherever they lie.
use Rattle.std.proofs.Common.{◌≡◌, ◌∙◌, sym, ap, subst, ℕ, List, [], ◌∷◌, map, codes, Option, Some, None}
use Rattle.std.specs.Prelude.{option_map, option_and_then}
use Rattle.std.specs.Borrow.{Bor}
use Rattle.clap.specs.Words.{Text, first_of, first_value, rows_of}
use Rattle.clap.specs.declared.parser.matches.Found.{Found}
use Rattle.clap.proofs.WalkLemmas.{first_value-rows}
use Rattle.mtr.specs.declared.command_line.Names.{Names}
use Rattle.mtr.specs.Options.{Choices, AreNames}

abbrev pub Place : Type 0
Place = ℕ × ℕ

-- two words at these places, and three
abbrev pub two : Text → Text → Place → Place → Place → Choices
two a b p q r = record { ref_ptr = p; now = record { ref_ptr = q; now = a } ∷ record { ref_ptr = r; now = b } ∷ [] }

abbrev pub three : Text → Text → Text → Place → Place → Place → Place → Choices
three a b c p q r s = record { ref_ptr = p; now = record { ref_ptr = q; now = a } ∷ record { ref_ptr = r; now = b } ∷ record { ref_ptr = s; now = c } ∷ [] }

-- what holds of words wherever they lie holds of these
two_there : (P : Choices → Type 0) (a b : Text) (choices : Choices) → map (λ w. w.now) choices.now ≡ a ∷ b ∷ [] → ((p q r : Place) → P (two a b p q r)) → P choices
two_there P a b choices are there = go choices.now are
  where
    go : (words : List (Bor Text)) → map (λ w. w.now) words ≡ a ∷ b ∷ [] → P (record { ref_ptr = choices.ref_ptr; now = words })
    go (first ∷ second ∷ []) e =
        let one : first.now ≡ a = cc in
        let two : second.now ≡ b = cc in
        let Q : Text → Type 0 = λ t. P (record { ref_ptr = choices.ref_ptr; now = record { ref_ptr = first.ref_ptr; now = t } ∷ second ∷ [] }) in
        let R : Text → Type 0 = λ t. P (record { ref_ptr = choices.ref_ptr; now = record { ref_ptr = first.ref_ptr; now = a } ∷ record { ref_ptr = second.ref_ptr; now = t } ∷ [] }) in
        subst Q (sym one) (subst R (sym two) (there choices.ref_ptr first.ref_ptr second.ref_ptr))
    go [] e = absurd (cc)
    go (first ∷ []) e = absurd (cc)
    go (first ∷ second ∷ third ∷ more) e = absurd (cc)

three_there : (P : Choices → Type 0) (a b c : Text) (choices : Choices) → map (λ w. w.now) choices.now ≡ a ∷ b ∷ c ∷ [] → ((p q r s : Place) → P (three a b c p q r s)) → P choices
three_there P a b c choices are there = go choices.now are
  where
    go : (words : List (Bor Text)) → map (λ w. w.now) words ≡ a ∷ b ∷ c ∷ [] → P (record { ref_ptr = choices.ref_ptr; now = words })
    go (first ∷ second ∷ third ∷ []) e =
        let one : first.now ≡ a = cc in
        let two : second.now ≡ b = cc in
        let last : third.now ≡ c = cc in
        let Q : Text → Type 0 = λ t. P (record { ref_ptr = choices.ref_ptr; now = record { ref_ptr = first.ref_ptr; now = t } ∷ second ∷ third ∷ [] }) in
        let R : Text → Type 0 = λ t. P (record { ref_ptr = choices.ref_ptr; now = record { ref_ptr = first.ref_ptr; now = a } ∷ record { ref_ptr = second.ref_ptr; now = t } ∷ third ∷ [] }) in
        let S : Text → Type 0 = λ t. P (record {
          ref_ptr = choices.ref_ptr;
          now =
              record { ref_ptr = first.ref_ptr; now = a } ∷ record { ref_ptr = second.ref_ptr; now = b } ∷ record { ref_ptr = third.ref_ptr; now = t } ∷ [];
        }) in
        subst Q (sym one) (subst R (sym two) (subst S (sym last) (there choices.ref_ptr first.ref_ptr second.ref_ptr third.ref_ptr)))
    go [] e = absurd (cc)
    go (first ∷ []) e = absurd (cc)
    go (first ∷ second ∷ []) e = absurd (cc)
    go (first ∷ second ∷ third ∷ fourth ∷ more) e = absurd (cc)

-- the words of the options at these places
abbrev pub at : Place → Place → Place → Place → Place → Place → Place → Place → Place → Place → Names
at p q r s t u v w x y = record {
  trackers = three (codes "commit-order") (codes "writeset") (codes "writeset-session") p q r s;
  stores = two (codes "btree") (codes "vector") t u v;
  orders = two (codes "on") (codes "off") w x y;
}

pub lies_there : (P : Names → Type 0) (names : Names) → AreNames names → ((p q r s t u v w x y : Place) → P (at p q r s t u v w x y)) → P names
lies_there P names are there =
    three_there (λ trackers. P (record { trackers = trackers; stores = names.stores; orders = names.orders }))
    (codes "commit-order") (codes "writeset") (codes "writeset-session") names.trackers are.0 (λ p q r s.
    let by : Choices = three (codes "commit-order") (codes "writeset") (codes "writeset-session") p q r s in
    two_there (λ stores. P (record { trackers = by; stores = stores; orders = names.orders })) (codes "btree") (codes "vector") names.stores are.1 (λ t u v.
    let kept : Choices = two (codes "btree") (codes "vector") t u v in
    two_there (λ orders. P (record { trackers = by; stores = kept; orders = orders })) (codes "on") (codes "off") names.orders are.2 (there p q r s t u v)))

-- ---- what is named by the word that was found

found_is : {A : Type 0} (read : Text → Option A) (found : Found) (name : Text) (text : Option (Bor Text)) → option_map (λ w. w.now) text ≡ first_value found name →
    option_and_then read (option_map (λ w. w.now) text) ≡ option_and_then read (first_of name (rows_of found))
found_is read found name text is = ap (option_and_then read) (is ∙ first_value-rows found name)

-- none, where the option has no text
pub none_found : {A : Type 0} (read : Text → Option A) (found : Found) (name : Text) (text : Option (Bor Text)) (given : Option A) → option_map (λ w. w.now) text ≡ first_value found name →
    text ≡ None → given ≡ None → given ≡ option_and_then read (first_of name (rows_of found))
none_found read found name text given is none nothing = nothing ∙ ap (λ o. option_and_then read (option_map (λ (w : Bor Text). w.now) o)) (sym none) ∙ found_is read found name text is

-- what has this word for its name
pub some_found : {A : Type 0} (read : Text → Option A) (found : Found) (name : Text) (text : Option (Bor Text)) (given : Option A) (word : Bor Text) →
    option_map (λ w. w.now) text ≡ first_value found name → text ≡ Some word → given ≡ read word.now → given ≡ option_and_then read (first_of name (rows_of found))
some_found read found name text given word is some named = named ∙ ap (λ o. option_and_then read (option_map (λ (w : Bor Text). w.now) o)) (sym some) ∙ found_is read found name text is
