-- What changes give their rows, and that their outcome stands on no more than that.
use Rattle.std.proofs.Common.{◌≡◌, ◌∙◌, ◌⊎◌, sym, ap, subst, refl, inl, inr, Bool, true, false, true≢false, cond, ℕ, ◌%◌, ◌^◌, ℤ, pos, count_ones, List, [], ◌∷◌, Option, Some, None, is_some, Ok}
use Rattle.std.specs.Prelude.{not, ◌||◌, slice_get, slice_index_or, option_and_then, option_to_list, flat_map}
use Rattle.std.specs.Option.{option_map, option_map_or}
use Rattle.std.specs.FinMap.{get, contains_key}
use Rattle.std.proofs.lemmas.Bool.{cases_Bool, or_cases, or_left, or_right}
use Rattle.std.proofs.lemmas.List.Folds.{list_any-append}
use Rattle.std.proofs.lemmas.Option.{same_Some, option_and_then_some}
use Rattle.schema.specs.declared.Table.{Table}
use Rattle.schema.specs.declared.RowId.{RowId}
use Rattle.schema.specs.RowId.{same_row}
use Rattle.schema.specs.Rows.{Mark, has_row}
use Rattle.schema.specs.Schema.{link_of, unique_of}
use Rattle.schema.proofs.Lists.{made_of}
use Rattle.rows.specs.declared.Change.{Change}
use Rattle.rows.specs.declared.Change.TheVariants.{Insert, Update, Delete}
use Rattle.rows.specs.declared.step.Step.{Step}
use Rattle.rows.specs.Change.{changed}
use Rattle.rows.specs.Naming.{names_column}
use Rattle.rows.specs.Step.{step_from, kin_of, marks_of}
use Rattle.rows.specs.Database.{Database, put_row, target, parent_of, mark_of, has_parent, is_free, sets_parent, sets_value, parent_stands, value_stands, moves_value, apply, effect}
use Rattle.rows.specs.Database.{writes, steps}
use Rattle.rows.specs.Frame.{AgreeOn, SameHolders, SameEffect}
use Rattle.rows.specs.Given.{given_value, given_parent, given_mark, given_parents, given_marks, AgreeFor, LooksOnlyAtGiven, OneOutcome, GivenParentsAreKin, GivenMarksAreMarks}
use Rattle.rows.proofs.Assigned.{assigned_gives}
use Rattle.rows.proofs.Apply.{Fits, insert_left, update_left, applied_from, applies_from, apply_agrees, apply_changes, has_row-left, has_row-right, same_row_itself}
use Rattle.rows.proofs.Values.{apply_same_holders}
use Rattle.rows.proofs.Marks.{listed, one_listed, free_alike}
use Rattle.rows.proofs.Effect.{effect_first, effect_then, steps_then, read_first, read_behind, changes_only_writes}

-- ---- what one change gives

-- whether a change says what is in a column of its row
abbrev says : Change → ℕ → Bool
says (Insert id columns) c = true
says (Update id named) c = names_column named.mask c
says (Delete id) c = false

-- what it says is there behind it
said : (change : Change) (row : Option (List ℤ)) (columns : List ℤ) (c : ℕ) → Fits change row (Some columns) → says change c ≡ true → slice_get columns c ≡ given_value change c
said (Insert id given) row columns c fits is = ap (λ (l : List ℤ). slice_get l c) (same_Some columns given (insert_left id given row (Some columns) fits))
said (Update id named) row columns c fits is =
    let new = update_left id named row (Some columns) fits in
    assigned_gives c named.mask named.values new.0 columns (new.4 ∙ sym new.3) is
    ∙ sym (ap (λ b. cond b (Some (slice_index_or named.values (count_ones (named.mask % 2 ^ c)) (pos 0))) None) is)
said (Delete id) row columns c fits is = cc

gives_said : (change : Change) (c : ℕ) (value : ℤ) → given_value change c ≡ Some value → says change c ≡ true
gives_said (Insert id columns) c value gives = refl
gives_said (Update id named) c value gives = by (names_column named.mask c) gives
  where
    by : (b : Bool) → cond b (Some (slice_index_or named.values (count_ones (named.mask % 2 ^ c)) (pos 0))) None ≡ Some value → b ≡ true
    by true e = refl
    by false e = cc
gives_said (Delete id) c value gives = cc

-- a change that says something leaves its row
says_left : (change : Change) (row left : Option (List ℤ)) (c : ℕ) → Fits change row left → says change c ≡ true → (columns : List ℤ) × (left ≡ Some columns)
says_left (Insert id given) row left c fits is = (given, insert_left id given row left fits)
says_left (Update id named) row left c fits is = let new = update_left id named row left fits in (new.1, new.3)
says_left (Delete id) row left c fits is = cc

-- the row of this key in a table
abbrev row_in : ℕ → ℤ → RowId
row_in table key = record { table = table; key = key }

-- ---- the parent, and the mark, that it gives

says_parent : (ts : List Table) (change : Change) (link : ℕ × ℕ) → link_of ts (target change).table ≡ Some link → sets_parent ts change ≡ true → says change link.0 ≡ true
says_parent ts (Insert id columns) link at sets = refl
says_parent ts (Update id named) link at sets = sym (ap (λ (o : Option (ℕ × ℕ)). option_map_or (λ l. names_column named.mask l.0) o false) at) ∙ sets
says_parent ts (Delete id) link at sets = sets

says_mark : (ts : List Table) (change : Change) (column : ℕ) → unique_of ts (target change).table ≡ Some column → sets_value ts change ≡ true → says change column ≡ true
says_mark ts (Insert id columns) column at sets = refl
says_mark ts (Update id named) column at sets = sym (ap (λ o. option_map_or (names_column named.mask) o false) at) ∙ sets
says_mark ts (Delete id) column at sets = sets

-- where a change says which parent its row has, that is the one that it gives it
pub parent_given : (ts : List Table) (change : Change) (row : Option (List ℤ)) (columns : List ℤ) → Fits change row (Some columns) → sets_parent ts change ≡ true →
    parent_of ts (target change).table columns ≡ given_parent ts change
parent_given ts change row columns fits sets = by (link_of ts (target change).table) refl
  where
    by : (o : Option (ℕ × ℕ)) → link_of ts (target change).table ≡ o →
        option_and_then (λ (link : ℕ × ℕ). option_map (row_in link.1) (slice_get columns link.0)) o ≡ option_and_then (λ (link : ℕ × ℕ). option_map (row_in link.1) (given_value change link.0)) o
    by None at = refl
    by (Some link) at = ap (option_map (row_in link.1)) (said change row columns link.0 fits (says_parent ts change link at sets))

-- and so with its mark
pub mark_given : (ts : List Table) (change : Change) (row : Option (List ℤ)) (columns : List ℤ) → Fits change row (Some columns) → sets_value ts change ≡ true →
    mark_of ts (target change).table columns ≡ given_mark ts change
mark_given ts change row columns fits sets = by (unique_of ts (target change).table) refl
  where
    by : (o : Option ℕ) → unique_of ts (target change).table ≡ o →
        option_map (row_in (target change).table) (option_and_then (slice_get columns) o) ≡ option_and_then (λ column. option_map (row_in (target change).table) (given_value change column)) o
    by None at = refl
    by (Some column) at = ap (option_map (row_in (target change).table)) (said change row columns column fits (says_mark ts change column at sets))

-- the parent that a change gives its row is the one of the row that it leaves
parent_is_left : (ts : List Table) (change : Change) (row left : Option (List ℤ)) (p : RowId) → Fits change row left → given_parent ts change ≡ Some p → (step_from ts change row left).new ≡ Some p
parent_is_left ts change row left p fits gives =
    option_and_then_some (λ (link : ℕ × ℕ). option_map (row_in link.1) (given_value change link.0)) (link_of ts (target change).table) p gives (λ link at named.
    let key = made_of (row_in link.1) (given_value change link.0) p named in
    let is = gives_said change link.0 key.0 key.1 in
    let there = says_left change row left link.0 fits is in
    ap (option_and_then (parent_of ts (target change).table)) there.1
    ∙ ap (option_and_then (λ (l : ℕ × ℕ). option_map (row_in l.1) (slice_get there.0 l.0))) at
    ∙ ap (option_map (row_in link.1)) (said change row there.0 link.0 (fits ∙ ap Ok there.1) is) ∙ named)

-- and so is the mark that it gives it
mark_is_left : (ts : List Table) (change : Change) (row left : Option (List ℤ)) (mark : Mark) → Fits change row left → given_mark ts change ≡ Some mark →
    (step_from ts change row left).takes ≡ Some mark
mark_is_left ts change row left mark fits gives =
    option_and_then_some (λ (column : ℕ). option_map (row_in (target change).table) (given_value change column)) (unique_of ts (target change).table) mark gives (λ column at named.
    let value = made_of (row_in (target change).table) (given_value change column) mark named in
    let is = gives_said change column value.0 value.1 in
    let there = says_left change row left column fits is in
    ap (λ b. cond b (option_and_then (mark_of ts (target change).table) left) None) (moves change column at is)
    ∙ ap (option_and_then (mark_of ts (target change).table)) there.1
    ∙ ap (λ o. option_map (row_in (target change).table) (option_and_then (slice_get there.0) o)) at
    ∙ ap (option_map (row_in (target change).table)) (said change row there.0 column (fits ∙ ap Ok there.1) is) ∙ named)
  where
    moves : (change : Change) (column : ℕ) → unique_of ts (target change).table ≡ Some column → says change column ≡ true → moves_value ts change ≡ true
    moves (Insert id columns) column at is = refl
    moves (Update id named) column at is = ap (λ o. option_map_or (names_column named.mask) o false) at ∙ is
    moves (Delete id) column at is = refl

-- ---- what one change looks at

-- the parent that a change gives its row is there in both of two databases, or in none
pub parent_stands_alike : (ts : List Table) (change : Change) (a b : Database) (row left : Option (List ℤ)) → AgreeOn (option_to_list (given_parent ts change)) a b → Fits change row left →
    parent_stands ts change a left ≡ parent_stands ts change b left
parent_stands_alike ts change a b row None agree fits = refl
parent_stands_alike ts change a b row (Some columns) agree fits = by (sets_parent ts change) refl
  where
    there : (o : Option RowId) → AgreeOn (option_to_list o) a b → option_map_or (contains_key a) o false ≡ option_map_or (contains_key b) o false
    there None same = refl
    there (Some p) same = ap is_some (same p (listed (Some p) p refl))

    by : (sets : Bool) → sets_parent ts change ≡ sets → (not sets || has_parent ts a (target change).table columns) ≡ (not sets || has_parent ts b (target change).table columns)
    by false is = refl
    by true is =
        ap (λ b. not (is_some (link_of ts (target change).table)) || b)
        (there (parent_of ts (target change).table columns) (subst (λ (o : Option RowId). AgreeOn (option_to_list o) a b) (sym (parent_given ts change row columns fits is)) agree))

-- and so is a row with the value that it gives it
value_stands_alike : (ts : List Table) (change : Change) (a b : Database) (row left : Option (List ℤ)) → SameHolders ts (option_to_list (given_mark ts change)) a b → Fits change row left →
    value_stands ts change a left ≡ value_stands ts change b left
value_stands_alike ts change a b row None same fits = refl
value_stands_alike ts change a b row (Some columns) same fits = by (sets_value ts change) refl
  where
    by : (sets : Bool) → sets_value ts change ≡ sets → (not sets || is_free ts a (target change) columns) ≡ (not sets || is_free ts b (target change) columns)
    by false is = refl
    by true is = free_alike ts a b (target change) columns (λ mark has. same mark (listed (given_mark ts change) mark (sym (mark_given ts change row columns fits is) ∙ has)))

-- so it does to both what it does to one
apply_alike : (ts : List Table) (change : Change) (a b after : Database) → apply ts change a ≡ Some after → get a (target change) ≡ get b (target change) →
    AgreeOn (option_to_list (given_parent ts change)) a b → SameHolders ts (option_to_list (given_mark ts change)) a b →
    apply ts change b ≡ Some (put_row b (target change) (get after (target change)))
apply_alike ts change a b after h same parents holders =
    let row = get a (target change) in
    let left = get after (target change) in
    let x = applied_from ts change a after h in
    applies_from ts change b left (ap (changed change) (sym same) ∙ x.fits)
    (sym (parent_stands_alike ts change a b row left parents x.fits) ∙ x.parent) (sym (value_stands_alike ts change a b row left holders x.fits) ∙ x.value)

-- ---- what the changes look at

pub looks_only_at_given : LooksOnlyAtGiven
looks_only_at_given ts [] before after other h agree = record { leaves = other; defined = refl; same_writes = λ q none. cc; same_steps = refl }
looks_only_at_given ts (change ∷ changes) before after other h agree =
    let first = effect_first ts change changes before after h in
    let mid = first.0 in
    let row = target change in
    let parent = option_to_list (given_parent ts change) in
    let mark = option_to_list (given_mark ts change) in
    let was : get before row ≡ get other row = agree.rows row (or_left _ _ (same_row_itself row)) in
    let left = put_row other row (get mid row) in
    let two : apply ts change other ≡ Some left = apply_alike ts change before other mid first.1 was
    (λ p is. agree.parents p (has_row-left parent (given_parents ts changes) p is)) (λ m is. agree.holders m (has_row-left mark (given_marks ts changes) m is)) in
    let still : (q : RowId) → get before q ≡ get other q → get mid q ≡ get left q = λ q same. apply_agrees ts change before other mid left q first.1 two was (λ _. same) in
    let rest = looks_only_at_given ts changes mid after left first.2 (record {
      rows = λ q is. still q (agree.rows q (or_right (same_row q row) (has_row (writes changes) q) is));
      parents = λ p is. still p (agree.parents p (has_row-right parent (given_parents ts changes) p is));
      holders = λ m is. apply_same_holders ts change before other mid left m first.1 two (still row was) (agree.holders m (has_row-right mark (given_marks ts changes) m is));
    }) in
    record {
      leaves = rest.leaves;
      defined = effect_then ts change changes other left two ∙ rest.defined;
      same_writes = λ q is. elim (cases_Bool (has_row (writes changes) q)) [
        | inl again ↦ rest.same_writes q again
        | inr once ↦
            changes_only_writes ts changes mid after q first.2 once ∙ still q (agree.rows q is) ∙ sym (changes_only_writes ts changes left rest.leaves q rest.defined once)
      ];
      same_steps = steps_then ts change changes other left two
          ∙ (λ i. step_from ts change (sym was i) (sym (still row was) i) ∷ rest.same_steps i)
          ∙ sym (steps_then ts change changes before mid first.1);
    }

pub one_outcome : OneOutcome
one_outcome ts changes a b agree = by (effect ts changes a) (effect ts changes b) refl refl
  where
    turned : AgreeFor ts changes b a
    turned = record { rows = λ q is. sym (agree.rows q is); parents = λ p is. sym (agree.parents p is); holders = λ mark is q. sym (agree.holders mark is q) }

    undefined : (o : Option Database) (after : Database) → o ≡ None → o ≡ Some after → ⊥
    undefined o after none some = cc

    by : (x y : Option Database) → effect ts changes a ≡ x → effect ts changes b ≡ y →
        ((effect ts changes a ≡ None) × (effect ts changes b ≡ None)) ⊎ ((after : Database) × (effect ts changes a ≡ Some after) × SameEffect ts changes a after b)
    by (Some after) y one two = inr (after, one, looks_only_at_given ts changes a after b one agree)
    by None None one two = inl (one, two)
    by None (Some after) one two =
        let same = looks_only_at_given ts changes b after a two turned in
        absurd (undefined (effect ts changes a) same.leaves one same.defined)

-- ---- what they give is among what they touch

-- what a change gives is read off its step, where it applies
given_among : (g : Change → Option RowId) (f : Step → List RowId) (ts : List Table) →
    ((change : Change) (row left : Option (List ℤ)) (q : RowId) → Fits change row left → g change ≡ Some q → has_row (f (step_from ts change row left)) q ≡ true) →
    (changes : List Change) (db after : Database) (q : RowId) → effect ts changes db ≡ Some after →
    has_row (flat_map (λ change. option_to_list (g change)) changes) q ≡ true → has_row (flat_map f (steps ts changes db)) q ≡ true
given_among g f ts one [] db after q h is = absurd (true≢false (sym is))
given_among g f ts one (change ∷ changes) db after q h is =
    let first = effect_first ts change changes db after h in
    let own = option_to_list (g change) in
    let rest = flat_map (λ change. option_to_list (g change)) changes in
    elim (or_cases (has_row own q) (has_row rest q) (sym (list_any-append (same_row q) own rest) ∙ is)) [
      | inl here ↦ read_first f ts change changes db first.0 q first.1
          (one change (get db (target change)) (get first.0 (target change)) q (apply_changes ts change db first.0 first.1) (one_listed (g change) q here))
      | inr behind ↦ read_behind f ts change changes db first.0 q first.1 (given_among g f ts one changes first.0 after q first.2 behind)
    ]

pub given_parents_are_kin : GivenParentsAreKin
given_parents_are_kin ts = given_among (given_parent ts) kin_of ts (λ change row left p fits gives.
    let step = step_from ts change row left in
    has_row-right (option_to_list step.old) (option_to_list step.new) p (listed step.new p (parent_is_left ts change row left p fits gives)))

pub given_marks_are_marks : GivenMarksAreMarks
given_marks_are_marks ts = given_among (given_mark ts) marks_of ts (λ change row left mark fits gives.
    let step = step_from ts change row left in
    has_row-right (option_to_list step.gives_up) (option_to_list step.takes) mark (listed step.takes mark (mark_is_left ts change row left mark fits gives)))
