use Rattle.std.proofs.Common.{◌≡◌, ◌∙◌, ◌⊎◌, inl, inr, sym, subst, map, ap, ap₂, refl, codes, Bool, true, not, ◌||◌, List, [], ◌∷◌, Option, Some, None}
use Rattle.std.specs.Prelude.{option_and_then}
use Rattle.std.specs.List.{list_any}
use Rattle.std.proofs.Math.Bool.{or-true}
use Rattle.std.proofs.lemmas.Bool.{and_parts, and_from}
use Rattle.clap.specs.declared.error.kind.ErrorKind.{ErrorKind}
use Rattle.clap.specs.declared.error.kind.ErrorKind.TheVariants as kinds
use Rattle.mtr.specs.declared.options.LineFault.{LineFault}
use Rattle.mtr.specs.declared.options.LineFault.TheVariants as faults
use Rattle.clap.specs.Words.{App, Row, Text, takes, subcommand_of, subcommand_rows_of, is_simple, is_simple_and_free, fault_of, app_of, kind_of, IsAmong}
use Rattle.clap.specs.Simple.{built, argument_words}
use Rattle.clap.specs.Walk.{nothing_held}
use Rattle.clap.specs.Takes.{built_takes}
use Rattle.clap.specs.Faults.{is_free_app}
use Rattle.clap.proofs.OnLiterals.{clap_on_literals}
use Rattle.mtr.specs.declared.options.Options.{Options}
use Rattle.mtr.specs.declared.options.Options.TheVariants.{Run, Threads, Decode}
use Rattle.mtr.specs.declared.command_line.Names.{Names}
use Rattle.mtr.specs.Options.{AreNames, program, options_for, options_of, is_asked, is_mistake, default_sides, IsByDefault, IsOfKind, IsOfWords}
use Rattle.mtr.proofs.Choices.{Place, at, lies_there}
use Rattle.mtr.proofs.command_line.options.Goals as goal

simple_of_free : (app : App) → is_simple_and_free app ≡ true → is_simple app ≡ true
simple_of_free app free = (and_parts (is_simple app) (is_free_app (built app)) free).0

takes_where : (app : App) (words : List Text) → is_simple_and_free app ≡ true → built_takes (built app) nothing_held (argument_words app words) ≡ true → takes app words ≡ true
takes_where app words free passes = and_from (is_simple app) (built_takes (built app) nothing_held (argument_words app words)) (simple_of_free app free) passes

-- of words at these places: the command line is simple, and no option has a rule on another
module _ (p q r s t u v w x y : Place) where
  free_at : is_simple_and_free (program (at p q r s t u v w x y)) ≡ true
  unfolding clap_on_literals
  free_at = refl

  run_passes : let app = program (at p q r s t u v w x y) in built_takes (built app) nothing_held (argument_words app (codes "run" ∷ [])) ≡ true
  unfolding clap_on_literals
  run_passes = refl

  threads_passes : let app = program (at p q r s t u v w x y) in built_takes (built app) nothing_held (argument_words app (codes "threads" ∷ [])) ≡ true
  unfolding clap_on_literals
  threads_passes = refl

  decode_passes : let app = program (at p q r s t u v w x y) in built_takes (built app) nothing_held (argument_words app (codes "decode" ∷ [])) ≡ true
  unfolding clap_on_literals
  decode_passes = refl

  is_taken_at : (name : Text) (asked : Options) → IsByDefault name asked → takes (program (at p q r s t u v w x y)) (name ∷ []) ≡ true
  is_taken_at name (Run sides fail) h = ap (λ n. takes (program (at p q r s t u v w x y)) (n ∷ [])) h.0 ∙ takes_where (program (at p q r s t u v w x y)) (codes "run" ∷ []) free_at run_passes
  is_taken_at name (Threads plan) h =
      ap (λ n. takes (program (at p q r s t u v w x y)) (n ∷ [])) h.0 ∙ takes_where (program (at p q r s t u v w x y)) (codes "threads" ∷ []) free_at threads_passes
  is_taken_at name Decode h = ap (λ n. takes (program (at p q r s t u v w x y)) (n ∷ [])) h ∙ takes_where (program (at p q r s t u v w x y)) (codes "decode" ∷ []) free_at decode_passes

  run_alone : options_of (at p q r s t u v w x y) (codes "run" ∷ []) ≡ Some (Run default_sides 0)
  unfolding clap_on_literals
  run_alone = refl

  threads_alone : options_of (at p q r s t u v w x y) (codes "threads" ∷ []) ≡ Some (Threads (record { sides = default_sides; sessions = 4; transactions = 10; seats = 2 }))
  unfolding clap_on_literals
  threads_alone = refl

  decode_alone : options_of (at p q r s t u v w x y) (codes "decode" ∷ []) ≡ Some Decode
  unfolding clap_on_literals
  decode_alone = refl

  by_default_at : (name : Text) (asked : Options) → IsByDefault name asked → options_of (at p q r s t u v w x y) (name ∷ []) ≡ Some asked
  by_default_at name (Run sides fail) h =
      ap (λ n. options_of (at p q r s t u v w x y) (n ∷ [])) h.0 ∙ run_alone ∙ ap₂ (λ sides fail. Some (Run sides fail)) (sym h.1) (sym h.2)
  by_default_at name (Threads plan) h = ap (λ n. options_of (at p q r s t u v w x y) (n ∷ [])) h.0 ∙ threads_alone ∙ ap (λ plan. Some (Threads plan)) (sym h.1)
  by_default_at name Decode h = ap (λ n. options_of (at p q r s t u v w x y) (n ∷ [])) h ∙ decode_alone

is_taken : (names : Names) (name : Text) (asked : Options) → AreNames names → IsByDefault name asked → takes (program names) (name ∷ []) ≡ true
is_taken names name asked are h = lies_there (λ it. takes (program it) (name ∷ []) ≡ true) names are (λ p q r s t u v w x y. is_taken_at p q r s t u v w x y name asked h)

-- the name of a subcommand alone asks for its defaults
by_default : (names : Names) (words : List Text) (name : Text) (asked : Options) → AreNames names → IsByDefault name asked → words ≡ name ∷ [] → options_of names words ≡ Some asked
by_default names words name asked are h alone =
    ap (options_of names) alone ∙ lies_there (λ it. options_of it (name ∷ []) ≡ Some asked) names are (λ p q r s t u v w x y. by_default_at p q r s t u v w x y name asked h)

is_free_program : (names : Names) → AreNames names → is_simple_and_free (program names) ≡ true
is_free_program names are = lies_there (λ it. is_simple_and_free (program it) ≡ true) names are free_at

is_among : (p : ErrorKind → Bool) (kind : ErrorKind) (kinds : List ErrorKind) → IsAmong kind kinds → p kind ≡ true → list_any p kinds ≡ true
is_among p kind [] h e = absurd h
is_among p kind (k ∷ ks) (inl same) e = ap (λ b. b || list_any p ks) (ap p (sym same) ∙ e)
is_among p kind (k ∷ ks) (inr rest) e = ap (λ b. p k || b) (is_among p kind ks rest e) ∙ or-true (p k)

fault_told : (names : Names) (words : List Text) (kind : ErrorKind) (fault : LineFault) → IsOfKind kind fault → (kind ≡ kinds.OutOfMemory → fault ≡ faults.Memory) →
    (kind ≡ kinds.OutOfMemory) ⊎ IsAmong kind (fault_of (program names) words) → IsOfWords names words fault
fault_told names words kind (faults.Line text) of memory (inl none) = let bad : faults.Line text ≡ faults.Memory = memory none in cc
fault_told names words kind (faults.Line text) of memory (inr among) = inr (is_among is_mistake kind (fault_of (program names) words) among (ap not of))
fault_told names words kind (faults.Asked text) of memory (inl none) = let bad : faults.Asked text ≡ faults.Memory = memory none in cc
fault_told names words kind (faults.Asked text) of memory (inr among) = is_among is_asked kind (fault_of (program names) words) among of
fault_told names words kind faults.Memory of memory h = tt

-- what was found is what the words name
asks : (names : Names) (app : App) (words : List Text) (found : Option (Text × List Row)) (asked : Option Options) → AreNames names → app ≡ program names →
    (is_simple app ≡ true → found ≡ subcommand_of app words) → asked ≡ option_and_then options_for found → asked ≡ options_of names words
asks names app words found asked are is matches named =
    named ∙ ap (option_and_then options_for) (matches (ap is_simple is ∙ simple_of_free (program names) (is_free_program names are)) ∙ ap (λ a. subcommand_of a words) is)

pub returns-in-Err-clause-alone : goal.returns-in-Err-clause-alone
returns-in-Err-clause-alone c = λ name asked default alone. c.fault_of.ensures.memory
    (c.in-Err.ensures.passes (ap₂ takes c.in_ok-command.ensures alone ∙ is_taken c.choices.result name asked c.choices.ensures default))

pub returns-in-Err-clause-told : goal.returns-in-Err-clause-told
returns-in-Err-clause-told c =
    let words = map (λ w. w.now) c.args.words.now in
    let kind = kind_of c.in-Err.error in
    let of = c.in-Err.ensures.kinds (ap is_simple_and_free c.in_ok-command.ensures ∙ is_free_program c.choices.result c.choices.ensures) in
    record {
      names = c.choices.result;
      are = c.choices.ensures;
      told = fault_told c.choices.result words kind c.fault_of.result c.fault_of.ensures.stream c.fault_of.ensures.memory
          (subst (λ (app : App). (kind ≡ kinds.OutOfMemory) ⊎ IsAmong kind (fault_of app words)) c.in_ok-command.ensures of);
    }

pub returns-in-Some-clause-named : goal.returns-in-Some-clause-named
returns-in-Some-clause-named c = record {
  names = c.choices.result;
  are = c.choices.ensures;
  named = sym (asks c.choices.result _ (map (λ w. w.now) c.args.words.now) _ _ c.choices.ensures c.in_ok-command.ensures (λ simple. (c.in-Ok.ensures.matches simple).1)
      (sym c.in-Some.is ∙ c.options_in.ensures.named));
}

pub returns-in-Some-clause-told : goal.returns-in-Some-clause-told
returns-in-Some-clause-told c = record {
  names = c.choices.result;
  are = c.choices.ensures;
  told = ap (λ app. fault_of app (map (λ w. w.now) c.args.words.now)) (sym c.in_ok-command.ensures)
      ∙ c.in-Ok.ensures.kinds (ap is_simple_and_free c.in_ok-command.ensures ∙ is_free_program c.choices.result c.choices.ensures);
}

pub returns-in-Some-clause-alone : goal.returns-in-Some-clause-alone
returns-in-Some-clause-alone c = λ name asked default alone.
    let same : Some c.in-Some.asked ≡ Some asked =
    asks c.choices.result _ (map (λ w. w.now) c.args.words.now) _ _ c.choices.ensures c.in_ok-command.ensures (λ simple. (c.in-Ok.ensures.matches simple).1)
    (sym c.in-Some.is ∙ c.options_in.ensures.named) ∙ by_default c.choices.result _ name asked c.choices.ensures default alone in
    cc

pub returns-clause-told : goal.returns-clause-told
returns-clause-told c = record {
  names = c.choices.result;
  are = c.choices.ensures;
  told = inl (
    ap (λ app. fault_of app (map (λ w. w.now) c.args.words.now)) (sym c.in_ok-command.ensures)
        ∙ c.in-Ok.ensures.kinds (ap is_simple_and_free c.in_ok-command.ensures ∙ is_free_program c.choices.result c.choices.ensures),
    sym (asks c.choices.result _ (map (λ w. w.now) c.args.words.now) _ _ c.choices.ensures c.in_ok-command.ensures (λ simple. (c.in-Ok.ensures.matches simple).1)
        (sym c.in-None.is ∙ c.options_in.ensures.named)),
  );
}

pub returns-clause-alone : goal.returns-clause-alone
returns-clause-alone c = λ name asked default alone.
    let none : None ≡ Some asked =
    asks c.choices.result _ (map (λ w. w.now) c.args.words.now) _ _ c.choices.ensures c.in_ok-command.ensures (λ simple. (c.in-Ok.ensures.matches simple).1)
    (sym c.in-None.is ∙ c.options_in.ensures.named) ∙ by_default c.choices.result _ name asked c.choices.ensures default alone in
    absurd (cc)
