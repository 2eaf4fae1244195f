-- The command line of the program, as `clap` reads it.
use Rattle.std.specs.Prelude.{◌≡◌, ◌⊎◌, ◌≤◌, ℕ, true, Bool, false, not, if◌then◌else◌, List, [], ◌∷◌, map, codes, Option, Some, None, option_and_then, Result, MatchResult}
use Rattle.std.specs.Borrow.{Bor}
use Rattle.std.specs.List.{list_any}
use Rattle.std.specs.Str.{bytes_eq}
use Rattle.std.specs.Str.Parse.{digits_value, without_leading_plus}
use Rattle.clap.specs.Words.{App, Row, Rule, Text, new_app, new_rule, with_rule, with_subcommand, subcommand_of, one_of, first_of, fault_of}
use Rattle.clap.specs.ValueTests.{is_unsigned_in}
use Rattle.clap.specs.declared.builder.value_parser.ValueParser.TheVariants as parsers
use Rattle.clap.specs.declared.error.kind.ErrorKind.{ErrorKind}
use Rattle.clap.specs.declared.error.kind.ErrorKind.TheVariants as kinds
use Rattle.script_text.specs.Words.{◌>>=◌}
use Rattle.any_tracker.specs.Any.{mode_named, kind_for as tracker_kind}
use Rattle.tracker_trait.specs.Kind.{Kind}
use Rattle.tracker_trait.specs.declared.Tracking.{Tracking}
use Rattle.tracker_trait.specs.declared.Tracking.TheVariants as modes
use Rattle.mtr.specs.declared.command_line.Names.{Names}
use Rattle.mtr.specs.declared.options.LineFault.{LineFault}
use Rattle.mtr.specs.declared.options.LineFault.TheVariants as faults
use Rattle.mtr.specs.declared.options.Options.{Options}
use Rattle.mtr.specs.declared.options.Options.TheVariants.{Run, Threads, Decode}
use Rattle.mtr.specs.declared.options.Sides.{Sides}
use Rattle.mtr.specs.declared.options.Store.{Store}
use Rattle.mtr.specs.declared.options.Store.TheVariants as stores

-- the words of an option, which `clap` takes by reference: what it makes of a command line does not depend on where they lie
abbrev pub Choices : Type 0
Choices = Bor (List (Bor Text))

-- these are the words of `--tracker`, of `--store` and of `--commit-order`
abbrev pub AreNames : Names → Type 0
AreNames names = (map (λ w. w.now) names.trackers.now ≡ codes "commit-order" ∷ codes "writeset" ∷ codes "writeset-session" ∷ [])
    × (map (λ w. w.now) names.stores.now ≡ codes "btree" ∷ codes "vector" ∷ [])
    × (map (λ w. w.now) names.orders.now ≡ codes "on" ∷ codes "off" ∷ [])

-- the option `--NAME WORD` of one of these words, with this default
abbrev pub choice_rule : Text → Choices → Text → Rule
choice_rule name choices default = record (new_rule name) {
  long = Some name;
  parser = Some (parsers.Names choices);
  value_names = 1;
  defaults = default ∷ [];
}

-- the option `--NAME N` of a number from the least to the greatest, with this default
abbrev pub number_rule : Text → ℕ → ℕ → Text → Rule
number_rule name least greatest default = record (new_rule name) {
  long = Some name;
  parser = Some (parsers.Unsigned least greatest);
  value_names = 1;
  defaults = default ∷ [];
}

-- a subcommand of this name over both sides, with how the source finds parents and where rows are kept
abbrev pub source_app : Text → Names → App
source_app name names = with_rule (with_rule (with_rule (new_app name)
    (choice_rule (codes "tracker") names.trackers (codes "commit-order")))
    (choice_rule (codes "store") names.stores (codes "btree")))
    (number_rule (codes "history") 1 1000000 (codes "25000"))

-- the same, with how the replica applies
abbrev pub sides_app : Text → Names → App
sides_app name names = with_rule (with_rule (source_app name names)
    (number_rule (codes "workers") 1 64 (codes "4")))
    (choice_rule (codes "commit-order") names.orders (codes "on"))

-- the greatest number of a call of the log's device
abbrev pub most_calls : ℕ
most_calls = 9223372036854775807

-- `run`
abbrev pub run_app : Names → App
run_app names = with_rule (sides_app (codes "run") names)
    (number_rule (codes "fail") 0 most_calls (codes "0"))

-- `threads`
abbrev pub threads_app : Names → App
threads_app names = with_rule (with_rule (with_rule (sides_app (codes "threads") names)
    (number_rule (codes "sessions") 1 16 (codes "4")))
    (number_rule (codes "transactions") 1 1000 (codes "10")))
    (number_rule (codes "seats") 1 32 (codes "2"))

-- `decode`
abbrev pub decode_app : App
decode_app = new_app (codes "decode")

-- the words are those behind the program's name, and one of them has to be a subcommand; each has a version
abbrev pub program : Names → App
program names =
    let app = new_app (codes "mtr") in
    let top = record app.top { no_binary_name = true; subcommand_required = true; has_version = true; propagate_version = true } in
    with_subcommand (with_subcommand (with_subcommand (record app { top = top }) (run_app names).top) (threads_app names).top) decode_app.top

-- the number from the least to the greatest that an option has by the words, or by its default, as what was found has it
abbrev pub number_of : Text → ℕ → ℕ → List Row → Option ℕ
number_of name least greatest rows = do
  text ← one_of name rows
  if is_unsigned_in least greatest text then Some (digits_value 10 (without_leading_plus text)) else None

-- the mode that the words name, or the one by default
abbrev pub mode_of : List Row → Option Tracking
mode_of rows = option_and_then mode_named (first_of (codes "tracker") rows)

-- the store of this name
abbrev pub store_named : Text → Option Store
store_named name =
    if bytes_eq name (codes "btree") then Some stores.BTree
    else if bytes_eq name (codes "vector") then Some stores.Vector
    else None

-- the store that the words name, or the one by default
abbrev pub store_of : List Row → Option Store
store_of rows = option_and_then store_named (first_of (codes "store") rows)

-- whether the replica commits in the order of the log, by this name
abbrev pub preserve_named : Text → Option Bool
preserve_named name =
    if bytes_eq name (codes "on") then Some true
    else if bytes_eq name (codes "off") then Some false
    else None

-- whether it does by the words, or by default
abbrev pub preserve_of : List Row → Option Bool
preserve_of rows = option_and_then preserve_named (first_of (codes "commit-order") rows)

-- what both sides are made of
abbrev pub sides_of : List Row → Option Sides
sides_of rows = do
  tracker ← mode_of rows
  store ← store_of rows
  history ← number_of (codes "history") 1 1000000 rows
  workers ← number_of (codes "workers") 1 64 rows
  preserve ← preserve_of rows
  Some (record { tracker = tracker; store = store; history = history; workers = workers; preserve = preserve })

abbrev pub run_options : List Row → Option Options
run_options rows = do
  sides ← sides_of rows
  fail ← number_of (codes "fail") 0 most_calls rows
  Some (Run sides fail)

abbrev pub threads_options : List Row → Option Options
threads_options rows = do
  sides ← sides_of rows
  sessions ← number_of (codes "sessions") 1 16 rows
  transactions ← number_of (codes "transactions") 1 1000 rows
  seats ← number_of (codes "seats") 1 32 rows
  Some (Threads (record { sides = sides; sessions = sessions; transactions = transactions; seats = seats }))

-- what a subcommand of this name asks for, with what was found behind it
abbrev pub options_for : Text × List Row → Option Options
options_for found =
    if bytes_eq found.0 (codes "run") then run_options found.1
    else if bytes_eq found.0 (codes "threads") then threads_options found.1
    else if bytes_eq found.0 (codes "decode") then Some Decode
    else None

-- what the words ask for: the subcommand that they name, and the names and the numbers of its options
abbrev pub options_of : Names → List Text → Option Options
options_of names words = option_and_then options_for (subcommand_of (program names) words)

-- the words ask for these options
pub record AsksFor (words : List Text) (asked : Options) : Type 0 where
  pub names : Names
  pub are : AreNames names
  pub named : options_of names words ≡ Some asked

-- a number from the least to the greatest
abbrev pub IsWithin : ℕ → ℕ → ℕ → Type 0
IsWithin least greatest n = (least ≤ n) × (n ≤ greatest)

-- a number from 1 to the greatest
abbrev pub IsUpTo : ℕ → ℕ → Type 0
IsUpTo = IsWithin 1

-- each number is in its range
abbrev pub AreSides : Sides → Type 0
AreSides sides = IsUpTo 1000000 sides.history × IsUpTo 64 sides.workers

abbrev pub IsInRange : Options → Type 0
IsInRange (Run sides fail) = AreSides sides × IsWithin 0 most_calls fail
IsInRange (Threads plan) = AreSides plan.sides × IsUpTo 16 plan.sessions × IsUpTo 1000 plan.transactions × IsUpTo 32 plan.seats
IsInRange Decode = Unit {0}

-- what both sides are made of by default
abbrev pub default_sides : Sides
default_sides = record { tracker = modes.CommitOrder; store = stores.BTree; history = 25000; workers = 4; preserve = true }

-- the name of a subcommand, and what it asks for where nothing stands behind it
abbrev pub IsByDefault : Text → Options → Type 0
IsByDefault name (Run sides fail) = (name ≡ codes "run") × (sides ≡ default_sides) × (fail ≡ 0)
IsByDefault name (Threads plan) = (name ≡ codes "threads") × (plan ≡ record { sides = default_sides; sessions = 4; transactions = 10; seats = 2 })
IsByDefault name Decode = name ≡ codes "decode"

-- whether an error of this kind is what the words asked for
abbrev pub is_asked : ErrorKind → Bool
is_asked kind = elim kind [ kinds.DisplayHelp ↦ true | kinds.DisplayVersion ↦ true | _ ↦ false ]

-- the fault that an error of this kind is
abbrev pub IsOfKind : ErrorKind → LineFault → Type 0
IsOfKind kind (faults.Line text) = is_asked kind ≡ false
IsOfKind kind (faults.Asked text) = is_asked kind ≡ true
IsOfKind kind faults.Memory = Unit {0}

abbrev pub is_mistake : ErrorKind → Bool
is_mistake kind = not (is_asked kind)

-- The fault is of a kind that an error at these words may have. A mistake is also told where the words ask for nothing that
-- is known, which is no error of clap's.
abbrev pub IsOfWords : Names → List Text → LineFault → Type 0
IsOfWords names words (faults.Line text) = ((fault_of (program names) words ≡ []) × (options_of names words ≡ None)) ⊎ (list_any is_mistake (fault_of (program names) words) ≡ true)
IsOfWords names words (faults.Asked text) = list_any is_asked (fault_of (program names) words) ≡ true
IsOfWords names words faults.Memory = Unit {0}

-- help and the version are told where the words ask for them, and faults of the command line where they don't
pub record TellsFaults (words : List Text) (answer : Result Options LineFault) : Type 0 where
  pub names : Names
  pub are : AreNames names
  pub told : MatchResult answer (λ _. fault_of (program names) words ≡ []) (IsOfWords names words)

-- what a tracker is made for that these options ask for
abbrev pub kind_for : Sides → Kind
kind_for sides = tracker_kind sides.tracker sides.history
