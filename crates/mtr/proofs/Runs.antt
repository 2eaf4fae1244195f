-- Runs that go on from one another.
use Rattle.std.proofs.Common.{◌≡◌, ◌∙◌, sym, ap, ℕ, ℤ, ◌+◌, ◌<◌, get_or, take, drop, length, Bool, List, [], ◌∷◌, ◌++◌, Result, Ok, Err, Option, Some, append_assoc, append-nil, subst, inl}
use Rattle.std.proofs.KnownBytes.{Appends-trans, Appends-nil}
use Rattle.std.proofs.lemmas.Grind.{flat_map-append}
use Rattle.rows.specs.Database.{Database}
use Rattle.tracker_trait.specs.Kind.{Kind}
use Rattle.world.specs.declared.events.Event.{Event}
use Rattle.world.specs.declared.events.Reply.{Reply}
use Rattle.world.specs.Legal.{Setup}
use Rattle.world.specs.Run.{HasRun}
use Rattle.world.specs.State.{World}
use Rattle.world.proofs.LawsOne.{only_answer}
use Rattle.std.specs.Result.{IfErr, OnOk}
use Rattle.std.specs.Io.KnownBytes.{Appends}
use Rattle.std.proofs.lemmas.Result.{on_ok_weaker}
use Rattle.mtr.specs.declared.ending.Stop.{Stop}
use Rattle.mtr.specs.Ending.{IsCutOff, PrintsNoReply}
use Rattle.mtr.specs.Script.{Said}
use Rattle.mtr.specs.Events.{events_of}
use Rattle.mtr.proofs.EventLists.{next_event}
use Rattle.script_text.specs.declared.kept.KeptEvent.{KeptEvent}
use Rattle.script_text.specs.Kept.{width_of, event_of}
use Rattle.mtr.specs.Pair.{BeginsWith, GoesOn, Prints, setup_of}
use Rattle.script_text.specs.Printing.{line_of, lines_of}
use Rattle.script_text.proofs.Pieces.{along}

run_along : {D R : Type 0} (contents : R → Database) (setup : Setup) (es fs : List Event) (rs ss : List Reply) (w : World D R) → es ≡ fs → rs ≡ ss → HasRun contents setup es rs w →
    HasRun contents setup fs ss w
run_along contents setup es fs rs ss w e r h =
    let P : List Event → Type 0 = λ x. HasRun contents setup x ss w in
    let Q : List Reply → Type 0 = λ x. HasRun contents setup es x w in
    subst P e (subst Q r h)

-- nothing was done
pub goes_nowhere : {D R : Type 0} (contents : R → Database) (w : World D R) (before : Option (List ℕ)) → GoesOn contents w w [] before before
goes_nowhere contents w before = record {
  replies = [];
  goes_on = λ setup es rs h. run_along contents setup es (es ++ []) rs (rs ++ []) w (sym (append-nil es)) (sym (append-nil rs)) h;
  lines = Appends-nil before;
}

-- one piece more
pub goes_further : {D R : Type 0} (contents : R → Database) (old now new : World D R) (events piece : List Event) (before printed after : Option (List ℕ))
    → GoesOn contents old now events before printed → GoesOn contents now new piece printed after → GoesOn contents old new (events ++ piece) before after
goes_further contents old now new events piece before printed after so_far more = record {
  replies = so_far.replies ++ more.replies;
  goes_on = λ setup es rs h.
      run_along contents setup ((es ++ events) ++ piece) (es ++ (events ++ piece)) ((rs ++ so_far.replies) ++ more.replies) (rs ++ (so_far.replies ++ more.replies)) new
      (append_assoc es events piece) (append_assoc rs so_far.replies more.replies)
      (more.goes_on setup (es ++ events) (rs ++ so_far.replies) (so_far.goes_on setup es rs h));
  lines = along before after _ _ (sym (flat_map-append line_of so_far.replies more.replies)) (Appends-trans before printed after _ _ so_far.lines more.lines);
}

-- one event
pub goes_one : {D R T E : Type 0} (contents : R → Database) (old new : World D R) (event : Event) (reply : Reply) (before after : Option (List ℕ)) (r : Result T E)
    → ((setup : Setup) (es : List Event) (rs : List Reply) → HasRun contents setup es rs old → HasRun contents setup (es ++ event ∷ []) (rs ++ reply ∷ []) new)
    → OnOk r (Appends before after (line_of reply)) → OnOk r (GoesOn contents old new (event ∷ []) before after)
goes_one contents old new event reply before after r goes_on lines =
    on_ok_weaker r (λ one. record { replies = reply ∷ []; goes_on = goes_on; lines = along before after (line_of reply) (line_of reply ++ []) (sym (append-nil (line_of reply))) one }) lines

-- a piece whose lines were put together, and then printed
pub printed_from : {D R : Type 0} (contents : R → Database) (old new : World D R) (piece : List Event) (had text : List ℕ) (before after : Option (List ℕ)) → had ≡ [] →
    GoesOn contents old new piece (Some had) (Some text) → Appends before after text → GoesOn contents old new piece before after
printed_from contents old new piece had text before after none goes printed = record {
  replies = goes.replies;
  goes_on = goes.goes_on;
  lines = along before after text (lines_of goes.replies) (goes.lines ∙ ap (λ l. l ++ lines_of goes.replies) none) printed;
}

-- all events of a list
pub goes_over : {D R : Type 0} (contents : R → Database) (old new : World D R) (events rest all : List Event) (before after : Option (List ℕ)) → events ++ rest ≡ all → rest ≡ [] →
    GoesOn contents old new events before after → GoesOn contents old new all before after
goes_over contents old new events rest all before after e none goes =
    subst (λ (es : List Event). GoesOn contents old new es before after) (sym (append-nil events) ∙ ap (λ r. events ++ r) (sym none) ∙ e) goes

pub behind_piece : (events rest piece behind all : List Event) → events ++ rest ≡ all → rest ≡ piece ++ behind → (events ++ piece) ++ behind ≡ all
behind_piece events rest piece behind all e cut = append_assoc events piece behind ∙ ap (λ r. events ++ r) (sym cut) ∙ e

-- the events so far were run, and they and those that are left are all
abbrev pub HasRunSome : {D R : Type 0} → (R → Database) → World D R → World D R → List KeptEvent → List ℤ → List Event → Option (List ℕ) → Option (List ℕ) → Type 0
HasRunSome contents old now kept columns all before printed = (events : List Event) × (events ++ events_of kept columns ≡ all) × GoesOn contents old now events before printed

-- one more
pub runs_one : {D R : Type 0} (contents : R → Database) (old now new : World D R) (kept : List KeptEvent) (i n : ℕ) (d : KeptEvent) (columns own rest : List ℤ) (all : List Event)
    (before printed after : Option (List ℕ)) → i < length kept → n ≡ width_of (get_or kept i d) → own ≡ take n columns → rest ≡ drop n columns →
    HasRunSome contents old now (drop i kept) columns all before printed → GoesOn contents now new (event_of (get_or kept i d) own ∷ []) printed after →
    HasRunSome contents old new (drop (i + 1) kept) rest all before after
runs_one contents old now new kept i n d columns own rest all before printed after below width took left done goes =
    let event = event_of (get_or kept i d) own ∷ [] in (
      done.0 ++ event,
      behind_piece done.0 (events_of (drop i kept) columns) event (events_of (drop (i + 1) kept) rest) all done.1 (next_event kept i n d columns own rest below width took left),
      goes_further contents old now new done.0 event before printed after done.2 goes,
    )

-- what a new world prints that goes on by the events of a script
pub prints : {D R : Type 0} (contents : R → Database) (script : Said) (kind : Kind) (workers : ℕ) (preserve : Bool) (old new : World D R) (before after : Option (List ℕ)) →
    BeginsWith contents kind workers preserve script.tables script.base old → GoesOn contents old new script.events before after → Prints kind workers preserve script before after
prints contents script kind workers preserve old new before after begins goes =
    let setup = setup_of kind script.tables begins.base workers preserve in
    let legal = (goes.goes_on setup [] [] begins.starts).legal in
    record {
      base = begins.base;
      given = begins.given;
      replies = goes.replies;
      log = new.source.log;
      legal = legal;
      only = only_answer setup new.source.log script.events goes.replies legal;
      lines = goes.lines;
    }

-- a run that is cut off prints no reply, or a beginning of them
pub cut_off : (result : Result (Unit {0}) Stop) (before after : Option (List ℕ)) → IfErr result IsCutOff → IfErr result (PrintsNoReply before after)
cut_off (Ok done) before after h = tt
cut_off (Err stop) before after h = inl h
