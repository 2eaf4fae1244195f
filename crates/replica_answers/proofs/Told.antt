-- Answers that are told one after another.
use mathlib.Core.List.{IsPrefix}
use base.Growing.{prefix_refl}
use Rattle.std.proofs.Common.{◌≡◌, sym, subst, refl, List, [], ◌∷◌, ◌++◌, ℕ, ◌≤◌, append-nil, Option, Some, None, IfSome, Result, Ok, Err}
use Rattle.std.specs.Prelude.{OnOk, IsErrAnd}
use Rattle.std.specs.Io.KnownBytes.{Appends, Keeps}
use Rattle.std.proofs.lemmas.Grind.{flat_map-append}
use Rattle.std.proofs.KnownBytes.{Appends-nil, Appends-trans, Appends-kept}
use Rattle.schema.specs.declared.RowId.{RowId}
use Rattle.store_trait.specs.declared.Op.{Op}
use Rattle.store_trait.specs.declared.Op.TheVariants.{Load}
use Rattle.replica_shared.specs.Names.{ReplicaNames, replica_names}
use Rattle.log_tools.specs.declared.ending.Stop.{Stop}
use Rattle.log_tools.specs.declared.ending.Stop.TheVariants as stops
use Rattle.replica_answers.specs.Replica.{TellsRead, IsOverWire}
use Rattle.published.specs.History.{commits_in}
use Rattle.replica_core.specs.Replica.{Replica}
use Rattle.replica_answers.specs.declared.reading.Waited.{Waited}
use Rattle.replica_answers.specs.declared.reading.Waited.TheVariants as waits
use Rattle.replica_answers.specs.Followed.{log_in}
use Rattle.replica_answers.specs.Conversation.{Answer, read, IsWaited, answer_text, answers_text, IsTrueOf, Follows, TellsAll, Converses}
use Rattle.replica_answers.specs.Conversation.{OrLost, UnlessLost, promoted_text, TellsPromoted, IsOfWire, AnswersAs, Answers}

-- ---- answers

follows_more : (names : ReplicaNames) (old mid new : List Op) (first later : List Answer) → Follows names old first mid → Follows names mid later new → Follows names old (first ++ later) new
follows_more names old mid new [] later is then = subst (λ (l : List Op). Follows names l later new) is then
follows_more names old mid new (answer ∷ first) later is then = (is.0, is.1, is.2, follows_more names is.0 mid new first later is.3 then)

-- nothing is told
pub tells_none : (names : ReplicaNames) (seen : List Op) (told : Option (List ℕ)) → TellsAll names seen seen told told
tells_none names seen told = record { answers = []; follows = refl; text = Appends-nil told }

-- one answer is
pub tells_one : (names : ReplicaNames) (old new : List Op) (before printed : Option (List ℕ)) (answer : Answer) → IsPrefix old new → IsTrueOf names answer new →
    Appends before printed (answer_text names.source answer) → TellsAll names old new before printed
tells_one names old new before printed answer later is text = record {
  answers = answer ∷ [];
  follows = (new, later, is, refl);
  text = subst (Appends before printed) (sym (append-nil (answer_text names.source answer))) text;
}

-- an answer that needs nothing to be true
pub tells_plain : (names : ReplicaNames) (seen : List Op) (before printed : Option (List ℕ)) (answer : Answer) → IsTrueOf names answer seen →
    Appends before printed (answer_text names.source answer) → TellsAll names seen seen before printed
tells_plain names seen before printed answer is text = tells_one names seen seen before printed answer (prefix_refl seen) is text

-- answers are, and then others
pub tells_then : {names : ReplicaNames} {old mid new : List Op} {before told printed : Option (List ℕ)} → TellsAll names old mid before told → TellsAll names mid new told printed →
    TellsAll names old new before printed
tells_then {names} {old} {mid} {new} {before} {told} {printed} one other = record {
  answers = one.answers ++ other.answers;
  follows = follows_more names old mid new one.answers other.answers one.follows other.follows;
  text = subst (Appends before printed) (sym (flat_map-append (answer_text names.source) one.answers other.answers))
      (Appends-trans before told printed (answers_text names.source one.answers) (answers_text names.source other.answers) one.text other.text);
}

-- what was written stays as it is
pub tells_kept : {names : ReplicaNames} {old new : List Op} {before told printed : Option (List ℕ)} → TellsAll names old new before told → Keeps told printed → TellsAll names old new before printed
tells_kept {names} {old} {new} {before} {told} {printed} one kept = record {
  answers = one.answers;
  follows = one.follows;
  text = Appends-kept before told printed (answers_text names.source one.answers) one.text kept;
}

-- a row is
pub tells_row : {names : ReplicaNames} {id : RowId} {old new : List Op} {before printed : Option (List ℕ)} → TellsRead names id old new before printed → TellsAll names old new before printed
tells_row {names} {id} {old} {new} {before} {printed} tells =
    tells_one names old new before printed (read id new) tells.later (refl, tells.history, tells.of_log) tells.line

-- what waiting came to
pub is_waited : (gno : ℕ) (came : Waited) (seen : List Op) → (came ≡ waits.Published → gno ≤ commits_in seen) → IsWaited gno came seen
is_waited gno waits.Published seen has = has refl
is_waited gno waits.Never seen has = tt
is_waited gno (waits.Stopped fault) seen has = tt

-- ---- unless a stream failed or memory ran out

-- what holds anyway
pub anyway : (stop : Stop) (holds : Type 0) → holds → OrLost stop holds
anyway stop holds is = elim stop as (λ s. OrLost s holds) [ stops.Memory ↦ tt | stops.Stream ↦ tt | _ ↦ is ]

-- what follows of it
pub or_lost : (stop : Stop) (P Q : Type 0) → OrLost stop P → (P → Q) → OrLost stop Q
or_lost stop P Q is then = elim stop as (λ s. OrLost s P → OrLost s Q) [ stops.Memory ↦ λ u. tt | stops.Stream ↦ λ u. tt | _ ↦ then ] is

-- the same of a call that stops for what another one stopped for
pub lost_then : {A : Type 0} (result : Result A Stop) (stop : Stop) (P Q : Type 0) → IsErrAnd result (λ e. e ≡ stop) → OrLost stop P → (P → Q) → UnlessLost result Q
lost_then (Ok x) stop P Q same is then = absurd same
lost_then (Err e) stop P Q same is then = or_lost e P Q (subst (λ (s : Stop). OrLost s P) (sym same) is) then

-- the same of a call that may fail in any way
pub on_ok : {T E : Type 0} {P Q : Type 0} (r : Result T E) → OnOk r P → (P → Q) → OnOk r Q
on_ok (Ok x) is then = then is
on_ok (Err e) is then = tt

-- the same of a call
pub lost_any : {A : Type 0} (result : Result A Stop) (holds : Type 0) → holds → UnlessLost result holds
lost_any (Ok x) holds is = is
lost_any (Err stop) holds is = anyway stop holds is

-- what follows of it
pub unless_then : {A : Type 0} (result : Result A Stop) (P Q : Type 0) → UnlessLost result P → (P → Q) → UnlessLost result Q
unless_then (Ok x) P Q is then = then is
unless_then (Err stop) P Q is then = or_lost stop P Q is then

-- of a call that did not stop
pub told_by : {A : Type 0} (result : Result A Stop) (x : A) (holds : Type 0) → result ≡ Ok x → UnlessLost result holds → holds
told_by {A} result x holds same is = subst (λ (r : Result A Stop). UnlessLost r holds) same is

-- of a call that stopped
pub stopped_by : {A : Type 0} (result : Result A Stop) (stop : Stop) (holds : Type 0) → result ≡ Err stop → UnlessLost result holds → OrLost stop holds
stopped_by {A} result stop holds same is = subst (λ (r : Result A Stop). UnlessLost r holds) same is

-- what follows if it is Ok
pub ok_then : {A : Type 0} (result : Result A Stop) (P Q : Type 0) → UnlessLost result P → (P → Q) → OnOk result Q
ok_then (Ok x) P Q is then = then is
ok_then (Err stop) P Q is then = tt

-- ---- the whole output

-- no log was made
pub answers_ended : (names : ReplicaNames) (before told : Option (List ℕ)) → Converses names before told → AnswersAs names before told
answers_ended names before told converses = record { told = told; converses = converses; count = 0; promoted = (None, Appends-nil told) }

-- nothing was told
pub answers_none : (names : ReplicaNames) (told : Option (List ℕ)) → AnswersAs names told told
answers_none names told = answers_ended names told told (Load names.base ∷ [], tells_none names (Load names.base ∷ []) told)

-- a log was made or none
pub answers_promoted : (names : ReplicaNames) (before told printed : Option (List ℕ)) (source : List ℕ) (count : ℕ) → Converses names before told → source ≡ names.source →
    TellsPromoted source count told printed → AnswersAs names before printed
answers_promoted names before told printed source count converses same promoted = record {
  told = told;
  converses = converses;
  count = count;
  promoted = subst (λ (s : List ℕ). TellsPromoted s count told printed) same promoted;
}

-- the names of a replica of a wire are those that its bytes say
pub of_wire : (bytes left : Option (List ℕ)) (r : Replica) → IfSome bytes (λ all. IsOverWire all left r) → IfSome bytes (IsOfWire (record (replica_names r) { log = log_in left }))
of_wire None left r over = tt
of_wire (Some all) left r over = record { rows = over.rows; left = left; head = over.head; loads = over.loads; log = refl }

-- a replica of a wire's bytes answers as one of its names
pub answers_over : (bytes before printed left now : Option (List ℕ)) (r : Replica) → IfSome bytes (λ all. IsOverWire all left r) → now ≡ left →
    AnswersAs (record (replica_names r) { log = log_in now }) before printed → Answers bytes before printed
answers_over bytes before printed left now r over same answers =
    let names = λ (n : Option (List ℕ)). record (replica_names r) { log = log_in n } in
    record { names = names now; of_wire = subst (λ (n : Option (List ℕ)). IfSome bytes (IsOfWire (names n))) (sym same) (of_wire bytes left r over); answers = answers }

-- none was, and nothing was written
pub promoted_none : (source : List ℕ) (count : ℕ) (before now : Option (List ℕ)) → now ≡ before → TellsPromoted source count before now
promoted_none source count before now same = (None, subst (λ (b : Option (List ℕ)). Appends b now []) same (Appends-nil now))

-- one was, and nothing was written before
pub promoted_some : (source : List ℕ) (count : ℕ) (identifier : List ℕ) (before now printed : Option (List ℕ)) → now ≡ before →
    Appends now printed (promoted_text source count (Some identifier)) → TellsPromoted source count before printed
promoted_some source count identifier before now printed same text =
    (Some identifier, subst (λ (b : Option (List ℕ)). Appends b printed (promoted_text source count (Some identifier))) same text)
