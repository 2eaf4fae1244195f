-- What is kept of an event by its words.
use Rattle.std.proofs.Common.{◌≡◌, ◌∙◌, ap, subst, refl, ℕ, ℤ, Bool, true, false, cond, List, [], length, ◌==◌, Option, Some, None, Result}
use Rattle.std.specs.Prelude.{IfOk}
use Rattle.std.specs.Option.{option_map}
use Rattle.schema.specs.declared.RowId.{RowId}
use Rattle.rows.specs.declared.Change.{Change}
use Rattle.rows.specs.declared.Change.TheVariants.{Insert, Update}
use Rattle.world.specs.declared.events.Event.{Event}
use Rattle.world.specs.declared.events.Event.TheVariants as events
use Rattle.script_text.specs.declared.kept.KeptEvent.{KeptEvent}
use Rattle.script_text.specs.declared.kept.KeptEvent.TheVariants as kepts
use Rattle.script_text.specs.Words.{Word, ◌>>=◌, row_in, naming_in, PutsRow, PutsNamed}
use Rattle.script_text.specs.Command.{bare, written_of, write_of, insert_of, set_of}
use Rattle.script_text.specs.Kept.{Keeps, event_of}

-- what was kept is that of another event that is the same
pub keeps_as : {E : Type 0} (r : Result (Option KeptEvent) E) (event same : Option Event) (old new : List ℤ) → event ≡ same → IfOk r (λ found. Keeps event found old new) →
    IfOk r (λ found. Keeps same found old new)
keeps_as r event same old new e h = subst (λ o. IfOk r (λ found. Keeps o found old new)) e h

-- what is made of what was read
pub mapped : {A : Type 0} (kept : A → KeptEvent) (read : Option A) {found : Option KeptEvent} → found ≡ option_map kept read
    → option_map (λ k. event_of k []) found ≡ option_map (λ x. event_of (kept x) []) read
mapped kept None e = ap (option_map (λ k. event_of k [])) e
mapped kept (Some x) e = ap (option_map (λ k. event_of k [])) e

-- what is kept where a test holds
pub tested : (b : Bool) (given found : Option KeptEvent) (event : Option Event) → option_map (λ k. event_of k []) given ≡ event → found ≡ cond b given None →
    option_map (λ k. event_of k []) found ≡ cond b event None
tested true given found event is e = ap (option_map (λ k. event_of k [])) e ∙ is
tested false given found event is e = ap (option_map (λ k. event_of k [])) e

-- an event without parameters
pub bare_by : (words : List Word) (kept : KeptEvent) {found : Option KeptEvent} → found ≡ cond (length words == 0) (Some kept) None
    → option_map (λ k. event_of k []) found ≡ bare (event_of kept []) words
bare_by words kept {found = found} e = tested (length words == 0) (Some kept) found (Some (event_of kept [])) refl e

-- ---- writes with columns

module _ {T : Type 0} (read : List Word → Option T) (change : RowId → T → Change) (words : List Word) where
  pub write_unread : written_of words ≡ None → write_of read change words ≡ None
  unfolding write_of
  write_unread e = ap (λ o. o >>= λ at. read at.2 >>= λ columns. Some (events.Write at.0 (change at.1 columns))) e

  write_read : {rest : List Word} {session : ℕ} {id : RowId} {columns : Option T} → written_of words ≡ Some (session, id, rest) → read rest ≡ columns →
      write_of read change words ≡ (columns >>= λ own. Some (events.Write session (change id own)))
  unfolding write_of
  write_read {session = session} {id = id} e is =
      ap (λ o. o >>= λ at. read at.2 >>= λ columns. Some (events.Write at.0 (change at.1 columns))) e ∙ ap (λ o. o >>= λ own. Some (events.Write session (change id own))) is

  pub write_refused : {rest : List Word} {session : ℕ} {id : RowId} {old new : List ℤ} → written_of words ≡ Some (session, id, rest) → (read rest ≡ None) × (new ≡ old) →
      Keeps (write_of read change words) None old new
  write_refused e put = (write_read e put.0, put.1)

pub insert_kept : (words : List Word) {rest : List Word} {session table count : ℕ} {key : ℤ} (old new : List ℤ) → written_of words ≡ Some (session, record { table = table; key = key }, rest) →
    PutsRow (row_in rest) (Some count) old new → Keeps (insert_of words) (Some (kepts.Insert session table count key)) old new
insert_kept words old new e put = (put.0, write_read row_in (λ id columns. Insert id columns) words e put.1, put.2, (put.3, put.4), put.5)

pub set_kept : (words : List Word) {rest : List Word} {session table mask : ℕ} {key : ℤ} (old new : List ℤ) → written_of words ≡ Some (session, record { table = table; key = key }, rest) →
    PutsNamed (naming_in rest) (Some mask) old new → Keeps (set_of words) (Some (kepts.Update session table mask key)) old new
set_kept words old new e put = (put.0, write_read naming_in (λ id columns. Update id columns) words e put.1, put.2, put.3, put.4)
