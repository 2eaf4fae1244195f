-- Gapped states: what some records of a log leave, where with each of them each earlier one is among them that conflicts with it.
use Rattle.std.specs.Prelude.{◌≡◌, ℕ, ◌+◌, ◌-◌, true, false, if◌then◌else◌, List, [], ◌∷◌, ◌++◌, slice_get, Option, Some}
use Rattle.std.specs.List.{AllByRecursion}
use Rattle.std.specs.Option.{option_map_or}
use Rattle.schema.specs.declared.Table.{Table}
use Rattle.schema.specs.Rows.{conflicts}
use Rattle.rows.specs.Database.{Database}
use Rattle.record_codec.specs.declared.records.Record.{Record}
use Rattle.record_codec.specs.Log.{after, touched}
use Rattle.executor.specs.Laws.{IsGood}
use Rattle.scheduler.specs.Gnos.{has_gno}

-- the records of these numbers, in log order
abbrev pub chosen : List ℕ → List Record → List Record
chosen gnos [] = []
chosen gnos (next ∷ log) = if has_gno gnos next.gno then next ∷ chosen gnos log else chosen gnos log

-- what they leave of a base, one after another in log order
abbrev pub gapped : List Table → Database → List Record → List ℕ → Option Database
gapped ts base log gnos = after ts base (chosen gnos log)

-- each of these that conflicts with the record is chosen
abbrev pub AreChosen : List ℕ → List Record → Record → Type 0
AreChosen gnos front next =
    AllByRecursion (λ (before : Record). conflicts (touched before) (touched next) ≡ true → has_gno gnos before.gno ≡ true) front

-- with each record that is chosen each earlier one is that conflicts with it
abbrev pub IsClosed : List ℕ → List Record → Type 0
IsClosed gnos log = (front : List Record) (next : Record) (rest : List Record) →
    log ≡ front ++ next ∷ rest → has_gno gnos next.gno ≡ true → AreChosen gnos front next

-- each record is good over what those before it leave
abbrev pub AreGood : List Table → Database → List Record → Type 0
AreGood ts db [] = Unit {0}
AreGood ts db (next ∷ log) = (good : IsGood ts next db) × AreGood ts good.leaves log

-- the records of these numbers, in the order of the numbers
abbrev pub records_at : List Record → List ℕ → List Record
records_at log [] = []
records_at log (gno ∷ gnos) = option_map_or (λ (r : Record). r ∷ records_at log gnos) (slice_get log (gno - 1)) (records_at log gnos)

-- A commit that may come behind these: of a record of the log that is not among them, while each earlier one is that conflicts with
-- it; and the record is good over what they left.
pub record MayCommit (ts : List Table) (base : Database) (log : List Record) (gnos : List ℕ) (gno : ℕ) : Type 0 where
  pub rec : Record
  pub front : List Record
  pub rest : List Record
  pub split : log ≡ front ++ rec ∷ rest
  pub number : rec.gno ≡ gno
  pub new : has_gno gnos gno ≡ false
  pub chosen_ : AreChosen gnos front rec
  pub rows : Database
  pub rows_are : after ts base (records_at log gnos) ≡ Some rows
  pub good : IsGood ts rec rows

-- each of the commits may come behind those before it
abbrev pub AreCommits : List Table → Database → List Record → List ℕ → Type 0
AreCommits ts base log gnos = (front : List ℕ) (gno : ℕ) (rest : List ℕ) → gnos ≡ front ++ gno ∷ rest → MayCommit ts base log front gno
