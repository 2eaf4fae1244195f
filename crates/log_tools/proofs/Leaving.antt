-- What a log leaves is what is printed.
use Rattle.std.proofs.Common.{◌≡◌, List, ℕ, ◌++◌, Option, Some, Result, Ok, Err}
use Rattle.std.specs.Io.KnownBytes.{Appends}
use Rattle.std.specs.Result.{OnOk}
use Rattle.schema.specs.declared.Table.{Table}
use Rattle.rows.specs.Database.{Database}
use Rattle.store_trait.specs.Batch.{Entry, all_rows}
use Rattle.store_trait.specs.Operation.{loaded}
use Rattle.record_codec.specs.declared.records.Record.{Record}
use Rattle.record_codec.specs.Log.{after}
use Rattle.log_tools.specs.Head.{tables_text, entries_text}
use Rattle.log_tools.specs.Rows.{PrintsRows, first_of}

pub prints_rows : {X E : Type 0} (r : Result X E) (ts : List Table) (base : List Entry) (records : List Record) (upto : Option ℕ) (before printed : Option (List ℕ)) (rows : Database) →
    after ts (loaded base) (first_of upto records) ≡ Some rows → OnOk r (Appends before printed (tables_text ts ++ entries_text (all_rows rows))) →
    OnOk r (PrintsRows ts base records upto before printed)
prints_rows (Ok x) ts base records upto before printed rows left text = record { rows = rows; left = left; text = text }
prints_rows (Err e) ts base records upto before printed rows left text = text
