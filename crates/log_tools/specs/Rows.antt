-- What a log leaves, as text.
use Rattle.std.specs.Prelude.{◌≡◌, ℕ, List, ◌++◌, take, Option, Some, None}
use Rattle.std.specs.Io.KnownBytes.{Appends}
use Rattle.schema.specs.declared.Table.{Table}
use Rattle.rows.specs.Database.{Database}
use Rattle.store_trait.specs.Batch.{Entry, all_rows}
use Rattle.store_trait.specs.Operation.{loaded}
use Rattle.record_codec.specs.declared.records.Record.{Record}
use Rattle.record_codec.specs.Log.{after}
use Rattle.log_tools.specs.Head.{tables_text, entries_text}

-- this many of the records, or all of them
abbrev pub first_of : Option ℕ → List Record → List Record
first_of None records = records
first_of (Some upto) records = take upto records

-- Of these tables, and of the rows that the batch loads, the tables are printed, and the rows that these records leave.
pub record PrintsRows (tables : List Table) (base : List Entry) (records : List Record) (upto : Option ℕ) (before printed : Option (List ℕ)) : Type 0 where
  pub rows : Database
  pub left : after tables (loaded base) (first_of upto records) ≡ Some rows
  pub text : Appends before printed (tables_text tables ++ entries_text (all_rows rows))
