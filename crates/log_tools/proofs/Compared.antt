-- Two logs that are compared by what they were replayed to.
use Rattle.std.proofs.Common.{◌≡◌, ◌∙◌, sym, ap, subst, ℕ, ◌≤◌, min, Bool, List, length, take, arith, Option, Some, unwrap_or}
use Rattle.std.proofs.lemmas.List.{length-take}
use Rattle.schema.specs.declared.Table.{Table}
use Rattle.rows.specs.Database.{Database}
use Rattle.store_trait.specs.Operation.{loaded}
use Rattle.record_codec.specs.declared.records.Record.{Record}
use Rattle.record_codec.specs.Log.{after}
use Rattle.recovery.specs.Recovery.{Recovered}
use Rattle.file_device.specs.OnFile.{OnFile}
use Rattle.stored_log.specs.declared.copying.NoFile.{NoFile}
use Rattle.log_set.specs.Set.{SetOn}
use Rattle.log_tools.specs.declared.describing.Described.{Described}
use Rattle.log_tools.specs.Diff.{Tells}
use Rattle.log_tools.specs.Logs.{IsLogOf, ComparesRecords, ComparesLogs}

leaves_along : (ts us : List Table) (a b : Database) (log : List Record) (rows : Database) → ts ≡ us → a ≡ b → after ts a log ≡ Some rows → after us b log ≡ Some rows
leaves_along ts us a b log rows tables base leaves =
    subst (λ (db : Database). after us db log ≡ Some rows) base (subst (λ (ls : List Table). after ls a log ≡ Some rows) tables leaves)

-- what is told of two logs that were replayed
pub compared : (alike : Bool) (mine theirs : Described) (left right : Recovered) (my_records their_records : List Record) (my_rows their_rows : Database) (a b : Option (List ℕ)) →
    left.tables ≡ mine.head.schema → right.tables ≡ theirs.head.schema → loaded left.base ≡ loaded mine.head.base → loaded right.base ≡ loaded theirs.head.base →
    my_records ≡ left.log → their_records ≡ right.log →
    after left.tables (loaded left.base) left.log ≡ Some my_rows → after right.tables (loaded right.base) right.log ≡ Some their_rows →
    Tells alike mine.head.schema theirs.head.schema my_records their_records my_rows their_rows a b → ComparesRecords alike mine theirs left.log right.log a b
compared alike mine theirs left right my_records their_records my_rows their_rows a b my_tables their_tables my_base their_base my_log their_log my_leave their_leave tells =
    record {
      my_rows = my_rows;
      their_rows = their_rows;
      mine_leave = leaves_along left.tables mine.head.schema (loaded left.base) (loaded mine.head.base) left.log my_rows my_tables my_base my_leave;
      theirs_leave = leaves_along right.tables theirs.head.schema (loaded right.base) (loaded theirs.head.base) right.log their_rows their_tables their_base their_leave;
      tells =
          subst (λ (l : List Record). Tells alike mine.head.schema theirs.head.schema left.log l my_rows their_rows a b) their_log
          (subst (λ (l : List Record). Tells alike mine.head.schema theirs.head.schema l their_records my_rows their_rows a b) my_log tells);
    }

has_count : (count : ℕ) (records all : List Record) → records ≡ take count all → length records ≡ count → count ≤ length all
has_count count records all are many =
    let whole : length (take count all) ≡ count = ap (λ (l : List Record). length l) (sym are) ∙ many in
    omega (arith, length-take count all, whole)

-- and of the logs, of which these records are the first
pub compared_logs : (alike : Bool) (upto : Option ℕ) (mine theirs : Described) (my_set their_set : SetOn (OnFile NoFile)) (count : ℕ) (my_records their_records : List Record) (a b : Option (List ℕ)) →
    IsLogOf mine my_set → IsLogOf theirs their_set → count ≡ unwrap_or upto (min (length my_set.log.records) (length their_set.log.records)) →
    my_records ≡ take count my_set.log.records → their_records ≡ take count their_set.log.records → length my_records ≡ count → length their_records ≡ count →
    ComparesRecords alike mine theirs my_records their_records a b → ComparesLogs alike upto a b
compared_logs alike upto mine theirs my_set their_set count my_records their_records a b mine_is theirs_is is my_are their_are my_many their_many compares =
    record {
      mine = mine;
      theirs = theirs;
      my_set = my_set;
      their_set = their_set;
      mine_is = mine_is;
      theirs_is = theirs_is;
      count = count;
      count_is = is;
      mine_has = has_count count my_records my_set.log.records my_are my_many;
      theirs_has = has_count count their_records their_set.log.records their_are their_many;
      compares =
          subst (λ (l : List Record). ComparesRecords alike mine theirs (take count my_set.log.records) l a b) their_are
          (subst (λ (l : List Record). ComparesRecords alike mine theirs l their_records a b) my_are compares);
    }

-- as many as were asked for, or as both have
pub counted : (upto : Option ℕ) (count both mine theirs : ℕ) (my_records their_records : List Record) → count ≡ unwrap_or upto both →
    both ≡ min mine theirs → mine ≡ length my_records → theirs ≡ length their_records → count ≡ unwrap_or upto (min (length my_records) (length their_records))
counted upto count both mine theirs my_records their_records is both_is my_are their_are = cc
