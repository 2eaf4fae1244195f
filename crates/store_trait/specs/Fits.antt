-- Which rows a schema allows.
use Rattle.std.specs.Prelude.{◌≡◌, ℕ, ℤ, true, List, length, Some}
use Rattle.std.specs.FinMap.{get}
use Rattle.schema.specs.declared.Table.{Table}
use Rattle.schema.specs.declared.RowId.{RowId}
use Rattle.schema.specs.Rows.{Mark}
use Rattle.schema.specs.Schema.{table_at, unique_of}
use Rattle.rows.specs.Database.{Database, has_parent, mark_of}
use Rattle.rows.specs.Holders.{holder_of}
use Rattle.store_trait.specs.Contents.{HasValue, IsLeastWithValue}
use Rattle.store_trait.specs.Walk.{IsListed}

-- the row is of a table of the schema, has that table's columns, its parent, if the table has one, is there, and it is the row that
-- has its value in the unique column, if the table has one
pub record RowFits (ts : List Table) (db : Database) (id : RowId) (columns : List ℤ) : Type 0 where
  pub table : Table
  pub in_schema : table_at ts id.table ≡ Some table
  pub all_columns : length columns ≡ table.columns
  pub parent_there : has_parent ts db id.table columns ≡ true
  pub value_own : (mark : Mark) → mark_of ts id.table columns ≡ Some mark → holder_of ts db mark ≡ Some id.key

-- each row fits
abbrev pub Fits : List Table → Database → Type 0
Fits ts db = (id : RowId) (columns : List ℤ) → get db id ≡ Some columns → RowFits ts db id columns

-- the row stands, whatever values other rows have: it is of a table of the schema, has that table's columns, and its parent, if the
-- table has one, is there
pub record RowStands (ts : List Table) (db : Database) (id : RowId) (columns : List ℤ) : Type 0 where
  pub table : Table
  pub in_schema : table_at ts id.table ≡ Some table
  pub all_columns : length columns ≡ table.columns
  pub parent_there : has_parent ts db id.table columns ≡ true

-- each row stands
abbrev pub RowsStand : List Table → Database → Type 0
RowsStand ts db = (id : RowId) (columns : List ℤ) → get db id ≡ Some columns → RowStands ts db id columns

-- each row is of a table of the list
abbrev pub AreOfTables : List Table → Database → Type 0
AreOfTables ts db = (id : RowId) (columns : List ℤ) → get db id ≡ Some columns → IsListed ts id.table

-- each row of the table that has a value in the column is the first that has it
abbrev pub OwnInColumn : Database → ℕ → ℕ → Type 0
OwnInColumn db table column = (value key : ℤ) → HasValue db table column value key → IsLeastWithValue db table column value key

-- each row of the table is the first that has its value in the unique column, if the table has one
abbrev pub OwnInTable : List Table → Database → ℕ → Type 0
OwnInTable ts db table = (column : ℕ) → unique_of ts table ≡ Some column → OwnInColumn db table column
