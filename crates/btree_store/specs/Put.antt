-- The steps in which a batch is put.
use Rattle.std.specs.Prelude.{◌≡◌, ℤ, List, [], ◌∷◌, if◌then◌else◌, Option, Some, None, IfSome}
use Rattle.std.specs.List.{AllByRecursion}
use Rattle.std.specs.FinMap.{get, insert, remove, contains_key}
use Rattle.schema.specs.declared.RowId.{RowId}
use Rattle.rows.specs.Database.{Database}
use Rattle.store_trait.specs.Batch.{Entry}

-- with the row overwritten where it is there, or removed: what takes no memory
abbrev pub reset : Database → RowId → Option (List ℤ) → Database
reset db id None = remove db id
reset db id (Some columns) = if contains_key db id then insert db id columns else db

-- with these rows as they were, the last of them put back first
abbrev pub undo : List Entry → Database → Database
undo [] db = db
undo (e ∷ es) db = reset (undo es db) e.0 e.1

-- each row that the batch sets is there, as the batch has it
abbrev pub AreSet : Database → List Entry → Type 0
AreSet db entries = AllByRecursion (λ e. IfSome e.1 (λ columns. get db e.0 ≡ Some columns)) entries
