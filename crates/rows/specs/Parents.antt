-- Which changes leave a child row without its parent, one list of them behind another, and which have no kin.
use Rattle.std.specs.Prelude.{◌≡◌, ◌*◌, ◌≤◌, false, List, [], ◌++◌, length, Some, is_some}
use Rattle.std.specs.List.{list_any}
use Rattle.schema.specs.declared.Table.{Table}
use Rattle.schema.specs.Schema.{link_of}
use Rattle.schema.specs.Flags.{is_fk}
use Rattle.schema.specs.Rows.{conflicts}
use Rattle.rows.specs.declared.Change.{Change}
use Rattle.rows.specs.Database.{Database, writes, effect, kin, touched_by, LeavesNoOrphan}

-- changes behind others leave no orphan where each of the two lists leaves none in its place
abbrev pub NoOrphanOfJoined : Type 0
NoOrphanOfJoined = (ts : List Table) (xs ys : List Change) (db mid : Database) →
    effect ts xs db ≡ Some mid → LeavesNoOrphan ts xs db → LeavesNoOrphan ts ys mid → LeavesNoOrphan ts (xs ++ ys) db

-- of two transactions that each apply to a database and do not conflict there, the second leaves no orphan behind the
-- first where it leaves none alone: a child of a row that it deletes was a child before the first, or the first gave
-- it that parent, which is then kin of the first
abbrev pub NoOrphanBehind : Type 0
NoOrphanBehind = (ts : List Table) (first second : List Change) (db mid leaves : Database) →
    effect ts first db ≡ Some mid → effect ts second db ≡ Some leaves →
    conflicts (touched_by ts first db) (touched_by ts second db) ≡ false →
    LeavesNoOrphan ts second db → LeavesNoOrphan ts second mid

-- a change has at most two kin: the parents of its row before it and after it
abbrev pub KinAreFew : Type 0
KinAreFew = (ts : List Table) (changes : List Change) (db : Database) → length (kin ts changes db) ≤ 2 * length changes

-- changes of no child table have no kin
abbrev pub NoKinOfOthers : Type 0
NoKinOfOthers = (ts : List Table) (changes : List Change) (db : Database) →
    list_any (λ row. is_some (link_of ts row.table)) (writes changes) ≡ false → kin ts changes db ≡ []

-- so a transaction that is not foreign-key related has none
abbrev pub NoKinUnrelated : Type 0
NoKinUnrelated = (ts : List Table) (changes : List Change) (db : Database) → is_fk ts (writes changes) ≡ false → kin ts changes db ≡ []
