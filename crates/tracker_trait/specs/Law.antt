-- What a tracker promises of the parents that it gives, and what it asks for.
use Rattle.std.specs.Prelude.{◌≡◌, ℕ, ◌+◌, ◌≤◌, true, false, List, [], ◌∷◌, ◌++◌, length, map, is_some}
use Rattle.std.specs.List.{list_all}
use Rattle.std.proofs.Common.{reverse}
use Rattle.schema.specs.declared.Table.{Table}
use Rattle.schema.specs.Covering.{Covers}
use Rattle.schema.specs.Schema.{table_at}
use Rattle.log_index.specs.declared.Entry.{Entry}
use Rattle.log_index.specs.declared.Footprint.{Footprint}
use Rattle.log_index.specs.Footprint.{touched, footprint_of}
use Rattle.log_index.specs.Log.{entry_place}
use Rattle.write_set.specs.Digest.{digests_of}
use Rattle.tracker_trait.specs.History.{last_of}

-- The order parent that a transaction may come with: it covers the transaction in the whole log, is the number of an
-- entry or 0, and is not before the session's last entry.
pub record IsOrderParent (log : List Entry) (t : Footprint) (session order : ℕ) : Type 0 where
  pub covers : Covers (map entry_place log) (touched t) order
  pub within : order ≤ length log
  pub own : last_of (reverse log) session ≤ order

-- The footprint's flags and the write set are those that the tables give. It writes rows of these tables, and refers to rows only
-- where it is foreign-key related.
pub record IsOfTables (ts : List Table) (t : Footprint) (w : List ℕ) : Type 0 where
  pub flags : t ≡ footprint_of ts t.writes t.refs t.marks
  pub known : list_all (λ r. is_some (table_at ts r.table)) t.writes ≡ true
  pub refs : t.flags.fk ≡ false → t.refs ≡ []
  pub set : w ≡ digests_of ts t

-- the log with the transaction behind it, under this parent
abbrev pub stamped : List Entry → Footprint → ℕ → ℕ → List Entry
stamped log t session parent = log ++ record { sequence = length log + 1; parent = parent; session = session; footprint = t } ∷ []
