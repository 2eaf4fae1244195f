use Rattle.std.proofs.Common.{◌≡◌, ◌≤◌, ◌+◌, count_ones, length, take, drop, ◌++◌}
use Rattle.std.specs.Option.{option_map}
use Rattle.rows.specs.Naming.{assigned_from}
use Rattle.rows.proofs.naming.assign.Given as goal

abbrev pub invariant-loop-column : goal.invariant-loop-column
invariant-loop-column l = record {
  room : count_ones l.rest + l.used ≤ length l.values;
  so_far : assigned_from l.fn.mask l.values l.initial.columns ≡ option_map (λ rest. take l.column-index l.columns ++ rest)
      (assigned_from l.rest (drop l.used l.values) (drop l.column-index l.columns));
}
