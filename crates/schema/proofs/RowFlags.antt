-- The flags of a transaction, row by row.
use Rattle.std.proofs.Common.{◌≡◌, ◌∙◌, ap, Bool, ◌||◌, List, [], ◌∷◌, ◌++◌}
use Rattle.std.specs.Prelude.{is_some}
use Rattle.std.specs.List.{list_any}
use Rattle.std.proofs.Math.Bool.{or-false}
use Rattle.std.proofs.lemmas.List.Folds.{list_any-append}
use Rattle.schema.specs.declared.RowId.{RowId}
use Rattle.schema.specs.Schema.{link_of}
use Rattle.schema.specs.Flags.{is_parent, is_keyless}
use Rattle.schema.specs.Laws.{FlagsRowByRow}

any_more : (p : RowId → Bool) (rows : List RowId) (row : RowId) → list_any p (rows ++ row ∷ []) ≡ (list_any p rows || p row)
any_more p rows row = list_any-append p rows (row ∷ []) ∙ ap (λ b. list_any p rows || b) (or-false (p row))

pub flags_more : FlagsRowByRow
flags_more ts rows row =
    λ i. record {
      fk = any_more (λ r. is_some (link_of ts r.table) || is_parent ts r.table) rows row i;
      missing_keys = any_more (λ r. is_keyless ts r.table) rows row i;
    }
