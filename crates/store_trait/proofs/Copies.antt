-- The batch of the rows that a walk has visited.
use Rattle.std.proofs.Common.{◌≡◌, ◌∙◌, sym, ap, refl, ℕ, ◌+◌, ℤ, Bool, true, false, cond, List, [], ◌∷◌, ◌++◌, Option, Some, None, option_map, is_some}
use Rattle.std.specs.FinMap.{get, len, find}
use Rattle.std.specs.FinMap.Entries.{find-append}
use Rattle.std.proofs.lemmas.Bool.{false≢true}
use Rattle.schema.specs.declared.Table.{Table}
use Rattle.schema.specs.declared.RowId.{RowId}
use Rattle.schema.specs.RowId.{row_cmp, row_total, same_row}
use Rattle.rows.specs.Database.{Database}
use Rattle.store_trait.specs.Batch.{Entry, IsRising, all_rows}
use Rattle.store_trait.specs.Walk.{IsFirst, IsAhead}
use Rattle.rows.proofs.Apply.{row_is}
use Rattle.store_trait.proofs.Batches.{same_batch, all_rows_rise, find-all_rows}
use Rattle.store_trait.proofs.Rising.{rising_push}
use Rattle.store_trait.proofs.Visits.{is_visited, Visits, none_visited, visit, all_visited, visited_before, choice_on, ahead_unvisited}

-- the entries are the visited rows
pub record Copies (ts : List Table) (db : Database) (last : Option RowId) (count : ℕ) (entries : List Entry) : Type 0 where
  pub visits : Visits ts db last count
  pub rising : IsRising entries
  pub same : (q : RowId) → find row_cmp q entries ≡ cond (is_visited ts last q) (option_map Some (get db q)) None

pub none_copied : (ts : List Table) (db : Database) → Copies ts db None 0 []
none_copied ts db = record { visits = none_visited ts db; rising = refl; same = λ q. refl }

found_visited : (b : Bool) (o : Option (Option (List ℤ))) → is_some (cond b o None) ≡ true → b ≡ true
found_visited true o h = refl
found_visited false o h = absurd (false≢true h)

module _ (ts : List Table) (db : Database) (last : Option RowId) (count : ℕ) (entries : List Entry) (h : Copies ts db last count entries) where
  -- the next row goes to the end
  pub copies_on : (id : RowId) (columns : List ℤ) → IsFirst db (IsAhead ts last) id columns → Copies ts db (Some id) (count + 1) (entries ++ (id, Some columns) ∷ [])
  copies_on id columns first = record {
    visits = visit ts db last count h.visits id columns first;
    rising = rising_push entries id (Some columns) h.rising (λ q found.
        visited_before ts last q id (found_visited (is_visited ts last q) (option_map Some (get db q)) (sym (ap is_some (h.same q)) ∙ found)) first.counted.1);
    same = λ q. find-append row_cmp row_total entries id (Some columns) q absent ∙ pushed q;
  }
    where
      absent : find row_cmp id entries ≡ None
      absent = h.same id ∙ ap (λ b. cond b (option_map Some (get db id)) None) (ahead_unvisited ts last id first.counted)

      here : (q : RowId) (b : Bool) (found : Option (Option (List ℤ))) → same_row q id ≡ b → cond b (Some (Some columns)) found ≡ cond b (option_map Some (get db q)) found
      here q true found same = ap (option_map Some) (sym first.there ∙ ap (get db) (sym (row_is q id same)))
      here q false found other = refl

      pushed : (q : RowId) → cond (same_row q id) (Some (Some columns)) (find row_cmp q entries) ≡ cond (is_visited ts (Some id) q) (option_map Some (get db q)) None
      pushed q =
          here q (same_row q id) (find row_cmp q entries) refl
          ∙ ap (cond (same_row q id) (option_map Some (get db q))) (h.same q)
          ∙ choice_on ts db last id columns q (option_map Some (get db q)) None first (ap (option_map Some))

  -- where as many are visited as there are, these are all rows
  pub all_copied : count ≡ len db → entries ≡ all_rows db
  all_copied all = same_batch entries (all_rows db) h.rising (all_rows_rise db) (λ q. h.same q ∙ seen q (get db q) refl ∙ sym (find-all_rows db q))
    where
      seen : (q : RowId) (o : Option (List ℤ)) → get db q ≡ o → cond (is_visited ts last q) (option_map Some o) None ≡ option_map Some o
      seen q None is = elim (is_visited ts last q) as (λ b. cond {A = Option (Option (List ℤ))} b None None ≡ None) [ true ↦ refl | false ↦ refl ]
      seen q (Some columns) is = ap (λ b. cond b (Some (Some columns)) None) (all_visited ts db last count h.visits all q columns is)
