use Rattle.std.proofs.Common.{◌≡◌, ◌∙◌, sym, ap, subst, ℕ, ◌+◌, ◌≤◌, List, arith}
use Rattle.std.specs.Map.{keys_of}
use Rattle.std.specs.FinMap.{len}
use Rattle.schema.specs.declared.Table.{Table}
use Rattle.schema.specs.declared.RowId.{RowId}
use Rattle.schema.specs.Rows.{Mark}
use Rattle.rows.specs.Database.{Database, NoValueTwice}
use Rattle.store_trait.specs.Batch.{Entry, IsRising, put_batch}
use Rattle.row_index.specs.Keys.{Keys, Indexes, marks_at, moved}
use Rattle.row_index.specs.Counts.{Counts, CountsChildren, Recounts, count_at, times_in, parents_at, parents_left}
use Rattle.row_index.proofs.Keys.{keys_follow}
use Rattle.row_index.proofs.Counts.{old_are_counted, children_move, children_are_rows, counts_follow}
use Rattle.source_core.proofs.stored.Stored.put.Goals as goal

-- The index and the counts follow a batch that is put.

-- what a batch that is put finds, and the rows that it leaves
record Putting (ts : List Table) (db next : Database) (batch : List Entry) : Type 0 where
  pub rising : IsRising batch
  pub put : next ≡ put_batch batch db
  pub apart : NoValueTwice ts db
  pub stays_apart : NoValueTwice ts (put_batch batch db)

-- the keys, for which room was made
keys_behind : {ts : List Table} {db next : Database} {batch : List Entry} (keys after roomy : Keys) (old : List Mark) → Putting ts db next batch → Indexes ts db keys → roomy ≡ keys →
    old ≡ marks_at ts (keys_of batch) db → after ≡ moved ts old batch roomy → Indexes ts next after
keys_behind {ts = ts} {db = db} {batch = batch} keys after roomy old p indexed same are moves =
    rw (p.put, moves, are, same) (keys_follow ts db batch keys p.rising p.apart p.stays_apart indexed)

module _ (ts : List Table) (db : Database) (batch : List Entry) (counts : Counts) (old : List RowId) (rising : IsRising batch) (counted : CountsChildren ts db counts)
    (are : old ≡ parents_at ts (keys_of batch) db) where
  -- the children that its rows were are counted
  old_counted : (row : RowId) → times_in old row ≤ count_at counts row
  old_counted row = omega (arith, old_are_counted ts db batch row rising, counted row, ap (λ (l : List RowId). times_in l row) are)

  module _ (next : Database) (put : next ≡ put_batch batch db) where
    -- and no more are counted behind it than there are rows then
    new_fit : (rows : ℕ) → rows ≡ len next → (row : RowId) → count_at counts row + times_in (parents_left ts batch) row ≤ rows + times_in old row
    new_fit rows many row =
        omega (arith, counted row, ap (λ (l : List RowId). times_in l row) are, children_move ts db batch row rising, children_are_rows ts (put_batch batch db) row, many ∙ ap len put)

    -- the counts
    counts_behind : (after : Counts) → Recounts old (parents_left ts batch) counts after → CountsChildren ts next after
    counts_behind after moves =
        subst (λ (d : Database). CountsChildren ts d after) (sym put)
        (counts_follow ts db batch counts after rising counted (subst (λ (l : List RowId). Recounts l (parents_left ts batch) counts after) are moves))

pub put-requires-2-clause-counted : goal.put-requires-2-clause-counted
put-requires-2-clause-counted g c =
    let before = subst (CountsChildren c.args.schema.now (g.S.RowStore.contents c.args.self.now.store)) (sym c.reserve-2.ensures.map) c.requires.counted in
    old_counted c.args.schema.now (g.S.RowStore.contents c.args.self.now.store) c.args.batch.now c.reserve-2.new.self.map c.deref-2.result.now c.requires.rising before
    (c.deref-2.ensures.value ∙ c.in_ok-parents.ensures)

pub put-requires-2-clause-fits : goal.put-requires-2-clause-fits
put-requires-2-clause-fits g c =
    let before = subst (CountsChildren c.args.schema.now (g.S.RowStore.contents c.args.self.now.store)) (sym c.reserve-2.ensures.map) c.requires.counted in
    new_fit c.args.schema.now (g.S.RowStore.contents c.args.self.now.store) c.args.batch.now c.reserve-2.new.self.map c.deref-2.result.now c.requires.rising before
    (c.deref-2.ensures.value ∙ c.in_ok-parents.ensures)
    (g.S.RowStore.contents c.put_all.new.self) c.in_ok-put_all.ensures.ok c.len-rows.result c.len-rows.ensures

pub returns-clause-indexed : goal.returns-clause-indexed
returns-clause-indexed g c =
    keys_behind _ _ _ _ (record { rising = c.requires.rising; put = c.in_ok-put_all.ensures.ok; apart = c.requires.apart; stays_apart = c.requires.stays_apart })
    c.requires.indexed c.reserve.ensures.map (c.deref.ensures.value ∙ c.in_ok-marks.ensures) c.put.ensures

pub returns-clause-counted : goal.returns-clause-counted
returns-clause-counted g c =
    let before = subst (CountsChildren c.args.schema.now (g.S.RowStore.contents c.args.self.now.store)) (sym c.reserve-2.ensures.map) c.requires.counted in
    counts_behind c.args.schema.now (g.S.RowStore.contents c.args.self.now.store) c.args.batch.now c.reserve-2.new.self.map c.deref-2.result.now c.requires.rising before
    (c.deref-2.ensures.value ∙ c.in_ok-parents.ensures)
    (g.S.RowStore.contents c.put_all.new.self) c.in_ok-put_all.ensures.ok c.put-2.new.self.map c.put-2.ensures
