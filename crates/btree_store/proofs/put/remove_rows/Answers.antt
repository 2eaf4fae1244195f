use Rattle.btree_store.specs.Contents.{contents_of}
use Rattle.btree_store.proofs.Steps.{setting_next, setting_on}
use Rattle.btree_store.proofs.put.remove_rows.Goals as goal

pub remove_row-requires : goal.remove_row-requires
remove_row-requires c =
    setting_next c.args.entries.now c.loop-id.id-index (contents_of c.args.rows.now) (contents_of c.loop-id.rows) c.loop-id.invariant c.loop-id-test.true
    c.loop-id-item.result.0 c.loop-id-item.result.1 c.loop-id-item.is

pub loop-id-preserved : goal.loop-id-preserved
loop-id-preserved c =
    setting_on c.args.entries.now c.loop-id.id-index (contents_of c.args.rows.now) (contents_of c.loop-id.rows) c.loop-id.invariant c.loop-id-test.true
    c.loop-id-item.result.0 c.loop-id-item.result.1 c.loop-id-item.is (contents_of c.remove_row.new.rows) c.remove_row.ensures.put c.remove_row.ensures.key
