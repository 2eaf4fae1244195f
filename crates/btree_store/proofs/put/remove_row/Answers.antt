use Rattle.std.proofs.Common.{sym}
use Rattle.btree_store.specs.Contents.{contents_of}
use Rattle.btree_store.proofs.Steps.{put_row-there}
use Rattle.btree_store.proofs.put.remove_row.Goals as goal

pub returns-in-Some-clause-put : goal.returns-in-Some-clause-put
returns-in-Some-clause-put c =
    rw c.in-Some.is (sym (put_row-there (contents_of c.args.rows.now) c.args.id c.in-Some.field-0 (let set = c.requires in rw c.in-Some.is at set)))
