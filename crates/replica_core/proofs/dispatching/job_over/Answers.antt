use Rattle.std.proofs.Common.{◌≡◌, refl, List, [], ◌∷◌, subst, sym, ◌∙◌, ap, rules}
use Rattle.schema.specs.declared.Table.{Table}
use Rattle.schema.specs.Rows.{Mark}
use Rattle.rows.specs.Database.{Database}
use Rattle.rows.specs.Holders.{holders_in}
use Rattle.executor.specs.Held.{AreHolders}
use Rattle.executor.proofs.Handed.{holders_rise}
use Rattle.row_index.specs.Keys.{Keys, Indexes}
use Rattle.replica_core.specs.Core.{looked_up}
use Rattle.replica_core.proofs.dispatching.job_over.Goals as goal

looked_up_holders : (ts : List Table) (db : Database) (keys : Keys) (marks : List Mark) → Indexes ts db keys → looked_up keys marks ≡ holders_in ts marks db
looked_up_holders ts db keys [] indexed = refl
looked_up_holders ts db keys (mark ∷ marks) indexed = λ i. (mark, indexed mark i) ∷ looked_up_holders ts db keys marks indexed i

pub from_rising-holders-requires : goal.from_rising-holders-requires
from_rising-holders-requires g c =
    let rows = g.S.RowStore.contents c.args.stored.now.store in
    subst AreHolders (sym (c.in_ok-holders.ensures ∙ ap (looked_up c.args.stored.now.index.map) c.list.ensures.value
    ∙ looked_up_holders c.args.schema.now rows c.args.stored.now.index.map c.in_ok-rec.rec.marks c.requires)) (holders_rise c.args.schema.now c.in_ok-rec.rec.marks rows c.list.ensures.valid)

pub returns : goal.returns
returns g c =
    let rows = g.S.RowStore.contents c.args.stored.now.store in
    let holders : c.from_rising-holders.result ≡ holders_in c.args.schema.now c.in_ok-rec.rec.marks rows =
    c.from_rising-holders.ensures ∙ c.in_ok-holders.ensures ∙ ap (looked_up c.args.stored.now.index.map) c.list.ensures.value
    ∙ looked_up_holders c.args.schema.now rows c.args.stored.now.index.map c.in_ok-rec.rec.marks c.requires in
    search rules
