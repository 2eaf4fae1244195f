use Rattle.std.proofs.Common.{subst}
use Rattle.store_trait.specs.Fits.{AreOfTables}
use Rattle.store_trait.proofs.Values.{fits_of_tables}
use Rattle.log_tools.proofs.Leaving.{prints_rows}
use Rattle.log_tools.proofs.dumping.show_rows.Goals as goal

pub write_rows-requires : goal.write_rows-requires
write_rows-requires g c = subst (λ ts. AreOfTables ts c.store.result.now) c.in_ok-found.ensures.tables (fits_of_tables _ _ c.store.ensures.fits)

pub returns : goal.returns
returns g c =
    prints_rows c.write_rows.result c.args.log.now.described.head.schema c.args.log.now.described.head.base c.args.log.now.set.log.records c.args.upto _ _ c.store.result.now
    (rw (c.in_ok-found.ensures.tables, c.in_ok-found.ensures.base, c.in_ok-found.ensures.log, c.deref.ensures.value, c.in_ok-records.ensures.records) at c.store.ensures.leaves)
    c.write_rows.ensures
