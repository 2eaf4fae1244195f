use Rattle.std.proofs.Common.{◌∙◌, sym, subst, true, false}
use Rattle.store_trait.specs.Fits.{AreOfTables}
use Rattle.store_trait.proofs.Values.{fits_of_tables}
use Rattle.log_tools.proofs.Compared.{compared}
use Rattle.log_tools.proofs.comparing.compare_found.Goals as goal

pub compare-requires-clause-my_tables : goal.compare-requires-clause-my_tables
compare-requires-clause-my_tables g c = subst (λ ts. AreOfTables ts c.store.result.now) c.requires.my_tables (fits_of_tables _ _ c.store.ensures.fits)

pub compare-requires-clause-their_tables : goal.compare-requires-clause-their_tables
compare-requires-clause-their_tables g c = subst (λ ts. AreOfTables ts c.store-2.result.now) c.requires.their_tables (fits_of_tables _ _ c.store-2.ensures.fits)

pub returns-in-Ok-clause-alike : goal.returns-in-Ok-clause-alike
returns-in-Ok-clause-alike g c =
    compared true c.args.mine.now.described c.args.theirs.now.described c.args.left.now c.args.right.now c.records.result.now c.records-2.result.now
    c.store.result.now c.store-2.result.now _ _ c.requires.my_tables c.requires.their_tables c.requires.my_base c.requires.their_base
    c.records.ensures c.records-2.ensures c.store.ensures.leaves c.store-2.ensures.leaves c.in-Ok.ensures.same

pub returns-in-Err-clause-different : goal.returns-in-Err-clause-different
returns-in-Err-clause-different g c = λ is.
    compared false c.args.mine.now.described c.args.theirs.now.described c.args.left.now c.args.right.now c.records.result.now c.records-2.result.now
    c.store.result.now c.store-2.result.now _ _ c.requires.my_tables c.requires.their_tables c.requires.my_base c.requires.their_base
    c.records.ensures c.records-2.ensures c.store.ensures.leaves c.store-2.ensures.leaves (c.in-Err.ensures.different (sym c.at.ensures.stop ∙ is))
