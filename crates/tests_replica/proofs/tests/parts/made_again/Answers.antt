use Rattle.tests_replica.proofs.tests.parts.made_again.Goals as goal

pub new-requires-clause-tables : goal.new-requires-clause-tables
new-requires-clause-tables g c = c.are_of_tables.ensures.0 c.if-are_of_tables.true
