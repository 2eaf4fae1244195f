use Rattle.moved_numbers.proofs.Moving.{back_again, parent_at_least, moved_twice, moved_leaves, moved_is_shaped}
use Rattle.moved_numbers.proofs.laws.one_record.Goals as goal

pub returns-clause-back : goal.returns-clause-back
returns-clause-back c = back_again

pub returns-clause-parent : goal.returns-clause-parent
returns-clause-parent c = parent_at_least

pub returns-clause-twice : goal.returns-clause-twice
returns-clause-twice c = moved_twice

pub returns-clause-leaves : goal.returns-clause-leaves
returns-clause-leaves c = moved_leaves

pub returns-clause-shaped : goal.returns-clause-shaped
returns-clause-shaped c = moved_is_shaped
