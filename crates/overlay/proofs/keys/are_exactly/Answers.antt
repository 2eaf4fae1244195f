use Rattle.std.proofs.Common.{◌∙◌}
use Rattle.overlay.proofs.KeySets.{same_for_moved}
use Rattle.overlay.proofs.keys.are_exactly.Goals as goal

pub returns : goal.returns
returns g c = c.are_same.ensures ∙ same_for_moved g.K.Ord.cmp c.args.stated.now c.args.keys.now c.sort_unstable.new.self c.sort_unstable.ensures.permutation
