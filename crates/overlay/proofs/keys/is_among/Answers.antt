use Rattle.std.proofs.Common.{◌∙◌}
use Rattle.overlay.proofs.KeySets.{is_found}
use Rattle.overlay.proofs.keys.is_among.Goals as goal

pub returns : goal.returns
returns g c =
    c.is_ok.ensures.value
    ∙ is_found g.met.K.Ord.total c.args.sorted.now c.args.key.now c.binary_search.result c.requires c.binary_search.ensures.bound c.binary_search.ensures.position
