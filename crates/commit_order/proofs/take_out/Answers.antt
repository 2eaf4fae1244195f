use Rattle.commit_order.proofs.Places.{rotated}
use Rattle.commit_order.proofs.take_out.Goals as goal

pub returns-clause-front : goal.returns-clause-front
returns-clause-front c = rotated c.args.out.now c.args.gno c.place_of-place.result c.rotate_left.new.self c.place_of-place.ensures.value c.place_of-place.ensures.within c.rotate_left.ensures.after
