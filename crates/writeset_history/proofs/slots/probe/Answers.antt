use Rattle.std.proofs.Common.{◌∙◌, sym, ap}
use Rattle.std.specs.List.{position}
use Rattle.writeset_history.specs.Slots.{is_end}
use Rattle.writeset_history.proofs.Ends.{has_slot, ends_above, ends_below, is_some-before}
use Rattle.writeset_history.proofs.slots.probe.Goals as goal

pub home_of-home-requires : goal.home_of-home-requires
home_of-home-requires c = has_slot c.args.slots.now c.args.start c.args.digest c.requires

pub unwrap-requires : goal.unwrap-requires
unwrap-requires c =
    is_some-before c.args.slots.now c.args.start c.args.digest c.home_of-home.result c.home_of-home.ensures.value c.home_of-home.ensures.within c.requires
    (sym (sym c.in-None.is ∙ c.first_end.ensures ∙ ap (position (is_end c.args.start c.args.digest)) c.split_at.ensures.back))
    c.first_end-in-None.result (c.first_end-in-None.ensures ∙ ap (position (is_end c.args.start c.args.digest)) c.split_at.ensures.front)

pub returns-in-Some : goal.returns-in-Some
returns-in-Some c =
    ends_above c.args.slots.now c.args.start c.args.digest c.home_of-home.result c.home_of-home.ensures.value c.home_of-home.ensures.within c.in-Some.steps
    (sym (sym c.in-Some.is ∙ c.first_end.ensures ∙ ap (position (is_end c.args.start c.args.digest)) c.split_at.ensures.back))

pub returns-in-None : goal.returns-in-None
returns-in-None c =
    ends_below c.args.slots.now c.args.start c.args.digest c.home_of-home.result c.home_of-home.ensures.value c.home_of-home.ensures.within
    (sym (sym c.in-None.is ∙ c.first_end.ensures ∙ ap (position (is_end c.args.start c.args.digest)) c.split_at.ensures.back)) c.unwrap.result
    (sym (sym c.unwrap.ensures ∙ c.first_end-in-None.ensures ∙ ap (position (is_end c.args.start c.args.digest)) c.split_at.ensures.front))
