use Rattle.std.proofs.Common.{◌∙◌, sym, ap, subst, ◌-◌, List, max, refl, reverse, arith}
use Rattle.std.proofs.lemmas.List.{get_or_read}
use Rattle.schema.specs.declared.Table.{Table}
use Rattle.tracker_trait.specs.Law.{IsOfTables}
use Rattle.writeset_trackers.specs.Agreement.{IsHistoryOf}
use Rattle.writeset_trackers.specs.Places.{AreLast, Sessions}
use Rattle.writeset_trackers.proofs.Cover.{later_covers}
use Rattle.writeset_trackers.proofs.Stamps.{Stamp, is_exact, is_covered, Own, own_is, have_gone_on}
use Rattle.writeset_trackers.proofs.WriteSetSessionTracker.stamp.Goals as goal

-- the transaction that was stamped
abbrev stamp_of : (c : goal.After-max) (ts : List Table) → IsHistoryOf ts (reverse c.args.log.now.entries) c.args.self.now.history → IsOfTables ts c.args.t.now c.args.w.now →
    Stamp ts c.args.log.now.entries c.args.t.now c.args.w.now
stamp_of c ts is of_ = record { of_tables = of_; seen = c.args.self.now.history; is = is; h = c.self.inside.history; same = ap (λ (s : Sessions). s.history) c.self.view_is }

-- its session
abbrev own_of : (c : goal.After-max) → AreLast (reverse c.args.log.now.entries) c.args.self.now.last → Own c.args.log.now.entries c.args.session
own_of c are = record {
  least = c.requires.least;
  greatest = c.requires.greatest;
  seen = c.args.self.now.last;
  are = are;
  last = c.self.inside.last.items;
  same = ap (λ (s : Sessions). s.last) c.self.view_is;
  room = omega (arith, c.self.invariant, c.self.inside.last.ok);
}

pub returns-clause-exact : goal.returns-clause-exact
returns-clause-exact c ts is of_ =
    let own = own_of c is.1 in
    let parent = is_exact _ _ _ _ (stamp_of c ts is.0 of_) c.args.order_parent c.parent_by-parent.result c.parent_by-parent.ensures in
    let read = get_or_read own.last (c.args.session - 1) c.index-own.result.now (omega (arith, own.room, own.greatest, own.least)) c.index-own.ensures 0 in
    c.max.ensures ∙ (λ i. max (parent i) (own_is _ _ own c.index-own.result.now read i))

pub returns-clause-covers : goal.returns-clause-covers
returns-clause-covers c ts is of_ =
    later_covers _ _ c.parent_by-parent.result c.max.result (omega (arith, c.max.ensures))
    (is_covered _ _ _ _ (stamp_of c ts is.0 of_) c.args.session c.args.order_parent c.parent_by-parent.result c.parent_by-parent.ensures c.requires.order)

pub returns-clause-goes_on : goal.returns-clause-goes_on
returns-clause-goes_on c ts is of_ = (
  c.note.ensures.goes_on ts c.args.session c.max.result (subst (IsHistoryOf ts (reverse c.args.log.now.entries)) (sym (ap (λ (s : Sessions). s.history) c.self.view_is)) is.0) of_,
  have_gone_on _ _ (own_of c is.1) _ c.args.t.now c.max.result c.len.result c.len.ensures.value refl,
)
