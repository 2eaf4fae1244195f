use Rattle.std.proofs.Common.{◌≡◌, subst, arith, rules, List, ℕ}
use Rattle.std.specs.List.{insert}
use Rattle.std.specs.List.Sorted.{IsBinarySearchResult}
use Rattle.std.specs.Ordering.{nat_cmp}
use Rattle.published.proofs.Numbers.{not_found, rise_put, has_insert}
use Rattle.published.proofs.gaps.put.Goals as goal

pub unreachable-requires : goal.unreachable-requires
unreachable-requires c =
    let told = subst (λ (l : List ℕ). IsBinarySearchResult (λ y. nat_cmp y c.args.gno) l c.binary_search.result) c.deref.ensures.value c.binary_search.ensures.position in
    not_found _ c.args.gno c.in_default.field-0 c.args.ahead.now.items c.binary_search.result c.requires.rise c.requires.new told c.in_default.is

pub returns-clause-rise : goal.returns-clause-rise
returns-clause-rise c least more above =
    let told = subst (λ (l : List ℕ). IsBinarySearchResult (λ y. nat_cmp y c.args.gno) l c.binary_search.result) c.deref.ensures.value c.binary_search.ensures.position in
    let put : c.insert.new.self.items ≡ insert c.args.ahead.now.items c.in-Err.place c.args.gno = search rules in
    rise_put least _ c.args.gno c.in-Err.place c.args.ahead.now.items _ c.binary_search.result c.requires.rise told c.in-Err.is put (omega (arith, c.ranges.gno.fits)) more above

pub returns-clause-has : goal.returns-clause-has
returns-clause-has c g =
    let put : c.insert.new.self.items ≡ insert c.args.ahead.now.items c.in-Err.place c.args.gno = search rules in
    rw put (has_insert c.args.ahead.now.items c.in-Err.place c.args.gno g)
