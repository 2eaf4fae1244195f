use Rattle.std.proofs.Common.{◌≡◌, subst, refl, rules, ◌≤◌, ℤ, length, w64, FitsSigned, to_z-of_z, slice_get, Some}
use Rattle.std.specs.Option.{option_eq}
use Rattle.std.specs.Ordering.{int_eq}
use Rattle.std.proofs.lemmas.Option.{slice_get_read}
use Rattle.store_trait.specs.Contents.{IsHolder}
use Rattle.store_trait.proofs.Own.{own_told, none_told}
use Rattle.store_trait.proofs.is_own.Goals as goal

pub returns-in-Some : goal.returns-in-Some
returns-in-Some g c =
    let db = g.S.RowStore.contents c.args.store.now in
    let read = slice_get_read c.columns.result.now (length c.columns.result.now) c.from.result c.in-Some.value.now refl c.in-Some.ensures.lookup.3.0 c.in-Some.ensures.lookup.1 in
    let at : slice_get c.args.found.now.1 c.args.column ≡ Some c.in-Some.value.now = rw (c.columns.ensures.value, c.from.ensures) at read in
    let fits : FitsSigned w64 c.in-Some.value.now = search rules in
    let key_fits : FitsSigned w64 c.args.found.now.0 = search rules in
    own_told db c.args.table c.args.column c.in-Some.value.now c.args.found.now.0 c.args.found.now.1 c.holder.result c.eq.result at
    (subst (λ (v : ℤ). IsHolder db c.args.table c.args.column v c.holder.result) (to_z-of_z fits) c.holder.ensures)
    (subst (λ (k : ℤ). c.eq.result ≡ option_eq int_eq c.holder.result (Some k)) (to_z-of_z key_fits) c.eq.ensures)

pub returns-in-None : goal.returns-in-None
returns-in-None g c =
    let short : length c.args.found.now.1 ≤ c.args.column = rw (c.columns.ensures.value, c.from.ensures) at c.in-None.ensures.lookup.3 in
    (λ _. none_told (g.S.RowStore.contents c.args.store.now) c.args.table c.args.column c.args.found.now.0 c.args.found.now.1 short, λ _. refl)
