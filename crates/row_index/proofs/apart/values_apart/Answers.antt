use Rattle.std.proofs.Common.{◌≡◌, ◌∙◌, sym, ap, refl, subst, true, true≢false, List}
use Rattle.std.specs.FinMap.{empty}
use Rattle.std.proofs.lemmas.List.{take_all}
use Rattle.rows.specs.Database.{NoValueTwice}
use Rattle.store_trait.specs.Batch.{Entry, put_batch}
use Rattle.row_index.specs.Keys.{marks_left}
use Rattle.row_index.proofs.OnceEach.{IsNext, once_each, told_apart, front_more, still_once, comes_twice}
use Rattle.row_index.proofs.apart.values_apart.Goals as goal
use Rattle.row_index.proofs.apart.values_apart.Goals.{After-add}

next : (c : After-add) → IsNext c.args.schema.now c.entries-entry-items.result.now c.loop-entry.entry-index c.entry-item.result c.loop-entry.marks.keys c.mark_left.result
next c = record { within = c.loop-entry-test.true; entry_is = c.entry-item.is; mark_is = c.mark_left.ensures; walked = c.loop-entry.invariant.marks }

pub loop-entry-preserved : goal.loop-entry-preserved
loop-entry-preserved c =
    let ts = c.args.schema.now in
    let entries = c.entries-entry-items.result.now in
    let i = c.loop-entry.entry-index in
    let here = next (goal.at.loop-entry-preserved c).After-add in
    record {
      marks = c.in_ok-add.ensures.keys c.if-not-branch.false ∙ front_more ts entries i c.entry-item.result c.loop-entry.marks.keys c.mark_left.result here;
      once = still_once ts entries i c.entry-item.result c.loop-entry.marks.keys c.mark_left.result here (sym c.in_ok-add.ensures.added ∙ c.if-not-branch.false) c.loop-entry.invariant.once;
    }

pub returns-then-not-branch : goal.returns-then-not-branch
returns-then-not-branch c =
    let ts = c.args.schema.now in
    let entries = c.entries-entry-items.result.now in
    let here = next (goal.at.returns-then-not-branch c).After-add in
    let twice = comes_twice ts entries c.loop-entry.entry-index c.entry-item.result c.loop-entry.marks.keys c.mark_left.result here (sym c.in_ok-add.ensures.added ∙ c.if-not-branch.true) in
    let told = told_apart ts entries c.entries-entry-items.ensures.rising in
    (λ never. absurd (true≢false (sym never)), λ apart. absurd (twice (told.1 (subst (λ (l : List Entry). NoValueTwice ts (put_batch l empty)) (sym c.entries-entry-items.ensures.value) apart))))

pub returns : goal.returns
returns c =
    let ts = c.args.schema.now in
    let entries = c.entries-entry-items.result.now in
    let all = take_all c.loop-entry.entry-index entries c.loop-entry-test.false in
    let once : once_each (marks_left ts entries) ≡ true = ap (λ (l : List Entry). once_each (marks_left ts l)) (sym all) ∙ c.loop-entry.invariant.once in
    let apart = (told_apart ts entries c.entries-entry-items.ensures.rising).0 once in
    (λ _. subst (λ (l : List Entry). NoValueTwice ts (put_batch l empty)) c.entries-entry-items.ensures.value apart, λ _. refl)
