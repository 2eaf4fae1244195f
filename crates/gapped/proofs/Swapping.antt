-- Records that do not conflict, run in the other order: they leave the same.
use Rattle.std.proofs.Common.{◌≡◌, ◌∙◌, sym, ap, subst, refl, false, inl, inr, List, [], ◌∷◌, ◌++◌, Some}
use Rattle.std.specs.Prelude.{option_and_then}
use Rattle.std.specs.List.{AllByRecursion}
use Rattle.std.specs.FinMap.{get}
use Rattle.std.proofs.lemmas.Bool.{cases_Bool}
use Rattle.std.proofs.lemmas.Option.{same_Some}
use Rattle.schema.specs.declared.Table.{Table}
use Rattle.schema.specs.declared.RowId.{RowId}
use Rattle.schema.specs.Rows.{has_row, conflicts}
use Rattle.schema.proofs.Conflicts.{both_ways}
use Rattle.rows.specs.Database.{Database, writes, NoValueTwice}
use Rattle.rows.proofs.Apply.{has_row-left}
use Rattle.rows.proofs.Effect.{changes_only_writes, effect_is_its_rows, values_stay_apart}
use Rattle.record_codec.specs.declared.records.Record.{Record}
use Rattle.record_codec.specs.Log.{after, touched}
use Rattle.executor.specs.Laws.{IsGood, LooksAlike}
use Rattle.executor.proofs.Elsewhere.{good_does_the_same, good_elsewhere}
use Rattle.gapped.specs.Gapped.{AreGood}
use Rattle.gapped.proofs.Meeting.{not_written, alike_behind}

-- what looks alike one way does so the other way
alike_back : (ts : List Table) (rec : Record) (a b : Database) → LooksAlike ts rec a b → LooksAlike ts rec b a
alike_back ts rec a b look = record { rows = λ q is. sym (look.rows q is); holders = λ mark is. sym (look.holders mark is) }

-- ---- two records

-- The second of two is good before the first, the first is good behind it, and both together leave the same.
pub record Swapped (ts : List Table) (first second : Record) (db end : Database) : Type 0 where
  pub before : IsGood ts second db
  pub behind : IsGood ts first before.leaves
  pub same : behind.leaves ≡ end

module _ (ts : List Table) (first second : Record) (db : Database) (apart : NoValueTwice ts db) where
  pub swap : (one : IsGood ts first db) (other : IsGood ts second one.leaves) → conflicts (touched first) (touched second) ≡ false →
      Swapped ts first second db other.leaves
  swap one other none =
      let apart_mid = values_stay_apart ts first.changes db one.leaves apart one.applies in
      let to_base = alike_back ts second db one.leaves (alike_behind ts first second db apart one none) in
      let twin = good_does_the_same ts second one.leaves db apart_mid apart other to_base in
      let before : IsGood ts second db = good_elsewhere ts second one.leaves db apart_mid apart other to_base in
      let apart_before = values_stay_apart ts second.changes db before.leaves apart before.applies in
      let look = alike_behind ts second first db apart before (both_ways (touched second) (touched first) ∙ none) in
      let again = good_does_the_same ts first db before.leaves apart apart_before one look in
      let behind : IsGood ts first before.leaves = good_elsewhere ts first db before.leaves apart apart_before one look in
      let left : twin.leaves ≡ before.leaves = same_Some twin.leaves before.leaves (sym twin.defined ∙ before.applies) in
      let end : again.leaves ≡ behind.leaves = same_Some again.leaves behind.leaves (sym again.defined ∙ behind.applies) in
      let first_stays : (q : RowId) → has_row (writes first.changes) q ≡ false → get behind.leaves q ≡ get before.leaves q =
      λ q not_its. changes_only_writes ts first.changes before.leaves behind.leaves q behind.applies not_its in
      record {
        before = before;
        behind = behind;
        same = effect_is_its_rows ts second.changes one.leaves other.leaves behind.leaves other.applies
            (λ q is. twin.same_writes q is ∙ ap (λ (m : Database). get m q) left
            ∙ sym (first_stays q (not_written first second q none (has_row-left (writes second.changes) second.refs q is))))
            (λ q is. elim (cases_Bool (has_row (writes first.changes) q)) [
              | inl mine ↦ sym (again.same_writes q mine ∙ ap (λ (m : Database). get m q) end)
              | inr neither ↦ first_stays q neither
                  ∙ changes_only_writes ts second.changes db before.leaves q before.applies is
                  ∙ sym (changes_only_writes ts first.changes db one.leaves q one.applies neither)
            ]);
      }

-- ---- a record and a list

-- good records, one behind the other, that lead from a database to another
pub record Leads (ts : List Table) (log : List Record) (from to : Database) : Type 0 where
  pub good : AreGood ts from log
  pub rows : after ts from log ≡ Some to

leads-first : (ts : List Table) (r : Record) (log : List Record) (from to : Database) (good : IsGood ts r from) →
    Leads ts log good.leaves to → Leads ts (r ∷ log) from to
leads-first ts r log from to good rest =
    record { good = (good, rest.good); rows = ap (option_and_then (λ db. after ts db log)) good.applies ∙ rest.rows }

leads-rest : (ts : List Table) (r : Record) (log : List Record) (from to : Database) → Leads ts (r ∷ log) from to →
    (good : IsGood ts r from) × Leads ts log good.leaves to
leads-rest ts r log from to all =
    (all.good.0, record { good = all.good.1; rows = sym (ap (option_and_then (λ db. after ts db log)) all.good.0.applies) ∙ all.rows })

pub leads-none : (ts : List Table) (db : Database) → Leads ts [] db db
leads-none ts db = record { good = tt; rows = refl }

pub leads-append : (ts : List Table) (xs ys : List Record) (from mid to : Database) → Leads ts xs from mid → Leads ts ys mid to →
    Leads ts (xs ++ ys) from to
leads-append ts [] ys from mid to front rest = subst (λ (db : Database). Leads ts ys db to) (sym (same_Some from mid front.rows)) rest
leads-append ts (r ∷ xs) ys from mid to front rest =
    let w = leads-rest ts r xs from mid front in
    leads-first ts r (xs ++ ys) from to w.0 (leads-append ts xs ys w.0.leaves mid to w.1 rest)

pub leads-parts : (ts : List Table) (xs ys : List Record) (from to : Database) → Leads ts (xs ++ ys) from to →
    (mid : Database) × Leads ts xs from mid × Leads ts ys mid to
leads-parts ts [] ys from to all = (from, leads-none ts from, all)
leads-parts ts (r ∷ xs) ys from to all =
    let w = leads-rest ts r (xs ++ ys) from to all in
    let parts = leads-parts ts xs ys w.0.leaves to w.1 in
    (parts.0, leads-first ts r xs from parts.0 w.0 parts.1, parts.2)

-- a record that is good behind others, and conflicts with none of them, may stand before them
pub insert_within : (ts : List Table) (log : List Record) (r : Record) (from to : Database) → NoValueTwice ts from → Leads ts log from to →
    (good : IsGood ts r to) →
    AllByRecursion (λ (other : Record). conflicts (touched other) (touched r) ≡ false) log → Leads ts (r ∷ log) from good.leaves
insert_within ts [] r from to apart all good none =
    subst (λ (db : Database). (its : IsGood ts r db) → Leads ts (r ∷ []) from its.leaves) (same_Some from to all.rows)
    (λ its. leads-first ts r [] from its.leaves its (leads-none ts its.leaves)) good
insert_within ts (x ∷ log) r from to apart all good none =
    let w = leads-rest ts x log from to all in
    let inner = leads-rest ts r log w.0.leaves good.leaves
    (insert_within ts log r w.0.leaves to (values_stay_apart ts x.changes from w.0.leaves apart w.0.applies) w.1 good none.1) in
    let s = swap ts x r from apart w.0 inner.0 none.0 in
    let others = subst (λ (db : Database). Leads ts log db good.leaves) (sym s.same) inner.1 in
    leads-first ts r (x ∷ log) from good.leaves s.before (leads-first ts x log s.before.leaves good.leaves s.behind others)
