-- What a record does to each database that looks alike to it, and what comes of its job there.
use Rattle.std.proofs.Common.{◌≡◌, sym, ap, ◌∙◌, refl, Bool, true, false, ◌&&◌, cond, List, ◌++◌, Option, Some, None, inl, inr, ◌⊎◌}
use Rattle.std.specs.Option.{option_map_or}
use Rattle.std.proofs.lemmas.Bool.{and_parts, and_from}
use Rattle.schema.specs.declared.Table.{Table}
use Rattle.schema.specs.declared.RowId.{RowId}
use Rattle.schema.specs.Rows.{has_row, SameRows}
use Rattle.rows.specs.Database.{Database, writes, effect, kin, marks}
use Rattle.rows.proofs.Apply.{has_row-left, has_row-right}
use Rattle.rows.proofs.Frame.{looks_only, same_kin, same_marks}
use Rattle.rows.proofs.Holders.{holders_are_same}
use Rattle.store_trait.specs.Batch.{Entry, rows_in}
use Rattle.record_codec.specs.declared.records.Record.{Record}
use Rattle.executor.specs.declared.Outcome.{Outcome}
use Rattle.executor.specs.declared.Outcome.TheVariants.{Output, Undefined, WrongRefs, Memory}
use Rattle.executor.specs.Job.{same_rows, outcome_of, outcome_over}
use Rattle.executor.specs.Laws.{IsGood, GoodDoesTheSame, GoodElsewhere, OutputIsGood, LeavesThere, OutputIsThere, GoodHasOutput, FaultIsThere}
use Rattle.executor.proofs.Sets.{tells_sets}
use Rattle.executor.proofs.Handed.{in_either}

-- ---- databases that look alike to a record

-- rows that are among the ones or the others, which are one set with these
instead : (xs ys zs : List RowId) (q : RowId) → SameRows zs ys → has_row (xs ++ ys) q ≡ true → has_row (xs ++ zs) q ≡ true
instead xs ys zs q same is =
    elim (in_either xs ys q is) [
      | inl here ↦ has_row-left xs zs q here
      | inr there ↦ has_row-right xs zs q (same q ∙ there)
    ]

pub good_does_the_same : GoodDoesTheSame
good_does_the_same ts rec db other apart apart_there good look =
    looks_only ts rec.changes db good.leaves other good.applies
    (λ q is. look.rows q (instead (writes rec.changes) (kin ts rec.changes db) rec.refs q good.refs is))
    ((holders_are_same ts (marks ts rec.changes db) db other apart apart_there).1 (λ mark is. look.holders mark (good.marks mark ∙ is)))

pub good_elsewhere : GoodElsewhere
good_elsewhere ts rec db other apart apart_there good look =
    let same = good_does_the_same ts rec db other apart apart_there good look in
    record {
      leaves = same.leaves;
      applies = same.defined;
      refs = λ q. good.refs q ∙ ap (λ l. has_row l q) (sym (same_kin same));
      marks = λ q. good.marks q ∙ ap (λ l. has_row l q) (sym (same_marks same));
    }

-- ---- what comes of a record over a database

-- what an outcome that is an output is of
record Came (f : Database → List Entry) (same : Bool) (o : Option Database) (left : List Entry) : Type 0 where
  leaves : Database
  applies : o ≡ Some leaves
  exact : same ≡ true
  rows : f leaves ≡ left

came : (f : Database → List Entry) (same : Bool) (o : Option Database) (left : List Entry) → option_map_or (λ leaves. cond same (Output (f leaves)) WrongRefs) o Undefined ≡ Output left →
    Came f same o left
came f same None left is = cc
came f true (Some leaves) left is = record { leaves = leaves; applies = refl; exact = refl; rows = cc }
came f false (Some leaves) left is = cc

-- what comes of a record where its changes apply
pub comes_of : (ts : List Table) (rec : Record) (db leaves : Database) → effect ts rec.changes db ≡ Some leaves →
    outcome_over ts rec db ≡ outcome_of rec (kin ts rec.changes db) (marks ts rec.changes db) (rows_in (writes rec.changes) leaves)
comes_of ts rec db leaves applies =
    ap (λ (o : Option Database). option_map_or (λ after_. outcome_of rec (kin ts rec.changes db) (marks ts rec.changes db) (rows_in (writes rec.changes) after_)) o Undefined) applies

-- an output is what the record leaves
leaves_there : (ts : List Table) (rec : Record) (db : Database) (left : List Entry) → outcome_over ts rec db ≡ Output left → LeavesThere ts rec db left
leaves_there ts rec db left is =
    let c = came (rows_in (writes rec.changes)) (same_rows rec.refs (kin ts rec.changes db) && same_rows rec.marks (marks ts rec.changes db)) (effect ts rec.changes db) left is in
    let exact = and_parts (same_rows rec.refs (kin ts rec.changes db)) (same_rows rec.marks (marks ts rec.changes db)) c.exact in
    record {
      after_ = c.leaves;
      applies = c.applies;
      refs = (tells_sets rec.refs (kin ts rec.changes db)).0 exact.0;
      marks = (tells_sets rec.marks (marks ts rec.changes db)).0 exact.1;
      rows = sym c.rows;
    }

good_comes : (ts : List Table) (rec : Record) (db : Database) → (good : IsGood ts rec db) → outcome_over ts rec db ≡ Output (rows_in (writes rec.changes) good.leaves)
good_comes ts rec db good =
    comes_of ts rec db good.leaves good.applies
    ∙ ap (λ b. cond b (Output (rows_in (writes rec.changes) good.leaves)) WrongRefs)
    (and_from _ _ ((tells_sets rec.refs (kin ts rec.changes db)).1 good.refs) ((tells_sets rec.marks (marks ts rec.changes db)).1 good.marks))

pub output_is_good : OutputIsGood
output_is_good ts rec db = (
  λ out. (let l = leaves_there ts rec db out.0 out.1 in record { leaves = l.after_; applies = l.applies; refs = l.refs; marks = l.marks }),
  λ good. (rows_in (writes rec.changes) good.leaves, good_comes ts rec db good),
)

-- ---- results

memory_apart : (o : Outcome) (left : List Entry) → o ≡ Memory → o ≡ Output left → ⊥
memory_apart o left lacks out = cc

pub output_is_there : OutputIsThere
output_is_there result db left is agrees out =
    elim is [
      | inl lacks ↦ absurd (memory_apart result.outcome left lacks out)
      | inr comes ↦ leaves_there result.job.schema result.job.rec db left (sym (comes db agrees) ∙ out)
    ]

pub good_has_output : GoodHasOutput
good_has_output result db is agrees good =
    elim is [
      | inl lacks ↦ inl lacks
      | inr comes ↦ inr (rows_in (writes result.job.rec.changes) good.leaves, comes db agrees ∙ good_comes result.job.schema result.job.rec db good)
    ]

faults_apart : (o : Outcome) → (o ≡ Memory) ⊎ ((left : List Entry) × (o ≡ Output left)) → (o ≡ Undefined) ⊎ (o ≡ WrongRefs) → ⊥
faults_apart o (inl lacks) (inl undefined) = cc
faults_apart o (inl lacks) (inr wrong) = cc
faults_apart o (inr out) (inl undefined) = let is = out.1 in cc
faults_apart o (inr out) (inr wrong) = let is = out.1 in cc

pub fault_is_there : FaultIsThere
fault_is_there result db is agrees fault good = faults_apart result.outcome (good_has_output result db is agrees good) fault
