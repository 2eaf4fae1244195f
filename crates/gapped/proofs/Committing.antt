-- A record that waits, and is committed.
use Rattle.std.proofs.Common.{◌≡◌, ◌∙◌, sym, ap, subst, refl, Bool, true, false, cond, ◌&&◌, List}
use Rattle.std.proofs.lemmas.Option.{same_Some}
use Rattle.schema.specs.declared.Table.{Table}
use Rattle.rows.specs.Database.{Database, writes, kin, marks}
use Rattle.store_trait.specs.Batch.{Entry, rows_in, put_batch}
use Rattle.store_trait.proofs.Batches.{put_batch-writes}
use Rattle.record_codec.specs.declared.records.Record.{Record}
use Rattle.executor.specs.declared.Outcome.TheVariants.{Output, WrongRefs}
use Rattle.executor.specs.Job.{same_rows, outcome_over}
use Rattle.executor.specs.Laws.{IsGood}
use Rattle.executor.proofs.Elsewhere.{comes_of, output_is_good}
use Rattle.gapped.specs.Laws.{CommitLeaves}
use Rattle.gapped.proofs.Choosing.{next_commit}
use Rattle.gapped.proofs.Running.{HaveRun, have_run, one_has_run}

rows_of_output : (same : Bool) (entries left : List Entry) → cond same (Output entries) WrongRefs ≡ Output left → left ≡ entries
rows_of_output true entries left is = cc
rows_of_output false entries left is = cc

-- an output is of the rows that the record writes, as it leaves them
output_leaves : (ts : List Table) (rec : Record) (db : Database) (left : List Entry) (good : IsGood ts rec db) →
    outcome_over ts rec db ≡ Output left → left ≡ rows_in (writes rec.changes) good.leaves
output_leaves ts rec db left good is =
    let exact = same_rows rec.refs (kin ts rec.changes db) && same_rows rec.marks (marks ts rec.changes db) in
    rows_of_output exact (rows_in (writes rec.changes) good.leaves) left (sym (comes_of ts rec db good.leaves good.applies) ∙ is)

pub commit_leaves : CommitLeaves
commit_leaves ts base log gnos rec rows left apart numbered are waits rows_are out =
    let run = have_run ts base log apart numbered gnos are in
    let same : run.0 ≡ rows = same_Some run.0 rows (sym run.1.leads.rows ∙ rows_are) in
    let have : HaveRun ts base log gnos rows = subst (HaveRun ts base log gnos) same run.1 in
    let good : IsGood ts rec rows = (output_is_good ts rec rows).0 (left, out) in
    let one = one_has_run ts base log gnos rows waits.front waits.rest rec apart numbered have waits.split waits.new waits.chosen_ good in
    record {
      are = next_commit ts base log gnos rec.gno are (record {
        rec = rec;
        front = waits.front;
        rest = waits.rest;
        split = waits.split;
        number = refl;
        new = waits.new;
        chosen_ = waits.chosen_;
        rows = rows;
        rows_are = have.ran;
        good = good;
      });
      good = good;
      rows_are = one.leads.rows;
      put = ap (λ (l : List Entry). put_batch l rows) (output_leaves ts rec rows left good out)
          ∙ put_batch-writes ts rec.changes rows good.leaves good.applies;
    }
