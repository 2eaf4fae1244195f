use Rattle.std.proofs.KnownBytes.{Appends-kept}
use Rattle.mtr.proofs.threads.run_threads.Goals as goal

-- what stands behind the verdict's line is a flush, which keeps it
pub returns : goal.returns
returns g c =
    let before = g.W.Write.contents c.args.output.now in
    record {
      verdict = c.verdict_of-verdict.result;
      holds = c.verdict_of-verdict.ensures;
      ends = c.ending.ensures;
      line = Appends-kept before (g.W.Write.contents c.write_verdict.new.out) (g.W.Write.contents c.flush.new.self) _ c.in_ok-write_verdict.ensures c.in_ok-flush.ensures.bytes;
    }
