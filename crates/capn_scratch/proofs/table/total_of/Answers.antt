use Rattle.std.proofs.Common.{arith}
use Rattle.capn_stream.proofs.shared.Entries.{sum-entries_more}
use Rattle.capn_scratch.proofs.table.total_of.Goals as goal

pub loop-index-preserved : goal.loop-index-preserved
loop-index-preserved g c = record {
  is = omega (arith, sum-entries_more c.loop-index.index c.args.sizes.now);
  small = omega arith;
  steps = omega arith;
}
