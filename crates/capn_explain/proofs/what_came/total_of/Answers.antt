use Rattle.std.proofs.Common.{arith}
use Rattle.capn_stream.proofs.shared.Entries.{sum-entries_more}
use Rattle.capn_explain.proofs.Zeros.{sum-begun}
use Rattle.capn_explain.proofs.what_came.total_of.Goals as goal

pub loop-index-preserved : goal.loop-index-preserved
loop-index-preserved c = record {
  is = omega (arith, sum-entries_more c.loop-index.index c.args.sizes.now);
  small = omega arith;
}

pub returns : goal.returns
returns c = omega (arith, sum-begun c.loop-index.index c.args.count c.args.sizes.now (omega arith) (λ h. omega arith))
