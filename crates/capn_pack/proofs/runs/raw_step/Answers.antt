use Rattle.std.proofs.Common.{arith}
use Rattle.capn_pack.proofs.RunLemmas.{dense_found, dense_stop}
use Rattle.capn_pack.proofs.runs.raw_step.Goals as goal

pub returns-clause-run : goal.returns-clause-run
returns-clause-run c =
    dense_found c.args.bytes.now _ c.args.at _ c.eight_at.ensures c.first_dense.ensures.most (omega arith)
    c.first_dense.ensures.dense

pub returns-clause-last : goal.returns-clause-last
returns-clause-last c less d =
    dense_stop c.args.bytes.now _ c.args.at _ c.eight_at.ensures less (c.first_dense.ensures.last less) d
