use Rattle.std.proofs.Common.{arith}
use Rattle.capn_pack.proofs.RunLemmas.{zeros_found, zeros_stop}
use Rattle.capn_pack.proofs.runs.zero_step.Goals as goal

pub returns-clause-run : goal.returns-clause-run
returns-clause-run c =
    zeros_found c.args.bytes.now _ c.args.at _ c.eight_at.ensures c.first_zeros.ensures.most (omega arith)
    c.first_zeros.ensures.zeros

pub returns-clause-last : goal.returns-clause-last
returns-clause-last c less e =
    zeros_stop c.args.bytes.now _ c.args.at _ c.eight_at.ensures less (c.first_zeros.ensures.last less) e
