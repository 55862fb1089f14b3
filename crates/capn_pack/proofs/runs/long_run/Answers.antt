use Rattle.std.proofs.Common.{arith}
use Rattle.capn_pack.proofs.RunLemmas.{dense_after, dense_cut, dense_steps}
use Rattle.capn_pack.proofs.runs.long_run.Goals as goal

pub loop-count-preserved : goal.loop-count-preserved
loop-count-preserved c =
    let step = c.raw_step-step.ensures.run in
    dense_steps _ _ _ _ _ c.loop-count.invariant
    (dense_cut _ _ _ _ _ _ step (omega arith) (omega (arith, step.most)))

pub returns-then-step-lt8-clause-run : goal.returns-then-step-lt8-clause-run
returns-then-step-lt8-clause-run c =
    let step = c.raw_step-step.ensures.run in
    dense_steps _ _ _ _ _ c.loop-count.invariant
    (dense_cut _ _ _ _ _ _ step (omega arith) (omega (arith, step.most)))

pub returns-then-step-lt8-clause-last : goal.returns-then-step-lt8-clause-last
returns-then-step-lt8-clause-last c less d =
    dense_after _ _ _ _ _ c.loop-count.invariant c.raw_step-step.ensures.run
    (c.raw_step-step.ensures.last c.if-step-lt8.true) d

pub returns-clause-run : goal.returns-clause-run
returns-clause-run c =
    dense_steps _ _ _ _ _ c.loop-count.invariant
    (dense_cut _ _ _ _ _ _ c.raw_step.ensures.run (omega (arith, c.min.ensures)) (omega (arith, c.min.ensures)))
