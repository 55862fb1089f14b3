use Rattle.std.proofs.Common.{arith, ap, length, ◌+◌, ◌∙◌}
use Rattle.capn_pack.specs.Packed.{tag_of}
use Rattle.capn_pack.proofs.RunLemmas.{no_word, tag_here, zero_cut, zero_steps, zeros_after}
use Rattle.capn_pack.proofs.runs.zero_run.Goals as goal

pub returns-then-bytes-start-clause-last : goal.returns-then-bytes-start-clause-last
returns-then-bytes-start-clause-last c less e =
    omega (arith, ap length e, no_word c.args.bytes.now (c.args.start + 0) (omega arith) (omega arith))

pub returns-then-tag-ne0-clause-last : goal.returns-then-tag-ne0-clause-last
returns-then-tag-ne0-clause-last c less e =
    c.if-tag-ne0.true (c.tag.ensures ∙ ap tag_of c.word_at.ensures ∙ tag_here c.args.bytes.now c.args.start e)

pub loop-count-preserved : goal.loop-count-preserved
loop-count-preserved c =
    zero_steps _ _ _ _ c.loop-count.invariant c.zero_step-step.ensures.run
    (omega (arith, c.zero_step-step.ensures.most))

pub returns-then-step-lt8-clause-run : goal.returns-then-step-lt8-clause-run
returns-then-step-lt8-clause-run c =
    zero_steps _ _ _ _ c.loop-count.invariant c.zero_step-step.ensures.run
    (omega (arith, c.zero_step-step.ensures.most))

pub returns-then-step-lt8-clause-last : goal.returns-then-step-lt8-clause-last
returns-then-step-lt8-clause-last c less e =
    zeros_after _ _ _ _ c.loop-count.invariant c.zero_step-step.ensures.run
    (c.zero_step-step.ensures.last c.if-step-lt8.true) e

pub returns-clause-run : goal.returns-clause-run
returns-clause-run c =
    zero_steps _ _ _ _ c.loop-count.invariant
    (zero_cut _ _ _ _ c.zero_step.ensures.run (omega (arith, c.min.ensures)))
    (omega (arith, c.min.ensures))
