use Rattle.std.proofs.Common.{arith, ap, sym, ◌∙◌, length}
use Rattle.capn_pack.proofs.RunLemmas.{zero_at, zero_steps, no_word}
use Rattle.capn_pack.specs.Packed.{tag_of}
use Rattle.capn_pack.proofs.runs.few_zeros.Goals as goal

pub loop-count-preserved : goal.loop-count-preserved
loop-count-preserved c =
    let one = zero_at _ _ 1 (omega arith) (omega arith)
    (sym (ap tag_of c.word_at.ensures) ∙ sym c.tag.ensures ∙ c.if-tag-ne0.false) in
    (omega arith, zero_steps _ _ _ _ c.loop-count.invariant.1 one (omega arith))

pub returns-else-start-count-clause-last : goal.returns-else-start-count-clause-last
returns-else-start-count-clause-last c less e =
    omega (arith, ap length e, no_word c.args.bytes.now _ c.loop-count.invariant.1.inside c.if-start-count.false)
