use Rattle.std.proofs.Common.{◌+◌, ℕ, ap, arith, refl, ◌∙◌}
use Rattle.std.proofs.lemmas.List.{length-set}
use Rattle.capn_words.specs.declared.pointer.Width.TheVariants as widths
use Rattle.capn_walk.specs.View as seen
use Rattle.capn_show.proofs.BitDigits.{bit-set}
use Rattle.capn_show.proofs.lines.word_bits.Goals as goal

pub loop-i-init : goal.loop-i-init
loop-i-init c = record { size = refl; each = λ j h. absurd (omega arith) }

pub loop-i-preserved : goal.loop-i-preserved
loop-i-preserved c =
    let lt = c.loop-i-test.true in
    record {
      size = length-set c.loop-i.digits c.loop-i.i (48 + c.digit.result) ∙ c.loop-i.invariant.size;
      each = bit-set c.loop-i.digits c.loop-i.i (48 + c.digit.result) (λ k. 48 + seen.digit widths.W1 c.args.word k)
          c.loop-i.invariant.size (omega arith) c.loop-i.invariant.each (ap (λ (x : ℕ). 48 + x) c.digit.ensures);
    }

pub returns-clause-size : goal.returns-clause-size
returns-clause-size c = c.loop-i.invariant.size

pub returns-clause-each : goal.returns-clause-each
returns-clause-each c j h = c.loop-i.invariant.each j (omega arith)
