use Rattle.std.proofs.Common.{rules, string_bytes, ◌∙◌}
use Rattle.std.specs.Slice.Iter.{chunks_rest}
use Rattle.capn_value.proofs.Digits.{digits_of-block}
use Rattle.capn_value.proofs.text_lines.push_bits.Goals as goal

pub loop-block-preserved : goal.loop-block-preserved
loop-block-preserved g c =
    let so_far = c.loop-block.invariant in
    let steps = c.in-Some.ensures.steps in
    record {
      next = search rules;
      ends = tt;
      size = steps.0 ∙ so_far.size;
      written = digits_of-block (string_bytes c.loop-block.out) _ _ (chunks_rest c.loop-block.block-iterator)
          c.in-Some.block.now (chunks_rest c.next.new.self) c.in_ok-push_block.ensures steps.1.0 so_far.written;
    }
