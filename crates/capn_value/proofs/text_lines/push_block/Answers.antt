use Rattle.std.proofs.Common.{length, arith, ap, sym, ◌∙◌}
use Rattle.std.proofs.lemmas.List.{length-set}
use Rattle.std.proofs.lemmas.Str.{IsUtf8-from_ascii}
use Rattle.capn_value.specs.Text.{digit, digits_of}
use Rattle.capn_value.proofs.Digits.{digits_of-all, digits_of-ascii, digits_of-more}
use Rattle.capn_value.proofs.text_lines.push_block.Goals.{then-bits-i, else-bits-i}
use Rattle.capn_value.proofs.text_lines.push_block.Goals as goal

pub loop-i-preserved : goal.loop-i-preserved
loop-i-preserved g c =
    let so_far = c.loop-i.invariant in
    record {
      room = length-set c.loop-i.digits c.loop-i.i c.if-bits-i.digits ∙ so_far.room;
      written = digits_of-more c.loop-i.digits c.args.bits.now c.loop-i.i c.if-bits-i.digits
          (let room = so_far.room in omega arith) (omega arith)
          (elim c.if-bits-i.branch [
            | then-bits-i w ↦ w.digits-is ∙ ap digit (sym w.if-bits-i.true)
            | else-bits-i w ↦ w.digits-is ∙ ap digit (sym w.if-bits-i.false)
          ]) so_far.written;
    }

pub unreachable-requires : goal.unreachable-requires
unreachable-requires g c =
    let bits = c.args.bits.now in
    let text = digits_of-all c.loop-i.digits bits c.loop-i.i (length bits) (omega arith) (omega arith)
    c.loop-i.invariant.written in
    c.in_default.ensures.cases.0 (rw text (IsUtf8-from_ascii (digits_of bits) (digits_of-ascii bits)))
