use Rattle.std.proofs.Common.{sym, refl, arith}
use Rattle.capn_text.specs.inner.Tokens.{indent_at, bit_at, is_bit}
use Rattle.capn_text.proofs.LineStops.{bits_full}
use Rattle.capn_text.proofs.StopLaws.{idle_none}
use Rattle.capn_text.proofs.RowStops.{row_open, row_lost, row_unindented, bits_fill, bits_in, bits_all}
use Rattle.capn_text.proofs.leaves.stop_in_bits.Goals.{else-digits-count-via-then-digits-count+else-are_bits}
use Rattle.capn_text.proofs.leaves.stop_in_bits.Goals.{else-digits-count-via-else-digits-count}
use Rattle.capn_text.proofs.leaves.stop_in_bits.Goals as goal

pub returns-then-are_bits : goal.returns-then-are_bits
returns-then-are_bits c =
    let few = c.if-digits-count.true in
    row_open bit_at c.args.level 1 is_bit refl bits_fill bits_in bits_all c.args.count c.args.text.now
    c.in-Ok.digits.now c.requires.none c.in-Ok.ensures (sym c.if-are_bits.ensures) (omega arith)

pub returns-else-digits-count : goal.returns-else-digits-count
returns-else-digits-count c =
    row_lost bit_at c.args.level 1 is_bit refl bits_fill bits_in bits_all c.args.count c.args.text.now
    c.in-Ok.digits.now c.requires.none
    c.in-Ok.ensures (λ low all. elim c.else-digits-count.branch [
      | else-digits-count-via-then-digits-count+else-are_bits w ↦
          (let other = w.if-are_bits.ensures in absurd cc)
      | else-digits-count-via-else-digits-count w ↦
          (let many = w.if-digits-count.false in absurd (omega arith))
    ])

pub returns-in-Err : goal.returns-in-Err
returns-in-Err c =
    rw c.stop_in.ensures (row_unindented bit_at c.args.level c.args.count c.args.text.now c.requires.level
    c.requires.none (idle_none c.in-Err.field-0 (indent_at c.args.level c.args.text.now) c.in-Err.ensures)
    (λ n. let full = bits_full c.args.level n in (full.0, full.1, full.2 0)))
