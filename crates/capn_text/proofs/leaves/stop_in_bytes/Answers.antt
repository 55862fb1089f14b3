use Rattle.std.proofs.Common.{sym, refl, arith}
use Rattle.capn_text.specs.inner.Tokens.{indent_at, byte_at, is_hex}
use Rattle.capn_text.proofs.LineStops.{bytes_full}
use Rattle.capn_text.proofs.StopLaws.{idle_none}
use Rattle.capn_text.proofs.RowStops.{row_open, row_lost, row_unindented, bytes_fill, bytes_in, bytes_all}
use Rattle.capn_text.proofs.leaves.stop_in_bytes.Goals.{else-bytes-count-via-then-bytes-count+else-are_hex}
use Rattle.capn_text.proofs.leaves.stop_in_bytes.Goals.{else-bytes-count-via-else-bytes-count}
use Rattle.capn_text.proofs.leaves.stop_in_bytes.Goals as goal

pub returns-then-are_hex : goal.returns-then-are_hex
returns-then-are_hex c =
    let few = c.if-bytes-count.true in
    row_open byte_at c.args.level 2 is_hex refl bytes_fill bytes_in bytes_all c.args.count c.args.text.now
    c.in-Ok.digits.now c.requires.none c.in-Ok.ensures (sym c.if-are_hex.ensures) (omega arith)

pub returns-else-bytes-count : goal.returns-else-bytes-count
returns-else-bytes-count c =
    row_lost byte_at c.args.level 2 is_hex refl bytes_fill bytes_in bytes_all c.args.count c.args.text.now
    c.in-Ok.digits.now c.requires.none
    c.in-Ok.ensures (λ low all. elim c.else-bytes-count.branch [
      | else-bytes-count-via-then-bytes-count+else-are_hex w ↦
          (let other = w.if-are_hex.ensures in absurd cc)
      | else-bytes-count-via-else-bytes-count w ↦
          (let many = w.if-bytes-count.false in absurd (omega arith))
    ])

pub returns-in-Err : goal.returns-in-Err
returns-in-Err c =
    rw c.stop_in.ensures (row_unindented byte_at c.args.level c.args.count c.args.text.now c.requires.level
    c.requires.none (idle_none c.in-Err.field-0 (indent_at c.args.level c.args.text.now) c.in-Err.ensures)
    (λ n. let full = bytes_full c.args.level n in (full.0, full.1, full.2 0)))
