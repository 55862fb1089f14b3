use Rattle.std.proofs.Common.{◌+◌, arith, string_bytes}
use Rattle.capn_value.proofs.Numbered.{number_written, numbers_written, behind_first}
use Rattle.capn_value.proofs.text.show_pairs.Goals as goal

pub overflow_add-level : goal.overflow_add-level
overflow_add-level g c = omega arith

pub loop-x-preserved : goal.loop-x-preserved
loop-x-preserved g c =
    number_written (string_bytes c.loop-x.out) (c.args.level + 1) c.args.xs.now _ c.loop-x.invariant _ _ (omega arith)
    c.from.ensures c.in_ok-number_line.ensures

pub returns : goal.returns
returns g c =
    behind_first (string_bytes c.args.out.now) _ _ _
    (numbers_written (string_bytes c.loop-x.out) (c.args.level + 1) c.args.xs.now _ c.loop-x.invariant (omega arith))
    c.in_ok-named_line.ensures
