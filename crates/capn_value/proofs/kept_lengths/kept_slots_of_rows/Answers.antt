use Rattle.std.proofs.Common.{arith}
use Rattle.capn_value.proofs.Kept.{slots_taken, slots_all_taken}
use Rattle.capn_value.proofs.kept_lengths.kept_slots_of_rows.Goals as goal

pub loop-row-preserved : goal.loop-row-preserved
loop-row-preserved g c =
    slots_taken c.args.rows.now _ _ _ c.loop-row.invariant c.row-item.result (omega arith) c.row-item.is
    c.as_slice.ensures c.kept_slots.ensures c.max-most.ensures

pub returns : goal.returns
returns g c = slots_all_taken c.args.rows.now _ _ _ c.loop-row.invariant (omega arith)
