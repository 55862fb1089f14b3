use Rattle.capn_text.proofs.leaves.bits_at.Goals as goal

pub stop_in_bits-requires-clause-none : goal.stop_in_bits-requires-clause-none
stop_in_bits-requires-clause-none g c = rw c.in-Err-Left.field-0-is at c.in-Err-Left.ensures

pub stop_in_bits-requires-in-Err-Cut-clause-none : goal.stop_in_bits-requires-in-Err-Cut-clause-none
stop_in_bits-requires-in-Err-Cut-clause-none g c = rw c.in-Err-Cut.field-0-is at c.in-Err-Cut.ensures

pub stop_in_bits-requires-in-Err-Deep-clause-none : goal.stop_in_bits-requires-in-Err-Deep-clause-none
stop_in_bits-requires-in-Err-Deep-clause-none g c = rw c.in-Err-Deep.field-0-is at c.in-Err-Deep.ensures
