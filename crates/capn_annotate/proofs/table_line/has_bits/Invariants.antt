use Rattle.std.proofs.Common.{◌≡◌, drop}
use Rattle.capn_annotate.specs.Table.{has_bits}
use Rattle.capn_annotate.proofs.table_line.has_bits.Given as goal

-- No bit was found so far.
abbrev pub invariant-loop-i : goal.invariant-loop-i
invariant-loop-i l = has_bits l.bytes ≡ has_bits (drop l.i l.bytes)
