use Rattle.std.proofs.Common.{◌≡◌, ◌≤◌, ◌+◌, drop}
use Rattle.capn_pack.specs.Chosen.{zero_count}
use Rattle.capn_commands.proofs.pack_run.zeros_of.Given as goal

-- `zeros` is the number of zero bytes among the bytes before the current one.
abbrev pub invariant-loop-byte : goal.invariant-loop-byte
invariant-loop-byte l = record {
  few : l.zeros ≤ l.byte-index;
  counted : l.zeros + zero_count (drop l.byte-index l.bytes) ≡ zero_count l.bytes;
}
