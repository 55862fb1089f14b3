use Rattle.std.proofs.Common.{◌≡◌, ◌*◌, length}
use Rattle.capn_layout.proofs.zero_bytes.zeros.Given as goal

abbrev pub invariant-loop-block : goal.invariant-loop-block
invariant-loop-block g l = record {
  copied : length l.bytes.items ≡ 1024 * l._block;
}
