use Rattle.std.proofs.Common.{◌≡◌, ◌+◌, ◌++◌, List, ℕ, length, take, count_ones}
use Rattle.capn_pack.specs.Packed.{named_bytes, IsNamedBy}
use Rattle.capn_scratch.proofs.group.spread.Given as goal

-- The lowest `l.index` bits of `l.tag` have set the first `l.index` bytes of `l.word`. `l.left` has the other bits of
-- `l.tag`.
abbrev pub invariant-loop-index : goal.invariant-loop-index
invariant-loop-index g l = record {
  named : (ws : List ℕ) → IsNamedBy l.left ws → IsNamedBy l.tag (take l.index l.word ++ ws);
  bytes : (ws : List ℕ)
      → named_bytes l.tag (take l.index l.word ++ ws) ≡ take l.next l.bytes ++ named_bytes l.left ws;
  ones : l.next + count_ones l.left ≡ count_ones l.tag;
  room : length l.word ≡ 8;
  steps : l.steps ≡ l.fn.steps + l.index + l.next;
}
