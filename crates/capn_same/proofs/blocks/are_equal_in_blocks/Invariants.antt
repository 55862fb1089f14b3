use Rattle.std.proofs.Common.{◌≡◌, ◌+◌, ◌*◌, ◌≤◌, drop}
use Rattle.capn_same.specs.inner.Runs.{BeginAlike}
use Rattle.capn_same.proofs.blocks.are_equal_in_blocks.Given as goal

abbrev pub invariant-loop-block : goal.invariant-loop-block
invariant-loop-block g l = record {
  one : l.one ≡ drop (64 * l._block) l.initial.one;
  two : l.two ≡ drop (64 * l._block) l.initial.two;
  equal : BeginAlike l.initial.one l.initial.two (8 * l._block);
  first : l.first ≤ l.fn.first + 8 * l.blocks + l._block;
  second : l.second ≤ l.fn.second + 8 * l.blocks + l._block;
}
