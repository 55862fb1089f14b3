use Rattle.std.proofs.Common.{◌≡◌, ◌+◌, ◌*◌, ◌≤◌, ◌++◌, drop, length}
use Rattle.capn_words.specs.Message.{words_in}
use Rattle.capn_value.specs.Tree.{count_rows}
use Rattle.capn_value.specs.TreeOf.{rows_of}
use Rattle.capn_layout.specs.LayoutSteps.{zero_rows}
use Rattle.capn_layout.specs.Sound.{AreWide}
use Rattle.capn_layout.specs.inner.Draft.{IsKept}
use Rattle.capn_layout.proofs.tree_slots.push_bodies.Given as goal

abbrev pub invariant-loop-row : goal.invariant-loop-row
invariant-loop-row g l = record {
  rest : words_in l.end l.out ++ zero_rows l.words l.slots (rows_of (drop l.row-index l.bodies))
      ≡ words_in l.len l.initial.out ++ zero_rows l.words l.slots (rows_of l.bodies);
  wide : AreWide l.words l.slots (rows_of (drop l.row-index l.bodies));
  room : 8 * (l.end + count_rows (rows_of (drop l.row-index l.bodies)) * (l.words + l.slots)) ≤ length l.out;
  since : l.len ≤ l.end;
  same : IsKept l.end l.initial.out l.out;
}
