use Rattle.std.proofs.Common.{◌≡◌, ◌≤◌, length}
use Rattle.capn_value.specs.Tree.{front}
use Rattle.capn_value.specs.TreeOf.{trees_of}
use Rattle.capn_value.specs.Trim.{kept_slots}
use Rattle.capn_value.proofs.kept_lengths.kept_slots.Given as goal

abbrev pub invariant-loop-n : goal.invariant-loop-n
invariant-loop-n g l =
    record {
      within : l.n ≤ length l.slots;
      so_far : kept_slots (front l.n (trees_of l.slots)) ≡ kept_slots (trees_of l.slots);
    }

abbrev pub decreases-loop-n : goal.decreases-loop-n
decreases-loop-n g l = l.n
