use Rattle.std.proofs.Common.{◌≡◌, ℕ, ◌<◌, ◌≤◌, ◌%◌, get_or, length}
use Rattle.capn_digests.specs.Buckets.{IsHeld, no_slot}
use Rattle.capn_digests.proofs.doubling.kept.Given as goal

abbrev pub invariant-loop-j : goal.invariant-loop-j
invariant-loop-j l =
    record {
      sized : length l.kept ≡ 16;
      few : l.new.count ≤ l.j;
      fewer : l.new.count ≤ l.head.count;
      overflowed : l.new.overflowed ≡ l.head.overflowed;
      held : (k : ℕ) → k < l.j → k < l.head.count → (get_or l.bucket k no_slot).tag % l.buckets ≡ l.at
          → IsHeld l.new l.kept (get_or l.bucket k no_slot);
    }
