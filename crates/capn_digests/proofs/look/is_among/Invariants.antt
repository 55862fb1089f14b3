use Rattle.std.proofs.Common.{◌≡◌, ◌≢◌, ℕ, ◌<◌, length, [], get_or}
use Rattle.capn_digests.specs.Buckets.{no_slot}
use Rattle.capn_digests.proofs.look.is_among.Given as goal

abbrev pub invariant-loop-slot : goal.invariant-loop-slot
invariant-loop-slot l =
    (k : ℕ) → k < l.slot-index → (get_or l.bucket k no_slot).tag ≡ l.tag
    → (get_or l.bucket k no_slot).at < length l.list
    → get_or l.list ((get_or l.bucket k no_slot).at) [] ≢ l.digest
