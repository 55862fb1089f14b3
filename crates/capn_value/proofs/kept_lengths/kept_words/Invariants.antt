use Rattle.std.proofs.Common.{◌≡◌, ◌≤◌, take, length}
use Rattle.capn_value.specs.Trim.{kept_words}
use Rattle.capn_value.proofs.kept_lengths.kept_words.Given as goal

abbrev pub invariant-loop-n : goal.invariant-loop-n
invariant-loop-n l =
    record { within : l.n ≤ length l.words; so_far : kept_words (take l.n l.words) ≡ kept_words l.words }

abbrev pub decreases-loop-n : goal.decreases-loop-n
decreases-loop-n l = l.n
