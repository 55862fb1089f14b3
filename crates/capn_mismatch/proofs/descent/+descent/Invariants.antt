use Rattle.std.proofs.Common.{◌+◌, ◌*◌}
use Rattle.capn_mismatch.proofs.descent.+descent.Given as goal

abbrev pub decreases-descend : goal.decreases-descend
decreases-descend g l = 2 * l.depth

abbrev pub decreases-descend_below : goal.decreases-descend_below
decreases-descend_below g l = 2 * l.depth + 1
