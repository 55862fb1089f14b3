use Rattle.std.proofs.Common.{◌≡◌, drop}
use Rattle.capn_value.specs.TreeOf.{rows_of}
use Rattle.capn_value.specs.Fits as fits
use Rattle.capn_value.proofs.part_flaws.has_wide_row.Given as goal

abbrev pub invariant-loop-body : goal.invariant-loop-body
invariant-loop-body g l =
    fits.has_wide_row (rows_of (drop l.body-index l.bodies)) ≡ fits.has_wide_row (rows_of l.bodies)
