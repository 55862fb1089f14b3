use Rattle.std.proofs.Common.{◌≡◌, drop}
use Rattle.capn_value.specs.TreeOf.{rows_of}
use Rattle.capn_value.specs.Fits as fits
use Rattle.capn_value.proofs.part_flaws.are_even.Given as goal

abbrev pub invariant-loop-body : goal.invariant-loop-body
invariant-loop-body g l =
    fits.are_even l.words l.slots (rows_of (drop l.body-index l.bodies))
    ≡ fits.are_even l.words l.slots (rows_of l.bodies)
