use Rattle.std.proofs.Common.{◌≡◌, length}
use Rattle.capn_quoted.specs.Reading.{goes_on_from, may_go_on}
use Rattle.capn_quoted.proofs.reading.may_go_on.Given as goal

abbrev pub invariant-loop-rest : goal.invariant-loop-rest
invariant-loop-rest l = goes_on_from l.stage l.rest ≡ may_go_on l.text

abbrev pub decreases-loop-rest : goal.decreases-loop-rest
decreases-loop-rest l = length l.rest
