use Rattle.std.proofs.Common.{◌≡◌, length}
use Rattle.capn_text.specs.Beginnings.{may_count}
use Rattle.capn_text.proofs.quoted_line.may_count.Given as goal

abbrev pub invariant-loop-rest : goal.invariant-loop-rest
invariant-loop-rest l = may_count l.rest ≡ may_count l.text

abbrev pub decreases-loop-rest : goal.decreases-loop-rest
decreases-loop-rest l = length l.rest
