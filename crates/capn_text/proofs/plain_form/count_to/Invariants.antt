use Rattle.std.proofs.Common.{◌≡◌, ◌+◌, length}
use Rattle.capn_text.specs.PlainForm as form
use Rattle.capn_text.proofs.plain_form.count_to.Given as goal

abbrev pub invariant-loop-rest : goal.invariant-loop-rest
invariant-loop-rest l = l.count + form.count_to l.n l.rest ≡ form.count_to l.n l.lines

abbrev pub decreases-loop-rest : goal.decreases-loop-rest
decreases-loop-rest l = length l.rest
