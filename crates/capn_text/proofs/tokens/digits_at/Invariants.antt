use Rattle.std.proofs.Common.{◌≡◌, length}
use Rattle.capn_text.specs.inner.Tokens.{digits_at}
use Rattle.capn_text.proofs.tokens.digits_at.Given as goal

abbrev pub invariant-loop-rest : goal.invariant-loop-rest
invariant-loop-rest l = digits_at l.number l.rest ≡ digits_at 0 l.text

abbrev pub decreases-loop-rest : goal.decreases-loop-rest
decreases-loop-rest l = length l.rest
