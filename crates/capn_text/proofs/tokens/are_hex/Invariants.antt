use Rattle.std.proofs.Common.{◌≡◌, length}
use Rattle.capn_text.specs.inner.Tokens.{are_all, is_hex}
use Rattle.capn_text.proofs.tokens.are_hex.Given as goal

abbrev pub invariant-loop-rest : goal.invariant-loop-rest
invariant-loop-rest l = are_all is_hex l.rest ≡ are_all is_hex l.text

abbrev pub decreases-loop-rest : goal.decreases-loop-rest
decreases-loop-rest l = length l.rest
