use Rattle.std.proofs.Common.{◌≡◌, length}
use Rattle.capn_text.specs.inner.Tokens.{strip}
use Rattle.capn_text.proofs.tokens.skip.Given as goal

abbrev pub invariant-loop-left : goal.invariant-loop-left
invariant-loop-left l = strip l.left l.rest ≡ strip l.front l.text

abbrev pub decreases-loop-left : goal.decreases-loop-left
decreases-loop-left l = length l.left
