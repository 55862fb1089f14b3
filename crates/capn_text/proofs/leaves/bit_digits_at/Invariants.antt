use Rattle.std.proofs.Common.{◌≡◌, ◌-◌}
use Rattle.capn_text.specs.inner.Tokens.{many, bit_at}
use Rattle.capn_text.proofs.Loops.{with_front}
use Rattle.capn_text.proofs.leaves.bit_digits_at.Given as goal

abbrev pub invariant-loop : goal.invariant-loop
invariant-loop g l =
    with_front l.items.items (many bit_at (l.count - l.counter) l.rest) ≡ many bit_at l.count l.text
