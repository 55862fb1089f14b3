use Rattle.std.proofs.Common.{◌≡◌, ◌-◌}
use Rattle.capn_text.specs.inner.Tokens.{many, byte_at}
use Rattle.capn_text.proofs.Loops.{with_front}
use Rattle.capn_text.proofs.leaves.byte_digits_at.Given as goal

abbrev pub invariant-loop : goal.invariant-loop
invariant-loop g l =
    with_front l.items.items (many byte_at (l.count - l.counter) l.rest) ≡ many byte_at l.count l.text
