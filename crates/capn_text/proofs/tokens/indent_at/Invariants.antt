use Rattle.std.proofs.Common.{◌≡◌, ◌-◌}
use Rattle.capn_text.specs.inner.Tokens.{indent_at}
use Rattle.capn_text.proofs.tokens.indent_at.Given as goal

abbrev pub invariant-loop : goal.invariant-loop
invariant-loop l = indent_at (l.level - l.counter) l.rest ≡ indent_at l.level l.text
