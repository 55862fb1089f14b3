use Rattle.std.proofs.Common.{◌≡◌, ◌-◌}
use Rattle.capn_text.specs.inner.Tokens.{many, number_line_at}
use Rattle.capn_text.proofs.Loops.{with_front}
use Rattle.capn_text.proofs.StopLaws.{PassesOn}
use Rattle.capn_text.proofs.TreeStops.{numbers_by}
use Rattle.capn_text.proofs.leaves.pairs_at.Given as goal

abbrev pub invariant-loop : goal.invariant-loop
invariant-loop g l = record {
  so_far : with_front l.items.items (many (number_line_at 65535 l.level) (l.count - l.counter) l.rest)
      ≡ many (number_line_at 65535 l.level) l.count l.text;
  passes_on : PassesOn (numbers_by 65535 l.level) 0 l.count l.counter l.rest l.text;
}
