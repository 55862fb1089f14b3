use Rattle.std.proofs.Common.{◌≡◌, ◌-◌}
use Rattle.capn_text.specs.inner.Tokens.{many, word_line_at}
use Rattle.capn_text.proofs.Loops.{with_front}
use Rattle.capn_text.proofs.StopLaws.{PassesOn}
use Rattle.capn_text.proofs.TreeStops.{words_by}
use Rattle.capn_text.proofs.leaves.words_at.Given as goal

abbrev pub invariant-loop : goal.invariant-loop
invariant-loop g l = record {
  so_far : with_front l.items.items (many (word_line_at l.level) (l.count - l.counter) l.rest)
      ≡ many (word_line_at l.level) l.count l.text;
  passes_on : PassesOn (words_by l.level) 0 l.count l.counter l.rest l.text;
}
