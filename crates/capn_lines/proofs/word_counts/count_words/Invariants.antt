use Rattle.std.proofs.Common.{◌≡◌}
use Rattle.capn_lines.specs.inner.Counted.{counted}
use Rattle.capn_lines.proofs.word_counts.count_words.Given as goal

abbrev pub invariant-loop-segment : goal.invariant-loop-segment
invariant-loop-segment g l = l.sum ≡ counted (g.S.Space.message l.space) l.words l.segment
