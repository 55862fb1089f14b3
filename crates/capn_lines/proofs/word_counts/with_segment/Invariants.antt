use Rattle.std.proofs.Common.{◌≡◌}
use Rattle.capn_lines.specs.inner.Counted.{with_words}
use Rattle.capn_lines.proofs.word_counts.with_segment.Given as goal

abbrev pub invariant-loop-word : goal.invariant-loop-word
invariant-loop-word g l = l.more ≡ with_words (g.S.Space.message l.space) l.words l.segment l.word l.fn.sum
