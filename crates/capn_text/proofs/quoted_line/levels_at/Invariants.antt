use Rattle.std.proofs.Common.{◌≡◌, ◌≤◌, ◌+◌, ◌*◌, length}
use Rattle.capn_text.specs.inner.QuotedLines.{levels_at}
use Rattle.capn_text.proofs.Quotes.{added}
use Rattle.capn_text.proofs.quoted_line.levels_at.Given as goal

abbrev pub invariant-loop-after : goal.invariant-loop-after
invariant-loop-after l = record {
  levels : added l.level (levels_at l.rest) ≡ levels_at l.text;
  within : 2 * l.level + length l.rest ≡ length l.text;
}

abbrev pub decreases-loop-after : goal.decreases-loop-after
decreases-loop-after l = length l.rest
