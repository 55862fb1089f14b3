use Rattle.std.proofs.Common.{◌≡◌, ◌<◌, ◌≤◌, ◌+◌, ◌-◌, true, length}
use Rattle.capn_words.specs.Message.{segment_at}
use Rattle.capn_lines.specs.Lines.{begins, segment_lines}
use Rattle.capn_answers.specs.inner.Filled.{written_from}
use Rattle.capn_answers.proofs.WrittenLines.{rest_of}
use Rattle.capn_answers.proofs.line_input.put_segment.Given as goal

-- If the lines from `word` on are counted and written too, all lines of the segment are.
abbrev pub invariant-lines : goal.invariant-lines
invariant-lines g l = record {
  within : l.word ≤ length (segment_at (g.S.Space.message l.space) l.segment);
  begin : l.word < length (segment_at (g.S.Space.message l.space) l.segment)
      → begins (g.S.Space.message l.space) l.words l.segment l.word ≡ true;
  few : l.next ≤ l.first + l.word;
  count : l.next + length (rest_of (g.S.Space.message l.space) l.words l.segment l.word)
      ≡ l.first + length (segment_lines (g.S.Space.message l.space) l.words l.segment);
  written : written_from l.table (g.S.Space.message l.space) l.next
      (rest_of (g.S.Space.message l.space) l.words l.segment l.word) l.out
      ≡ written_from l.table (g.S.Space.message l.space) l.first
      (segment_lines (g.S.Space.message l.space) l.words l.segment) l.initial.out;
}

abbrev pub decreases-lines : goal.decreases-lines
decreases-lines g l = length (segment_at (g.S.Space.message l.space) l.segment) - l.word
