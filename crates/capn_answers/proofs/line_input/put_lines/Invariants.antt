use Rattle.std.proofs.Common.{◌≡◌, ◌≤◌, length}
use Rattle.capn_cover.specs.Numbers.{number}
use Rattle.capn_lines.specs.Lines.{lines_before}
use Rattle.capn_answers.specs.inner.Filled.{written_from}
use Rattle.capn_answers.proofs.line_input.put_lines.Given as goal

-- The lines of the segments so far are counted and written.
abbrev pub invariant-loop-segment : goal.invariant-loop-segment
invariant-loop-segment g l = record {
  few : l.next ≤ number (g.S.Space.message l.space) (record { segment = l.segment; word = 0 });
  count : l.next ≡ length (lines_before (g.S.Space.message l.space) l.words l.segment);
  written : l.out ≡ written_from l.table (g.S.Space.message l.space) 0
      (lines_before (g.S.Space.message l.space) l.words l.segment) l.initial.out;
}
