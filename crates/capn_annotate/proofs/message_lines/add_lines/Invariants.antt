use Rattle.std.proofs.Common.{◌≡◌, false, Ok}
use Rattle.capn_words.specs.Watched.{has_failed, inner_of}
use Rattle.capn_lines.specs.Lines.{lines_before}
use Rattle.capn_serve.specs.Outgoing.{outgoing}
use Rattle.capn_annotate.specs.MessageLines.{lines_text}
use Rattle.capn_annotate.specs.inner.Adding.{AddsText}
use Rattle.capn_annotate.proofs.message_lines.add_lines.Given as goal

-- The lines of the segments so far were added.
abbrev pub invariant-loop-segment : goal.invariant-loop-segment
invariant-loop-segment g l = record {
  fine : has_failed l.writer ≡ false;
  added : AddsText (lines_text (g.S.Space.message l.space) l.words l.start l.levels
      (lines_before (g.S.Space.message l.space) l.words l.segment))
      (outgoing (g.W.Write.contents (inner_of l.initial.writer)) l.initial.text.items)
      (outgoing (g.W.Write.contents (inner_of l.writer)) l.text.items) false (Ok tt);
}
