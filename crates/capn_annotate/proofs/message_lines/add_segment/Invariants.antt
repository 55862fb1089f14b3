use Rattle.std.proofs.Common.{◌≡◌, ◌≤◌, ◌<◌, ◌-◌, ◌++◌, ℕ, List, true, false, Ok}
use Rattle.capn_words.specs.Watched.{has_failed, inner_of}
use Rattle.capn_lines.specs.Lines.{begins}
use Rattle.capn_serve.specs.Outgoing.{outgoing}
use Rattle.capn_annotate.specs.inner.Adding.{AddsText}
use Rattle.capn_annotate.proofs.Loops.{rest_of}
use Rattle.capn_annotate.proofs.message_lines.add_segment.Given as goal

-- The lines so far were added, and a line begins at `word` if the segment does not end there.
abbrev pub invariant-loop-word : goal.invariant-loop-word
invariant-loop-word g l = record {
  fine : has_failed l.writer ≡ false;
  within : l.word ≤ l.count;
  begins : l.word < l.count → begins (g.S.Space.message l.space) l.words l.segment l.word ≡ true;
  done : List ℕ;
  added : AddsText done
      (outgoing (g.W.Write.contents (inner_of l.initial.writer)) l.initial.text.items)
      (outgoing (g.W.Write.contents (inner_of l.writer)) l.text.items) false (Ok tt);
  rest : done ++ rest_of (g.S.Space.message l.space) l.words l.start l.levels l.segment l.word
      ≡ rest_of (g.S.Space.message l.space) l.words l.start l.levels l.segment 0;
}

abbrev pub decreases-loop-word : goal.decreases-loop-word
decreases-loop-word g l = l.count - l.word
