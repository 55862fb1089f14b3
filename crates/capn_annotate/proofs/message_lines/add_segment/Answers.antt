use Rattle.std.proofs.Common.{◌+◌, [], false, refl, arith, ◌++◌, ◌∙◌, Ok, Err}
use Rattle.capn_words.specs.Watched.{has_failed, inner_of}
use Rattle.capn_serve.specs.Outgoing.{outgoing}
use Rattle.capn_annotate.specs.LineTexts.{line_text}
use Rattle.capn_annotate.specs.MessageLines.{lines_text}
use Rattle.capn_annotate.proofs.Added.{before, both, by_nothing, other_text, passed}
use Rattle.capn_annotate.proofs.Loops.{begins-next, finished, rest_of, step, whole}
use Rattle.capn_annotate.proofs.message_lines.add_segment.Goals as goal

pub loop-word-init : goal.loop-word-init
loop-word-init g c =
    record {
      fine = c.requires.fine;
      within = omega arith;
      begins = λ _. refl;
      done = [];
      added = by_nothing (outgoing (g.W.Write.contents (inner_of c.args.writer.now)) c.args.text.now.items) false refl;
      rest = refl;
    }

pub loop-word-preserved : goal.loop-word-preserved
loop-word-preserved g c =
    let m = g.S.Space.message c.args.space.now in
    let old = outgoing (g.W.Write.contents (inner_of c.args.writer.now)) c.args.text.now.items in
    let here = outgoing (g.W.Write.contents (inner_of c.loop-word.writer)) c.loop-word.text.items in
    let new = outgoing (g.W.Write.contents (inner_of c.add_line.new.writer)) c.add_line.new.text.items in
    let i = c.loop-word.invariant in
    let w = c.loop-word.word in
    let line = c.line_at-line.result in
    let exact = c.line_at-line.ensures.exact in
    let count = c.segment_length-count.ensures in
    let below = rw count at c.loop-word-test.true in
    let more = c.in_ok-add_line.ensures in
    record {
      fine = more.1;
      within = let k = c.line_at-line.ensures.within in omega arith;
      begins = λ h.
          begins-next m c.args.words.now c.args.start c.args.levels c.args.segment w line exact (rw count at h);
      done = i.done ++ line_text m c.args.words.now c.args.start c.args.levels line;
      added = both old here new i.done (line_text m c.args.words.now c.args.start c.args.levels line) false false
          (Ok tt) i.added (more.0, refl, more.2);
      rest = step m c.args.words.now c.args.start c.args.levels c.args.segment w line exact below
          (i.begins c.loop-word-test.true) i.done i.rest;
    }

pub returns-in_err-add_line : goal.returns-in_err-add_line
returns-in_err-add_line g c =
    let m = g.S.Space.message c.args.space.now in
    let old = outgoing (g.W.Write.contents (inner_of c.args.writer.now)) c.args.text.now.items in
    let here = outgoing (g.W.Write.contents (inner_of c.loop-word.writer)) c.loop-word.text.items in
    let new = outgoing (g.W.Write.contents (inner_of c.add_line.new.writer)) c.add_line.new.text.items in
    let i = c.loop-word.invariant in
    let w = c.loop-word.word in
    let line = c.line_at-line.result in
    let exact = c.line_at-line.ensures.exact in
    let text = line_text m c.args.words.now c.args.start c.args.levels line in
    let rest = rest_of m c.args.words.now c.args.start c.args.levels c.args.segment (w + line.words) in
    let failed = has_failed c.add_line.new.writer in
    let below = rw c.segment_length-count.ensures at c.loop-word-test.true in
    let fault = c.in_err-add_line.field-0.0 in
    let same = step m c.args.words.now c.args.start c.args.levels c.args.segment w line exact below
    (i.begins c.loop-word-test.true) i.done i.rest
    ∙ whole m c.args.words.now c.args.start c.args.levels c.args.segment in
    passed old new (lines_text m c.args.words.now c.args.start c.args.levels _) failed c.from_residual.result fault
    c.from_residual.ensures.1
    (other_text old new ((i.done ++ text) ++ rest) _ failed (Err fault) same
    (before old new (i.done ++ text) rest failed fault
    (both old here new i.done text false failed (Err fault) i.added c.in_err-add_line.ensures)))

pub returns : goal.returns
returns g c =
    let m = g.S.Space.message c.args.space.now in
    let old = outgoing (g.W.Write.contents (inner_of c.args.writer.now)) c.args.text.now.items in
    let here = outgoing (g.W.Write.contents (inner_of c.loop-word.writer)) c.loop-word.text.items in
    let i = c.loop-word.invariant in
    let end = rw c.segment_length-count.ensures at c.loop-word-test.false in
    let adds = other_text old here i.done _ false (Ok tt)
    (finished m c.args.words.now c.args.start c.args.levels c.args.segment c.loop-word.word end i.done i.rest)
    i.added in
    (adds.0, i.fine, adds.2)
