use Rattle.std.proofs.Common.{◌≡◌, ◌≤◌, ◌+◌, List, ℕ, false, refl, arith, ◌++◌, ◌∙◌, sym, ap, length, Ok, Err}
use Rattle.capn_words.specs.Watched.{has_failed, inner_of}
use Rattle.capn_lines.specs.Lines.{segment_lines}
use Rattle.capn_serve.specs.Outgoing.{outgoing}
use Rattle.capn_annotate.specs.MessageLines.{lines_text}
use Rattle.capn_annotate.proofs.Added.{before, both, by_nothing, other_text, passed}
use Rattle.capn_annotate.proofs.Loops.{rest-of-segments, segment-more, text_before}
use Rattle.capn_annotate.proofs.message_lines.add_lines.Goals as goal

pub loop-segment-init : goal.loop-segment-init
loop-segment-init g c =
    record {
      fine = c.requires.fine;
      added = by_nothing (outgoing (g.W.Write.contents (inner_of c.args.writer.now)) c.args.text.now.items) false refl;
    }

pub loop-segment-preserved : goal.loop-segment-preserved
loop-segment-preserved g c =
    let m = g.S.Space.message c.args.space.now in
    let old = outgoing (g.W.Write.contents (inner_of c.args.writer.now)) c.args.text.now.items in
    let here = outgoing (g.W.Write.contents (inner_of c.loop-segment.writer)) c.loop-segment.text.items in
    let new = outgoing (g.W.Write.contents (inner_of c.add_segment.new.writer)) c.add_segment.new.text.items in
    let i = c.loop-segment.segment in
    let more = c.in_ok-add_segment.ensures in
    record {
      fine = more.1;
      added = other_text old new _ _ false (Ok tt)
          (sym (segment-more m c.args.words.now c.args.start c.args.levels i))
          (both old here new (text_before m c.args.words.now c.args.start c.args.levels i)
          (lines_text m c.args.words.now c.args.start c.args.levels (segment_lines m c.args.words.now i)) false false
          (Ok tt) c.loop-segment.invariant.added (more.0, refl, more.2));
    }

pub returns-in_err-add_segment : goal.returns-in_err-add_segment
returns-in_err-add_segment g c =
    let m = g.S.Space.message c.args.space.now in
    let old = outgoing (g.W.Write.contents (inner_of c.args.writer.now)) c.args.text.now.items in
    let here = outgoing (g.W.Write.contents (inner_of c.loop-segment.writer)) c.loop-segment.text.items in
    let new = outgoing (g.W.Write.contents (inner_of c.add_segment.new.writer)) c.add_segment.new.text.items in
    let i = c.loop-segment.segment in
    let failed = has_failed c.add_segment.new.writer in
    let fault = c.in_err-add_segment.field-0.0 in
    let count = c.segments-segment-end.ensures.count in
    let below = c.loop-segment-test.true in
    let within : i + 1 ≤ length m = omega arith in
    let r = rest-of-segments m c.args.words.now c.args.start c.args.levels (i + 1) (length m) within in
    let t = text_before m c.args.words.now c.args.start c.args.levels i in
    let u = lines_text m c.args.words.now c.args.start c.args.levels (segment_lines m c.args.words.now i) in
    let same = ap (λ (l : List ℕ). l ++ r.0) (sym (segment-more m c.args.words.now c.args.start c.args.levels i))
    ∙ sym r.1 in
    passed old new (text_before m c.args.words.now c.args.start c.args.levels (length m)) failed c.from_residual.result
    fault c.from_residual.ensures.1
    (other_text old new ((t ++ u) ++ r.0) _ failed (Err fault) same
    (before old new (t ++ u) r.0 failed fault
    (both old here new t u false failed (Err fault) c.loop-segment.invariant.added c.in_err-add_segment.ensures)))

pub returns : goal.returns
returns g c =
    let m = g.S.Space.message c.args.space.now in
    let old = outgoing (g.W.Write.contents (inner_of c.args.writer.now)) c.args.text.now.items in
    let here = outgoing (g.W.Write.contents (inner_of c.loop-segment.writer)) c.loop-segment.text.items in
    let i = c.loop-segment.segment in
    let count = c.segments-segment-end.ensures.count in
    let e : i ≡ length m = omega arith in
    let adds = other_text old here _ _ false (Ok tt)
    (ap (text_before m c.args.words.now c.args.start c.args.levels) e) c.loop-segment.invariant.added in
    (adds.0, c.loop-segment.invariant.fine, adds.2)
