use Rattle.std.proofs.Common.{◌≡◌, ◌≤◌, ◌+◌, ℕ, List, length, refl, ap, ap₂, sym, subst, ◌∙◌, arith}
use Rattle.capn_lines.specs.Lines.{lines_before, segment_lines}
use Rattle.capn_answers.specs.declared.line_record.CapnLine.{CapnLine}
use Rattle.capn_answers.specs.inner.Filled.{written_from}
use Rattle.capn_answers.proofs.WrittenLines.{number-next, segment-counted, segment-written, written_before}
use Rattle.capn_answers.proofs.line_input.put_lines.Goals as goal

pub loop-segment-init : goal.loop-segment-init
loop-segment-init g c = record { few = omega arith; count = refl; written = refl }

pub put_segment-next-requires-clause-few : goal.put_segment-next-requires-clause-few
put_segment-next-requires-clause-few g c = c.loop-segment.invariant.few

pub loop-segment-preserved : goal.loop-segment-preserved
loop-segment-preserved g c =
    let m = g.S.Space.message c.args.space.now in
    let s = c.loop-segment.segment in
    let i = c.loop-segment.invariant in
    let segments = c.segments-segment-end.ensures.count in
    let below = c.loop-segment-test.true in
    let next = number-next m s (omega arith) in
    let few = c.put_segment-next.ensures.few in
    let lines = segment_lines m c.args.words.now s in
    record {
      few = omega arith;
      count = let a = c.put_segment-next.ensures.count in
          let b = i.count in
          let d = segment-counted c.args.table m c.args.words.now s in
          omega arith;
      written = c.put_segment-next.ensures.written
          ∙ ap₂ (λ (n : ℕ) (out : List CapnLine). written_from c.args.table m n lines out) i.count i.written
          ∙ sym (segment-written c.args.table m c.args.words.now s c.args.out.now);
    }

pub returns-clause-count : goal.returns-clause-count
returns-clause-count g c =
    let m = g.S.Space.message c.args.space.now in
    let segments = c.segments-segment-end.ensures.count in
    let end = c.loop-segment-test.false in
    let within = c.loop-segment.auto.segment-end in
    let e : c.loop-segment.segment ≡ length m = omega arith in
    c.loop-segment.invariant.count ∙ ap (λ (n : ℕ). length (lines_before m c.args.words.now n)) e

pub returns-clause-written : goal.returns-clause-written
returns-clause-written g c =
    let m = g.S.Space.message c.args.space.now in
    let segments = c.segments-segment-end.ensures.count in
    let end = c.loop-segment-test.false in
    let within = c.loop-segment.auto.segment-end in
    let e : c.loop-segment.segment ≡ length m = omega arith in
    c.loop-segment.invariant.written
    ∙ ap (λ (n : ℕ). written_before c.args.table m c.args.words.now n c.args.out.now) e
