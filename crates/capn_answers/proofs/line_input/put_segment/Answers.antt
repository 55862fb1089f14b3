use Rattle.std.proofs.Common.{rules, ◌≡◌, ◌<◌, ◌≤◌, ◌+◌, suc, List, ◌∷◌, length, set, refl, ap, sym, subst, ◌∙◌, arith}
use Rattle.capn_lines.specs.Lines.{segment_lines}
use Rattle.capn_lines.specs.declared.line.Line.{Line}
use Rattle.capn_answers.specs.LineRecords.{c_line}
use Rattle.capn_answers.specs.declared.line_record.CapnLine.{CapnLine}
use Rattle.capn_answers.specs.inner.Filled.{written_from}
use Rattle.capn_answers.proofs.WrittenLines.{line-written, more, none-left, number-room, rest_of, set-past, whole}
use Rattle.capn_answers.proofs.line_input.put_segment.Goals as goal
use Rattle.capn_answers.proofs.line_input.put_segment.Goals.{then-i-out, else-i-out}

pub lines-init : goal.lines-init
lines-init g c =
    let m = g.S.Space.message c.args.space.now in
    let all = whole m c.args.words.now c.args.segment in
    record {
      within = omega arith;
      begin = λ h. refl;
      few = omega arith;
      count = ap (λ (ls : List Line). c.args.first + length ls) all;
      written = ap (λ (ls : List Line). written_from c.args.table m c.args.first ls c.args.out.now) all;
    }

pub overflow_add-next : goal.overflow_add-next
overflow_add-next g c =
    let m = g.S.Space.message c.args.space.now in
    let e = c.segment_length.ensures in
    let below = rw e at c.lines-test.true in
    let room = number-room m c.args.segment c.lines.word c.requires.message c.requires.exists below in
    let few = c.lines.invariant.few in
    let before = c.requires.few in
    omega arith

pub lines-smaller : goal.lines-smaller
lines-smaller g c =
    let some = c.line_at-line.ensures.some in
    let within = c.line_at-line.ensures.within in
    omega arith

pub lines-preserved : goal.lines-preserved
lines-preserved g c =
    let m = g.S.Space.message c.args.space.now in
    let i = c.lines.invariant in
    let line = c.line_at-line.result in
    let rest = rest_of m c.args.words.now c.args.segment (c.lines.word + line.words) in
    let e = c.segment_length.ensures in
    let below = rw e at c.lines-test.true in
    let is = more m c.args.words.now c.args.segment c.lines.word line c.line_at-line.ensures.exact below
    (i.begin below) in
    let count = ap (λ (ls : List Line). length ls) is in
    let before = i.count in
    let one : set c.lines.out c.lines.next (c_line c.args.table m line) ≡ c.if-i-out.out = elim c.if-i-out.branch [
      | then-i-out w ↦
          ap (λ (r : CapnLine). set c.lines.out c.lines.next r) (sym w.record_of.ensures) ∙ sym w.out-is
      | else-i-out w ↦
          let out = w.out-is in
          let past = w.if-i-out in
          set-past c.lines.out c.lines.next (c_line c.args.table m line) (omega arith) ∙ sym out
    ] in
    record {
      within = c.line_at-line.ensures.within;
      begin = c.line_at-line.ensures.next;
      few = let f = i.few in omega arith;
      count = omega arith;
      written = line-written c.args.table m c.args.words.now c.lines.next line
          (rest_of m c.args.words.now c.args.segment c.lines.word) rest c.lines.out c.if-i-out.out is one
          ∙ i.written;
    }

pub returns-clause-count : goal.returns-clause-count
returns-clause-count g c =
    let m = g.S.Space.message c.args.space.now in
    let e = c.segment_length.ensures in
    let end = rw e at c.lines-test.false in
    let none = none-left m c.args.words.now c.args.segment c.lines.word (omega arith) in
    let count = rw none at c.lines.invariant.count in
    omega arith

pub returns-clause-few : goal.returns-clause-few
returns-clause-few g c =
    let few = c.lines.invariant.few in
    let within = c.lines.invariant.within in
    let before = c.requires.few in
    omega arith

pub returns-clause-written : goal.returns-clause-written
returns-clause-written g c =
    let m = g.S.Space.message c.args.space.now in
    let e = c.segment_length.ensures in
    let end = rw e at c.lines-test.false in
    let none = none-left m c.args.words.now c.args.segment c.lines.word (omega arith) in
    rw none at c.lines.invariant.written
