use Rattle.std.proofs.Common.{◌≡◌, ◌+◌, ◌-◌, ◌*◌, ◌∙◌, arith}
use Rattle.capn_walk.specs.ValueAt.{words_from}
use Rattle.capn_walk.proofs.shared.RowWalks.{row-inside}
use Rattle.capn_target.proofs.shared.Segments.{segment-room}
use Rattle.capn_layout.proofs.shared.Cut.{part-le}
use Rattle.capn_layout.proofs.shared.EachRow.{kept-begins, kept-more, kept-full, kept-ends}
use Rattle.capn_cover.proofs.kept.kept_each.Goals as goal

pub loop-row-init : goal.loop-row-init
loop-row-init g c = record {
  next = omega arith;
  low = omega arith;
  rest = kept-begins (g.S.Space.message c.args.space.now) c.args.start.segment (c.args.start.word + c.args.inset)
      c.args.size c.args.step c.args.count;
}

pub overflow_add-at : goal.overflow_add-at
overflow_add-at g c =
    let m = g.S.Space.message c.args.space.now in
    let room = row-inside c.args.start.word c.args.count c.loop-row.row c.args.step c.loop-row.next _
    c.loop-row-test.true c.loop-row.invariant.next c.requires.content.within in
    let all = segment-room m c.args.start.segment c.requires.message c.requires.content.exists in
    let p = c.requires.part in
    omega arith

pub kept_above-kept-requires-clause-content : goal.kept_above-kept-requires-clause-content
kept_above-kept-requires-clause-content g c =
    let room = row-inside c.args.start.word c.args.count c.loop-row.row c.args.step c.loop-row.next _
    c.loop-row-test.true c.loop-row.invariant.next c.requires.content.within in
    let p = c.requires.part in
    record { exists = c.requires.content.exists; within = omega arith }

pub overflow_add-next : goal.overflow_add-next
overflow_add-next g c =
    let m = g.S.Space.message c.args.space.now in
    let room = row-inside c.args.start.word c.args.count c.loop-row.row c.args.step c.loop-row.next _
    c.loop-row-test.true c.loop-row.invariant.next c.requires.content.within in
    let all = segment-room m c.args.start.segment c.requires.message c.requires.content.exists in
    omega arith

pub loop-row-preserved : goal.loop-row-preserved
loop-row-preserved g c =
    let m = g.S.Space.message c.args.space.now in
    let k = part-le c.args.size (words_from m c.args.start.segment (c.loop-row.next + c.args.inset)) in
    let e = c.kept_above-kept.ensures in
    let l = c.loop-row.invariant.low in
    let n = c.loop-row.invariant.next in
    record {
      next = let d : (c.loop-row.row + 1) * c.args.step ≡ c.loop-row.row * c.args.step + c.args.step = omega arith in
          omega arith;
      low = omega arith;
      rest = kept-more m c.args.start.segment c.loop-row.next c.args.inset c.args.size c.args.step c.args.count
          c.loop-row.row c.loop-row.kept c.kept_above-kept.result c.loop-row-test.true e ∙ c.loop-row.invariant.rest;
    }

pub returns-then-kept-size : goal.returns-then-kept-size
returns-then-kept-size g c =
    kept-full (g.S.Space.message c.args.space.now) c.args.start.segment (c.loop-row.next + c.args.inset) c.args.size
    c.args.step (c.args.count - c.loop-row.row) c.loop-row.kept _ c.if-kept-size.true c.loop-row.invariant.rest

pub returns : goal.returns
returns g c =
    kept-ends (g.S.Space.message c.args.space.now) c.args.start.segment (c.loop-row.next + c.args.inset) c.args.size
    c.args.step c.args.count c.loop-row.row c.loop-row.kept _ c.loop-row-test.false c.loop-row.invariant.rest
