use Rattle.std.proofs.Common.{◌+◌, ◌%◌, ◌<◌, length, ap, ◌∙◌, arith}
use Rattle.std.proofs.lemmas.List.{get_or_default}
use Rattle.capn_layout.proofs.shared.EachRow.{kept_each-le}
use Rattle.capn_cover.specs.Covers.{unreached}
use Rattle.capn_cover.specs.inner.Marked.{marked_in}
use Rattle.capn_cover.proofs.Before.{within}
use Rattle.capn_cover.proofs.Marks.{rows-next}
use Rattle.capn_cover.proofs.cut_words.cut_rows.Goals as goal

pub marked_in-requires : goal.marked_in-requires
marked_in-requires g c =
    let m = g.S.Space.message c.args.space.now in
    let k = c.kept_each-kept_slots.ensures in
    let l = kept_each-le m c.args.start.segment (c.args.start.word + c.args.words) c.args.slots
    (c.args.words + c.args.slots) c.args.count in
    let a = c.ranges.words.fits in
    let b = c.ranges.slots.fits in
    omega arith

pub loop-i-preserved : goal.loop-i-preserved
loop-i-preserved g c =
    let m = g.S.Space.message c.args.space.now in
    let i = c.loop-i.i in
    let first = c.number_of-first.result in
    let step = c.args.words + c.args.slots in
    let t = within m c.args.start.segment c.requires.content.exists in
    let f = c.number_of-first.ensures in
    let w = c.requires.content.within in
    let e = c.requires.each in
    let k = c.loop-i.invariant.count in
    let lt = c.loop-i-test.true in
    let inside : c.number_of-first.result + c.loop-i.i < length c.loop-i.cells = omega arith in
    let d = get_or_default c.loop-i.cells (first + i) _ unreached inside in
    let same = c.marked_in.ensures
    ∙ ap (marked_in c.args.slot c.args.words c.kept_each-kept.result c.kept_each-kept_slots.result (i % step)) d in
    rw same (rows-next c.args.slot c.args.words c.kept_each-kept.result c.kept_each-kept_slots.result step first i
    c.args.cells.now c.loop-i.cells c.loop-i.invariant inside)
