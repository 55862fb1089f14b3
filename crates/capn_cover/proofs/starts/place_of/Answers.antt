use Rattle.std.proofs.Common.{◌-◌, slice_index, sym, refl, arith}
use Rattle.capn_cover.proofs.PlaceOf.{place-found, place-lost}
use Rattle.capn_cover.proofs.starts.place_of.Goals as goal

pub returns-then-word-segment_length-clause-place : goal.returns-then-word-segment_length-clause-place
returns-then-word-segment_length-clause-place g c =
    let m = g.S.Space.message c.args.space.now in
    let s = c.segment_of-segment.result in
    let e = c.segment_length.ensures in
    sym (place-found m c.args.before.now c.args.number s (c.args.number - slice_index c.args.before.now s)
    c.requires.counts c.segment_of-segment.ensures refl (omega (arith, c.if-word-segment_length.true)))

pub returns-else-word-segment_length-clause-place : goal.returns-else-word-segment_length-clause-place
returns-else-word-segment_length-clause-place g c =
    let m = g.S.Space.message c.args.space.now in
    let s = c.segment_of-segment.result in
    let e = c.segment_length.ensures in
    sym (place-lost m c.args.before.now c.args.number s (c.args.number - slice_index c.args.before.now s)
    c.requires.counts c.segment_of-segment.ensures refl (omega (arith, c.if-word-segment_length.false)))
