use Rattle.std.proofs.Common.{◌≡◌, length, arith}
use Rattle.capn_lines.proofs.Counted.{counted-up-to-at, is-counts, kinds-all}
use Rattle.capn_lines.proofs.Orders.{overlaps-shared, shared-reached}
use Rattle.capn_lines.proofs.word_counts.count_words.Goals as goal

pub with_segment-sum-requires-clause-few : goal.with_segment-sum-requires-clause-few
with_segment-sum-requires-clause-few g c =
    let m = g.S.Space.message c.args.space.now in
    let n = c.segments-segment-end.ensures.count in
    rw c.loop-segment.invariant (counted-up-to-at m c.args.words.now c.loop-segment.segment (omega arith))

pub returns-clause-counts : goal.returns-clause-counts
returns-clause-counts g c =
    let m = g.S.Space.message c.args.space.now in
    let n = c.segments-segment-end.ensures.count in
    let e : c.loop-segment.segment ≡ length m = omega arith in
    let i = rw e at c.loop-segment.invariant in
    rw i (is-counts m c.args.words.now)

pub returns-clause-kinds : goal.returns-clause-kinds
returns-clause-kinds g c =
    let m = g.S.Space.message c.args.space.now in
    rw c.loop-segment.invariant (kinds-all m c.args.words.now c.loop-segment.segment)

pub returns-clause-overlaps : goal.returns-clause-overlaps
returns-clause-overlaps g c limits h =
    let m = g.S.Space.message c.args.space.now in
    let i = returns-clause-counts g c in
    let a = overlaps-shared m limits c.args.words.now h in
    let x = i.overlap in
    let y = i.shared in
    rw (x, y) a

pub returns-clause-shared : goal.returns-clause-shared
returns-clause-shared g c limits h =
    let m = g.S.Space.message c.args.space.now in
    let i = returns-clause-counts g c in
    let a = shared-reached m limits c.args.words.now h in
    let x = i.shared in
    let y = i.unreached in
    let z = i.all_words in
    rw (x, y, z) a
