use Rattle.std.proofs.Common.{ℕ, ◌*◌, ap, ◌∙◌, arith}
use Rattle.capn_words.specs.Message.{bytes_at}
use Rattle.capn_walk.specs.Accepted.{root}
use Rattle.capn_target.proofs.shared.OneBare.{first-words}
use Rattle.capn_canon.proofs.calls.OnlySegment.{one_segment}
use Rattle.capn_canon.proofs.one_segment.only_bytes.Goals as goal

pub returns-clause-one : goal.returns-clause-one
returns-clause-one g c =
    let m = g.S.Space.message c.args.space.now in
    let n = first-words m c.words.result c.unwrap_or-words.result c.words.ensures c.unwrap_or-words.ensures in
    let k = c.if-segments-ne1.false in
    let l = c.segments.ensures.count in
    one_segment m c.bytes.result.now c.segments.ensures.bounds (omega arith)
    (c.bytes.ensures ∙ ap (λ (j : ℕ). bytes_at m root (8 * j)) n)
