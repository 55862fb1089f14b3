use Rattle.std.proofs.Common.{◌<◌, length, arith}
use Rattle.capn_words.specs.Message.{segment_at}
use Rattle.capn_walk.specs.Accepted.{root}
use Rattle.capn_target.proofs.shared.Inside.{found-inside}
use Rattle.capn_walk.proofs.view.View.root.Goals as goal

pub invariant_of-result : goal.invariant_of-result
invariant_of-result g c =
    let m = g.S.Space.message c.args.space.now in
    let some : 0 < length (segment_at (g.S.Space.message c.args.space.now) 0) = omega arith in
    (c.segments-bounds.ensures.bounds, found-inside m root c.in-Ok.target some cc)
