use Rattle.std.proofs.Common.{◌≡◌, length, sym, ◌∙◌}
use Rattle.capn_words.specs.Message.{segment_at}
use Rattle.capn_path.proofs.Followed.{no-root, rootless}
use Rattle.capn_path.proofs.holder.held.Goals as goal

pub returns-then-segment_length-eq0 : goal.returns-then-segment_length-eq0
returns-then-segment_length-eq0 g c =
    let m = g.S.Space.message c.args.space.now in
    let none : length (segment_at (g.S.Space.message c.args.space.now) 0) ≡ 0 =
    sym c.segment_length.ensures ∙ c.if-segment_length-eq0.true in
    sym (no-root m c.args.path.now (length c.args.path.now) (rootless m none))
