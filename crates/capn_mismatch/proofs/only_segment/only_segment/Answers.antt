use Rattle.capn_target.proofs.shared.OneBare.{one-bare}
use Rattle.capn_mismatch.proofs.only_segment.only_segment.Goals as goal

pub returns : goal.returns
returns g c =
    one-bare (g.S.Space.message c.args.space.now) c.bytes.result.now c.in-Ok.bare
    c.segments-segments.ensures.bounds c.requires.one (rw c.segment_length-words.ensures at c.bytes.ensures)
    c.in-Ok.ensures.exact
