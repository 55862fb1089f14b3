use Rattle.capn_make.proofs.FramesOfCanon.{framed_are_frames}
use Rattle.capn_make.proofs.laws.framing.Goals as goal

pub returns : goal.returns
returns c = framed_are_frames c.canonicity.ensures.form
