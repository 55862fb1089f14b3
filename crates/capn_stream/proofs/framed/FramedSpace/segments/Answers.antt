use Rattle.std.proofs.Common.{arith}
use Rattle.capn_stream.specs.inner.KeptEnds.{kept}
use Rattle.capn_stream.proofs.shared.Cutting.{seen_count, seen_message}
use Rattle.capn_stream.proofs.framed.FramedSpace.segments.Goals as goal

pub returns-clause-count : goal.returns-clause-count
returns-clause-count g c =
    omega (
      arith,
      c.count.ensures,
      seen_count (kept c.self.inside.ends) c.self.inside.words c.args.self.now c.self.view_is c.self.invariant.1,
    )

pub returns-clause-bounds : goal.returns-clause-bounds
returns-clause-bounds g c =
    seen_message (kept c.self.inside.ends) c.self.inside.words c.args.self.now c.self.view_is c.self.invariant.1
