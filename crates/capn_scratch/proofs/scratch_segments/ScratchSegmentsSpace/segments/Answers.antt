use Rattle.std.proofs.Common.{arith}
use Rattle.capn_stream.proofs.shared.Cutting.{seen_message}
use Rattle.capn_scratch.specs.inner.Ends.{numbers}
use Rattle.capn_scratch.proofs.EndWords.{cut_count}
use Rattle.capn_scratch.proofs.scratch_segments.ScratchSegmentsSpace.segments.Goals as goal

pub returns-clause-count : goal.returns-clause-count
returns-clause-count c =
    let i = c.self.inside in
    omega (arith, cut_count i.ends.now i.words c.args.self.now c.self.view_is c.self.invariant 0)

pub returns-clause-bounds : goal.returns-clause-bounds
returns-clause-bounds c =
    let i = c.self.inside in
    seen_message (numbers i.ends.now) i.words c.args.self.now c.self.view_is c.self.invariant
