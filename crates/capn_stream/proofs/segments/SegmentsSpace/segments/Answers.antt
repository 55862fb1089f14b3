-- The proof of `Segments::segments`: the segments are a message.
use Rattle.std.proofs.Common.{subst}
use Rattle.capn_words.specs.Message.{IsMessage}
use Rattle.capn_stream.proofs.Held.{held_message}
use Rattle.capn_stream.proofs.segments.SegmentsSpace.segments.Goals as goal

pub returns-clause-bounds : goal.returns-clause-bounds
returns-clause-bounds c =
    subst IsMessage c.self.view_is (held_message c.self.inside.segments.now c.self.invariant.0 c.self.invariant.1)
