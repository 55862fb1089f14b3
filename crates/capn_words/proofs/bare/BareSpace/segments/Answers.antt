use Rattle.capn_words.proofs.shared.OneSegment.{seen_message}
use Rattle.capn_words.proofs.bare.BareSpace.segments.Goals as goal

pub returns-clause-bounds : goal.returns-clause-bounds
returns-clause-bounds c =
    seen_message c.self.inside.bytes.now c.args.self.now c.self.view_is c.self.invariant.2 c.self.invariant.1
