use Rattle.std.proofs.Common.{ap, sym, Some}
use Rattle.capn_words.proofs.shared.OneSegment.{seen_length}
use Rattle.capn_words.proofs.bare.BareSpace.words.Goals as goal

pub returns-then-segment-eq0 : goal.returns-then-segment-eq0
returns-then-segment-eq0 c =
    let n = seen_length c.self.inside.bytes.now c.args.self.now c.self.view_is in
    rw c.if-segment-eq0.true (ap Some (sym n))
