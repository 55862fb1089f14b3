use Rattle.std.proofs.Common.{arith}
use Rattle.capn_words.proofs.shared.OneSegment.{seen_length, seen_bytes, one_segment}
use Rattle.capn_words.proofs.bare.BareSpace.bytes.Goals as goal

pub part-requires : goal.part-requires
part-requires c =
    let s = one_segment c.args.self.now c.args.at.segment c.requires.0 in
    let n = seen_length c.self.inside.bytes.now c.args.self.now c.self.view_is in
    let e = rw s at c.requires.1 in
    omega arith

pub returns : goal.returns
returns c =
    let s = one_segment c.args.self.now c.args.at.segment c.requires.0 in
    let e = seen_bytes c.self.inside.bytes.now c.args.self.now c.self.view_is c.self.invariant.2 c.self.invariant.0 in
    rw (s, e) c.part.ensures
