-- The proof of `Segments::bytes`.
use Rattle.std.proofs.Common.{◌∙◌, arith}
use Rattle.capn_stream.proofs.Held.{none, seen_bytes, seen_count, seen_length}
use Rattle.capn_stream.proofs.segments.SegmentsSpace.bytes.Goals as goal

pub part-requires : goal.part-requires
part-requires c =
    let here = seen_count c.self.inside.segments.now c.args.self.now c.self.view_is c.args.at.segment
    none c.requires.0 in
    omega (
      arith,
      c.requires.1,
      seen_length c.self.inside.segments.now c.args.self.now c.self.view_is c.args.at.segment
          none here,
    )

pub returns : goal.returns
returns c =
    c.part.ensures
    ∙ seen_bytes c.self.inside.segments.now c.args.self.now c.self.view_is c.args.at.segment
    none c.self.invariant.1 c.args.at.word c.args.len c.requires.0
