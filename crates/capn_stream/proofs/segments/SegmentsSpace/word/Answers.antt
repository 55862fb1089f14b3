-- The proof of `Segments::word`.
use Rattle.std.proofs.Common.{◌∙◌, arith}
use Rattle.capn_stream.proofs.Held.{none, seen_here, seen_length, seen_word}
use Rattle.capn_stream.proofs.segments.SegmentsSpace.word.Goals as goal

pub word_at-requires : goal.word_at-requires
word_at-requires c =
    let here = seen_here c.self.inside.segments.now c.args.self.now c.self.view_is c.args.at.segment
    none c.args.at.word c.requires in
    omega (
      arith,
      c.requires,
      seen_length c.self.inside.segments.now c.args.self.now c.self.view_is c.args.at.segment
          none here,
    )

pub returns : goal.returns
returns c =
    c.word_at.ensures
    ∙ seen_word c.self.inside.segments.now c.args.self.now c.self.view_is c.args.at.segment
    none c.args.at.word c.requires
