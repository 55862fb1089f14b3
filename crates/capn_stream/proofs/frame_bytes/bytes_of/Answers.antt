use Rattle.std.proofs.Common.{◌*◌, ◌∙◌, arith}
use Rattle.std.proofs.lemmas.List.{take_all}
use Rattle.capn_words.specs.Message.{bytes, segment_at}
use Rattle.capn_stream.proofs.shared.Cutting.{words_of_is}
use Rattle.capn_words.proofs.shared.Words.{length-bytes}
use Rattle.capn_stream.proofs.frame_bytes.bytes_of.Goals as goal

pub returns : goal.returns
returns g c =
    let size = words_of_is (g.S.Space.message c.args.space.now) c.args.segment c.args.words c.requires in
    c.bytes.ensures
    ∙ take_all (8 * c.args.words) (bytes (segment_at (g.S.Space.message c.args.space.now) c.args.segment))
    (omega (arith, size, length-bytes (segment_at (g.S.Space.message c.args.space.now) c.args.segment)))
