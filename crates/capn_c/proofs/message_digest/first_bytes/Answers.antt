-- The bytes are all bytes of the first segment.
use Rattle.capn_c.proofs.Measures.{segment_bytes}
use Rattle.capn_c.proofs.message_digest.first_bytes.Goals as goal

pub returns : goal.returns
returns g c =
    segment_bytes (g.S.Space.message c.args.space.now) c.words.result c.unwrap_or-words.result c.bytes.result.now
    c.words.ensures c.unwrap_or-words.ensures c.bytes.ensures
