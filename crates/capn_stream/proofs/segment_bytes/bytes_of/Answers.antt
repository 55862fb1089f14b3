-- The proof of `bytes_of`: the bytes of 8-byte words.
use Rattle.std.proofs.Common.{length, ap, sym, ◌∙◌, rules, subst}
use Rattle.capn_words.specs.Message.{AreBytes}
use Rattle.capn_stream.proofs.Joined.{length-joined, all_words}
use Rattle.capn_stream.proofs.segment_bytes.bytes_of.Goals as goal

pub joined_bytes-requires : goal.joined_bytes-requires
joined_bytes-requires c = (length-joined c.args.words.now c.told-words, search rules)

pub returns-clause-count : goal.returns-clause-count
returns-clause-count c =
    ap length (c.as_bytes.ensures.same ∙ c.joined_bytes.ensures) ∙ sym (length-joined c.args.words.now c.told-words)

pub returns-clause-each : goal.returns-clause-each
returns-clause-each c =
    all_words c.args.words.now c.told-words (subst AreBytes c.joined_bytes.ensures c.as_bytes.ensures.each)
