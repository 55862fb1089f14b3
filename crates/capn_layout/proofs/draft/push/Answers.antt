use Rattle.std.proofs.Common.{◌+◌, refl, arith}
use Rattle.capn_words.specs.Message.{word_bytes}
use Rattle.capn_layout.proofs.writer.Drafted.{pushed}
use Rattle.capn_layout.proofs.draft.push.Goals as goal

pub returns : goal.returns
returns c =
    pushed c.args.len (c.args.len + 1) c.args.word (word_bytes c.args.word) c.args.out.now c.write_word.new.out
    c.requires (omega arith) refl refl c.write_word.ensures
