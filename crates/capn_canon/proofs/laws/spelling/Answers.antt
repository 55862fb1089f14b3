use Rattle.std.proofs.Common.{refl}
use Rattle.capn_words.specs.Message.{word_bytes}
use Rattle.capn_canon.proofs.laws.spelling.Goals as goal

pub returns : goal.returns
unfolding word_bytes
returns c ws = refl
