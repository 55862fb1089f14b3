use Rattle.capn_words.specs.Message.{word_number}
use Rattle.capn_same.proofs.stepwise.Blocks.{one-alike}
use Rattle.capn_same.proofs.blocks.is_next_equal.Goals as goal

pub returns-clause-same : goal.returns-clause-same
unfolding word_number
returns-clause-same c =
    one-alike c.args.one.now c.args.two.now c.next_word.result c.next_word-2.result c.next_word.ensures.number
    c.next_word-2.ensures.number
