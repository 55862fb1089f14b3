use Rattle.std.proofs.Common.{arith, refl, string_bytes}
use Rattle.capn_value.proofs.Numbered.{word_written, words_written}
use Rattle.capn_value.proofs.text.word_lines.Goals as goal

pub loop-word-preserved : goal.loop-word-preserved
loop-word-preserved g c =
    word_written (string_bytes c.loop-word.out) c.args.level c.args.words.now _ c.loop-word.invariant _ _ (omega arith)
    refl c.in_ok-word_line.ensures

pub returns : goal.returns
returns g c =
    words_written (string_bytes c.loop-word.out) c.args.level c.args.words.now _ c.loop-word.invariant (omega arith)
