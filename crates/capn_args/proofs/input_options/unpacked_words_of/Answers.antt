use Rattle.std.proofs.Common.{◌≡◌, ◌≤◌, ◌^◌, true, false, arith}
use Rattle.capn_args.proofs.input_options.unpacked_words_of.Goals as goal

pub returns-in_err-message_words-clause-served : goal.returns-in_err-message_words-clause-served
returns-in_err-message_words-clause-served c most (n, is, fits, sum) =
    let small : n ≤ 2 ^ 28 = fits in
    let bad : false ≡ true = c.in_err-message_words.ensures.served n is (omega arith) in absurd cc
