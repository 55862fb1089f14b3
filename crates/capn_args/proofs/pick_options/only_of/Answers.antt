use Rattle.std.proofs.Common.{◌≡◌, ◌<◌, ◌≤◌, ◌^◌, true, false, arith}
use Rattle.capn_args.proofs.pick_options.only_of.Goals as goal

pub returns-in_err-words-clause-served : goal.returns-in_err-words-clause-served
returns-in_err-words-clause-served c only (form, (words, low, high), usual, list) =
    let most : only.limits.message_words ≤ 2 ^ 28 = high in
    let small : only.limits.message_words < 2 ^ 64 = omega arith in
    let bad : false ≡ true =
    c.in_err-words.ensures.served only.limits.message_words (words, low, high) small in absurd cc

pub returns-in_err-list-clause-served : goal.returns-in_err-list-clause-served
returns-in_err-list-clause-served c only (form, words, usual, list) =
    let bad : false ≡ true = c.in_err-list.ensures.served only.list.now list in absurd cc
