use Rattle.std.proofs.Common.{◌≡◌, ◌<◌, ◌≤◌, ◌-◌, ◌^◌, true, false, arith}
use Rattle.capn_args.proofs.pick_options.pick_of.Goals as goal

pub returns-in_err-words-clause-served : goal.returns-in_err-words-clause-served
returns-in_err-words-clause-served c pick (form, (words, low, high), usual, from, to, none) =
    let most : pick.limits.message_words ≤ 2 ^ 28 = high in
    let small : pick.limits.message_words < 2 ^ 64 = omega arith in
    let bad : false ≡ true =
    c.in_err-words.ensures.served pick.limits.message_words (words, low, high) small in absurd cc

pub returns-in_err-from-clause-served : goal.returns-in_err-from-clause-served
returns-in_err-from-clause-served c pick (form, words, usual, (from, low, high), to, none) =
    let most : pick.from ≤ 2 ^ 64 - 1 = high in
    let small : pick.from < 2 ^ 64 = omega arith in
    let bad : false ≡ true = c.in_err-from.ensures.served pick.from (from, low, high) small in absurd cc

pub returns-in_err-to-clause-served : goal.returns-in_err-to-clause-served
returns-in_err-to-clause-served c pick (form, words, usual, from, (to, low, high), none) =
    let most : pick.to ≤ 2 ^ 64 - 1 = high in
    let small : pick.to < 2 ^ 64 = omega arith in
    let bad : false ≡ true = c.in_err-to.ensures.served pick.to (to, low, high) small in absurd cc
