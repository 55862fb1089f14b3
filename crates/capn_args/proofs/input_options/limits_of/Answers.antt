use Rattle.std.proofs.Common.{◌≡◌, ◌≤◌, ◌^◌, true, false, arith}
use Rattle.capn_args.proofs.input_options.limits_of.Goals as goal

pub returns-in_err-message_words-clause-served : goal.returns-in_err-message_words-clause-served
returns-in_err-message_words-clause-served c limits (words, budget, depth, tariff, ranges) =
    let small : limits.message_words ≤ 2 ^ 28 = ranges.few_words in
    let bad : false ≡ true = c.in_err-message_words.ensures.served limits.message_words words (omega arith) in absurd cc

pub returns-in_err-budget-clause-served : goal.returns-in_err-budget-clause-served
returns-in_err-budget-clause-served c limits (words, budget, depth, tariff, ranges) =
    let small : limits.budget ≤ 2 ^ 28 = ranges.small_budget in
    let bad : false ≡ true = c.in_err-budget.ensures.served limits.budget budget (omega arith) in absurd cc

pub returns-in_err-depth-clause-served : goal.returns-in_err-depth-clause-served
returns-in_err-depth-clause-served c limits (words, budget, depth, tariff, ranges) =
    let small : limits.depth ≤ 256 = ranges.small_depth in
    let bad : false ≡ true = c.in_err-depth.ensures.served limits.depth depth (omega arith) in absurd cc
