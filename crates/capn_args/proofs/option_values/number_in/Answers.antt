use Rattle.std.proofs.Common.{◌≡◌, true, false}
use Rattle.capn_args.proofs.option_values.number_in.Goals as goal

pub returns-in_err-number-clause-served : goal.returns-in_err-number-clause-served
returns-in_err-number-clause-served c n (is, low, high) small =
    let bad : false ≡ true = c.in_err-number.ensures.served n is small in absurd cc
