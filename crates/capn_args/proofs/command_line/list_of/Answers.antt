use Rattle.std.proofs.Common.{◌≡◌, true, false}
use Rattle.clap.specs.Words.{found_of, rows_of}
use Rattle.capn_args.proofs.NamedInvocations.{list_means}
use Rattle.capn_args.proofs.command_line.list_of.Goals as goal

pub returns-in_err-flag_of-clause-served : goal.returns-in_err-flag_of-clause-served
returns-in_err-flag_of-clause-served c invocation means =
    let (archive, (digest, given), options) = list_means (rows_of (found_of c.args.matches.now)) invocation means in
    let bad : false ≡ true = c.in_err-flag_of.ensures.served digest given in absurd cc
