use Rattle.std.proofs.Common.{◌≡◌, true, false}
use Rattle.clap.specs.Words.{found_of, rows_of}
use Rattle.capn_args.proofs.NamedInvocations.{explained_flag}
use Rattle.capn_args.proofs.explain_options.explain_of.Goals as goal

pub returns-in_err-flag_of-clause-served : goal.returns-in_err-flag_of-clause-served
returns-in_err-flag_of-clause-served c explanation is =
    let flag = explained_flag (rows_of (found_of c.args.matches.now)) explanation is in
    let bad : false ≡ true = c.in_err-flag_of.ensures.served flag.0 flag.1 in absurd cc
