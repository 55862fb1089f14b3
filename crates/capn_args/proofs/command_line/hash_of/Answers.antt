use Rattle.std.proofs.Common.{◌≡◌, true, false}
use Rattle.clap.specs.Words.{found_of, rows_of}
use Rattle.capn_args.proofs.NamedInvocations.{hash_means}
use Rattle.capn_args.proofs.command_line.hash_of.Goals as goal

pub returns-in_err-form-clause-served : goal.returns-in_err-form-clause-served
returns-in_err-form-clause-served c invocation means =
    let (form, limits, one, (is, are, told)) = hash_means (rows_of (found_of c.args.matches.now)) invocation means in
    let bad : false ≡ true = c.in_err-form.ensures.served form is in absurd cc

pub returns-in_err-limits-clause-served : goal.returns-in_err-limits-clause-served
returns-in_err-limits-clause-served c invocation means =
    let (form, limits, one, (is, are, told)) = hash_means (rows_of (found_of c.args.matches.now)) invocation means in
    let bad : false ≡ true = c.in_err-limits.ensures.served limits are in absurd cc

pub returns-in_err-flag_of-clause-served : goal.returns-in_err-flag_of-clause-served
returns-in_err-flag_of-clause-served c invocation means =
    let (form, limits, one, (is, are, told)) = hash_means (rows_of (found_of c.args.matches.now)) invocation means in
    let bad : false ≡ true = c.in_err-flag_of.ensures.served one told in absurd cc
