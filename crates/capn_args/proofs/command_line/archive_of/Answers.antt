use Rattle.std.proofs.Common.{◌≡◌, true, false}
use Rattle.capn_args.proofs.command_line.archive_of.Goals as goal

pub returns-in_err-limits-clause-served : goal.returns-in_err-limits-clause-served
returns-in_err-limits-clause-served c archive (form, limits, keep_going) =
    let bad : false ≡ true = c.in_err-limits.ensures.served archive.limits limits in absurd cc
