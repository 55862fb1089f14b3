use Rattle.std.proofs.Common.{◌≡◌, drop}
use Rattle.clap.specs.Words.{app_of}
use Rattle.capn_args.specs.CommandLine.{with_commands}
use Rattle.capn_args.specs.inner.Rows.{texts_of}
use Rattle.capn_args.proofs.subcommands.with_commands.Given as goal

abbrev pub invariant-loop-name : goal.invariant-loop-name
invariant-loop-name l =
    with_commands (app_of l.program) (texts_of (drop l.name-index l.names))
    ≡ with_commands (app_of l.fn.program) (texts_of l.names)
