use Rattle.std.proofs.Common.{◌≡◌, false, drop}
use Rattle.clap.specs.Words.{app_of}
use Rattle.clap.specs.declared.builder.command.Command.TheViews.{out-Command}
use Rattle.capn_args.specs.inner.Rows.{with_rows}
use Rattle.capn_args.proofs.subcommands.with_options.Given as goal

abbrev pub invariant-loop-row : goal.invariant-loop-row
invariant-loop-row l =
    (with_rows l.name (app_of l.command) (drop l.row-index l.rows)
    ≡ with_rows l.name (app_of l.fn.command) l.rows)
    × ((out-Command l.fn.command).has_globals ≡ false → (out-Command l.command).has_globals ≡ false)
