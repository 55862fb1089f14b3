use Rattle.capn_args.proofs.subcommands.named_command.Goals as goal

pub returns : goal.returns
returns c = c.with_options.ensures _ (c.plain_command-command.ensures.app, c.plain_command-command.ensures.local)
