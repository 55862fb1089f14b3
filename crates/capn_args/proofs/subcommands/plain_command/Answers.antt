use Rattle.std.proofs.Common.{◌∙◌, ◌≡◌}
use Rattle.clap.specs.Simple.{app_of_fields}
use Rattle.clap.specs.declared.builder.command.Command.{Command}
use Rattle.clap.specs.declared.builder.command.Command.TheOpen.{Command-F}
use Rattle.capn_args.proofs.subcommands.plain_command.Goals as goal

same_line : {f g : Command-F Command} → f ≡ g → app_of_fields f ≡ app_of_fields g
same_line e = cc

same_globals : {f g : Command-F Command} → f ≡ g → f.has_globals ≡ g.has_globals
same_globals e = cc

pub returns-clause-app : goal.returns-clause-app
returns-clause-app c = same_line c.override_usage.ensures
    ∙ (same_line c.after_help.ensures ∙ (same_line c.about.ensures
    ∙ (same_line c.before_help.ensures ∙ c.new.ensures.app)))

pub returns-clause-local : goal.returns-clause-local
returns-clause-local c = same_globals c.override_usage.ensures
    ∙ (same_globals c.after_help.ensures ∙ (same_globals c.about.ensures
    ∙ (same_globals c.before_help.ensures ∙ c.new.ensures.local)))
