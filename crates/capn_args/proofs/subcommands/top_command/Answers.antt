use Rattle.std.proofs.Common.{ap, ◌∙◌, true}
use Rattle.clap.specs.Words.{App}
use Rattle.clap.specs.Simple.{app_of_fields}
use Rattle.capn_args.proofs.subcommands.top_command.Goals as goal

abbrev required : App → App
required a = record a { top = record a.top { subcommand_required = true } }

abbrev versioned : App → App
versioned a = record a { top = record a.top { has_version = true } }

pub returns : goal.returns
returns c =
    ap app_of_fields c.version.ensures
    ∙ ap versioned (ap app_of_fields c.subcommand_required.ensures ∙ ap required c.plain_command.ensures.app)
